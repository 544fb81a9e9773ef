-- The cells of two kinds of message: each kind in a list of its own, and all in one list.
use Rattle.std.proofs.Common.{◌≡◌, ℕ, ◌<◌, Result, Ok, Err, IfOk, OnErr, Bool, true, false, cond, List, [], ◌∷◌, ◌++◌, length, Option, None, Some, refl, ap, sym, ◌∙◌, arith, inl, inr, subst, All, filter}
use Rattle.std.specs.Option.{unwrap_or}
use Rattle.std.specs.List.{AllByRecursion}
use Rattle.std.proofs.lemmas.Bool.{cases_order, cases_eq, eq-eqb, ne_eqb}
use Rattle.std.proofs.lemmas.List.Elements.{recursion_from_All}
use Rattle.rtk_obs.specs.Slip.{is_same_source}
use Rattle.std.specs.Prelude.{◌==◌}
use Rattle.rtk_obs.specs.declared.cell.CellSource.{CellSource}
use Rattle.rtk_obs.specs.declared.cell.CellSource.TheVariants.{Legacy, Msm}
use Rattle.rtk_collect.specs.Key.{key, Above, KeysRise}
use Rattle.rtk_collect.specs.EpochSet.{with_cell, with_cells, cell_under, one_more, fresh, conflict, conflicts, is_from, AreKeptOf}
use Rattle.rtk_collect.specs.Laws.{earlier}
use Rattle.rtk_collect.proofs.CellsLemmas.{above-none, with_cell-new, with_cell-past, with_cell-same, with_cell-rises, with_cells-rises, with_cells-each, with_cells-all}
use Rattle.rtk_collect.proofs.EqualityLemmas.{key-one}
use Rattle.rtk_collect.proofs.UnderLemmas.{earlier-assoc, under-with_cells}
use Rattle.rtk_collect.specs.Entries.{Entries}

abbrev pub IsOf : {E S : Type 0} → Entries E S → CellSource → E → Type 0
IsOf es s c = (es.cell c).source ≡ s

msm-legacy : Msm ≡ Legacy → ⊥
msm-legacy h = cc

legacy-msm : Legacy ≡ Msm → ⊥
legacy-msm h = cc

-- ---- cells that rise are known by the cells under all keys

some-same : {E : Type 0} (x y : E) → Some x ≡ Some y → x ≡ y
some-same x y h = ap (λ o. unwrap_or o x) h

none-is : {E : Type 0} (x : E) → None ≡ Some x → ⊥
none-is x h = cc

under-here : {E S : Type 0} (es : Entries E S) (k : ℕ) (x : E) (xs : List E) → k ≡ key es x → cell_under es k (x ∷ xs) ≡ Some x
under-here es k x xs h = rw (eq-eqb k (key es x) h) refl

under-past : {E S : Type 0} (es : Entries E S) (k : ℕ) (x : E) (xs : List E) → (k ≡ key es x → ⊥) → cell_under es k (x ∷ xs) ≡ cell_under es k xs
under-past es k x xs h = rw (ne_eqb k (key es x) h) refl

under-above : {E S : Type 0} (es : Entries E S) (k : ℕ) (xs : List E) → KeysRise es xs → Above es k xs → cell_under es k xs ≡ None
under-above es k [] r a = refl
under-above es k (x ∷ xs) r a = above-none es k x xs r a

first-same : {E S : Type 0} (es : Entries E S) (x y : E) (xs ys : List E) → key es x ≡ key es y → ((k : ℕ) → cell_under es k (x ∷ xs) ≡ cell_under es k (y ∷ ys)) → x ≡ y
first-same es x y xs ys e h = some-same x y (sym (under-here es (key es x) x xs refl) ∙ h (key es x) ∙ under-here es (key es x) y ys e)

rest-same : {E S : Type 0} (es : Entries E S) (x y : E) (xs ys : List E) → KeysRise es (x ∷ xs) → KeysRise es (y ∷ ys) → key es x ≡ key es y → ((k : ℕ) → cell_under es k (x ∷ xs) ≡ cell_under es k (y ∷ ys)) → (k : ℕ) → cell_under es k xs ≡ cell_under es k ys
rest-same es x y xs ys f g e h k = elim (cases_eq k (key es x)) [
  | inl here ↦
      let one : cell_under es k xs ≡ None = ap (λ t. cell_under es t xs) here ∙ under-above es (key es x) xs f.1 f.0 in
      let two : cell_under es k ys ≡ None = ap (λ t. cell_under es t ys) (here ∙ e) ∙ under-above es (key es y) ys g.1 g.0 in
      one ∙ sym two
  | inr other ↦ sym (under-past es k x xs other) ∙ h k ∙ under-past es k y ys (λ q. other (q ∙ sym e))
]

rises-same : {E S : Type 0} (es : Entries E S) (xs ys : List E) → KeysRise es xs → KeysRise es ys → ((k : ℕ) → cell_under es k xs ≡ cell_under es k ys) → xs ≡ ys
rises-same es [] [] f g h = refl
rises-same es [] (y ∷ ys) f g h = absurd (none-is y (h (key es y) ∙ under-here es (key es y) y ys refl))
rises-same es (x ∷ xs) [] f g h = absurd (none-is x (sym (h (key es x)) ∙ under-here es (key es x) x xs refl))
rises-same es (x ∷ xs) (y ∷ ys) f g h = elim (cases_order (key es x) (key es y)) [
  | inl same ↦
      let e : x ≡ y = first-same es x y xs ys same h in
      let t : xs ≡ ys = rises-same es xs ys f.1 g.1 (rest-same es x y xs ys f g same h) in
      ap (λ z. z ∷ xs) e ∙ ap (λ z. y ∷ z) t
  | inr more ↦ elim more [
    | inl less ↦ absurd (none-is x (sym (above-none es (key es x) y ys g less) ∙ sym (h (key es x)) ∙ under-here es (key es x) x xs refl))
    | inr past ↦ absurd (none-is y (sym (above-none es (key es y) x xs f past) ∙ h (key es y) ∙ under-here es (key es y) y ys refl))
  ]
]

-- ---- cells join cells that joined

joins-twice : {E S : Type 0} (es : Entries E S) (cells own other : List E) → KeysRise es own → KeysRise es other → with_cells es cells (with_cells es own other) ≡ with_cells es (with_cells es cells own) other
joins-twice es cells own other r s =
    rises-same es (with_cells es cells (with_cells es own other)) (with_cells es (with_cells es cells own) other)
    (with_cells-rises es cells (with_cells es own other) (with_cells-rises es own other s)) (with_cells-rises es (with_cells es cells own) other s)
    (λ k. under-with_cells es k cells (with_cells es own other) (with_cells-rises es own other s)
    ∙ ap (λ o. earlier o (cell_under es k cells)) (under-with_cells es k own other s)
    ∙ earlier-assoc (cell_under es k other) (cell_under es k own) (cell_under es k cells)
    ∙ ap (earlier (cell_under es k other)) (sym (under-with_cells es k cells own r))
    ∙ sym (under-with_cells es k (with_cells es cells own) other s))

-- ---- cells of two kinds have no key in common

under-is : {E S : Type 0} (es : Entries E S) (P : E → Type 0) (k : ℕ) (xs : List E) (x : E) → AllByRecursion P xs → cell_under es k xs ≡ Some x → (k ≡ key es x) × P x
under-is es P k [] x a h = absurd (none-is x h)
under-is es P k (y ∷ ys) x a h = elim (cases_eq k (key es y)) [
  | inl here ↦ let e : y ≡ x = some-same y x (sym (under-here es k y ys here) ∙ h) in (here ∙ ap (key es) e, subst P e a.0)
  | inr other ↦ under-is es P k ys x a.1 (sym (under-past es k y ys other) ∙ h)
]

apart : {E S : Type 0} (es : Entries E S) (s t : CellSource) (k : ℕ) (xs ys : List E) (x y : E) → (s ≡ t → ⊥) → AllByRecursion (IsOf es s) xs → AllByRecursion (IsOf es t) ys → cell_under es k xs ≡ Some x → cell_under es k ys ≡ Some y → ⊥
apart es s t k xs ys x y n a b h g =
    let one = under-is es (IsOf es s) k xs x a h in
    let two = under-is es (IsOf es t) k ys y b g in
    n (sym one.1 ∙ (key-one es x y (sym one.0 ∙ two.0)).1 ∙ two.1)

earlier-turn : {E : Type 0} (o p : Option E) → ((x y : E) → o ≡ Some x → p ≡ Some y → ⊥) → earlier o p ≡ earlier p o
earlier-turn None None n = refl
earlier-turn None (Some y) n = refl
earlier-turn (Some x) None n = refl
earlier-turn (Some x) (Some y) n = absurd (n x y refl refl)

-- so they join in either order
kinds-turn : {E S : Type 0} (es : Entries E S) (s t : CellSource) (xs ys : List E) → (s ≡ t → ⊥) → AllByRecursion (IsOf es s) xs → AllByRecursion (IsOf es t) ys → KeysRise es xs → KeysRise es ys → with_cells es xs ys ≡ with_cells es ys xs
kinds-turn es s t xs ys n a b f g =
    rises-same es (with_cells es xs ys) (with_cells es ys xs) (with_cells-rises es xs ys g) (with_cells-rises es ys xs f)
    (λ k. under-with_cells es k xs ys g
    ∙ earlier-turn (cell_under es k ys) (cell_under es k xs) (λ y x h o. apart es s t k xs ys x y n a b o h)
    ∙ sym (under-with_cells es k ys xs f))

under-other : {E S : Type 0} (es : Entries E S) (s t : CellSource) (c : E) (kept : List E) → (s ≡ t → ⊥) → IsOf es s c → AllByRecursion (IsOf es t) kept → cell_under es (key es c) kept ≡ None
under-other es s t c [] n i h = refl
under-other es s t c (x ∷ xs) n i h =
    rw (ne_eqb (key es c) (key es x) (λ q. n (sym i ∙ (key-one es c x q).1 ∙ h.0))) (under-other es s t c xs n i h.1)

-- ---- the cells of one kind, taken out

source-own : (s : CellSource) → is_same_source s s ≡ true
source-own Legacy = refl
source-own Msm = refl

source-other : (t s : CellSource) → (t ≡ s → ⊥) → is_same_source t s ≡ false
source-other Legacy Legacy n = absurd (n refl)
source-other Legacy Msm n = refl
source-other Msm Legacy n = refl
source-other Msm Msm n = absurd (n refl)

from-own : {E S : Type 0} (es : Entries E S) (s : CellSource) (c : E) → IsOf es s c → is_from es s c ≡ true
from-own es s c h = ap (λ t. is_same_source t s) h ∙ source-own s

from-other : {E S : Type 0} (es : Entries E S) (s t : CellSource) (c : E) → (t ≡ s → ⊥) → IsOf es t c → is_from es s c ≡ false
from-other es s t c n h = ap (λ u. is_same_source u s) h ∙ source-other t s n

filter-own : {E S : Type 0} (es : Entries E S) (s : CellSource) (xs : List E) → AllByRecursion (IsOf es s) xs → filter (is_from es s) xs ≡ xs
filter-own es s [] a = refl
filter-own es s (x ∷ xs) a =
    ap (λ (b : Bool). cond b (x ∷ filter (is_from es s) xs) (filter (is_from es s) xs)) (from-own es s x a.0) ∙ ap (λ t. x ∷ t) (filter-own es s xs a.1)

filter-cell : {E S : Type 0} (es : Entries E S) (s : CellSource) (c : E) (xs : List E) → is_from es s c ≡ false → filter (is_from es s) (with_cell es c xs) ≡ filter (is_from es s) xs
filter-cell es s c [] h = ap (λ (b : Bool). cond b (c ∷ []) []) h
filter-cell {E = E} es s c (x ∷ xs) h = elim (cases_order (key es c) (key es x)) [
  | inl same ↦ ap (filter (is_from es s)) (with_cell-same es c x xs same)
  | inr more ↦ elim more [
    | inl new ↦
        ap (filter (is_from es s)) (with_cell-new es c x xs new)
        ∙ ap (λ (b : Bool). cond b (c ∷ filter (is_from es s) (x ∷ xs)) (filter (is_from es s) (x ∷ xs))) h
    | inr past ↦
        ap (filter (is_from es s)) (with_cell-past es c x xs past)
        ∙ ap (λ (ys : List E). cond (is_from es s x) (x ∷ ys) ys) (filter-cell es s c xs h)
  ]
]

filter-cells : {E S : Type 0} (es : Entries E S) (s t : CellSource) (cells xs : List E) → (t ≡ s → ⊥) → AllByRecursion (IsOf es t) cells → filter (is_from es s) (with_cells es cells xs) ≡ filter (is_from es s) xs
filter-cells es s t [] xs n a = refl
filter-cells es s t (c ∷ more) xs n a = filter-cells es s t more (with_cell es c xs) n a.1 ∙ filter-cell es s c xs (from-other es s t c n a.0)

-- ---- cells of one kind don't see the other kind

-- two lists with the same cells under the keys of this kind
abbrev pub SameFor : {E S : Type 0} (es : Entries E S) → CellSource → List E → List E → Type 0
SameFor {E = E} es s xs ys = (c : E) → IsOf es s c → cell_under es (key es c) xs ≡ cell_under es (key es c) ys

same-with : {E S : Type 0} (es : Entries E S) (s : CellSource) (c : E) (xs ys : List E) → KeysRise es xs → KeysRise es ys → SameFor es s xs ys → SameFor es s (with_cell es c xs) (with_cell es c ys)
same-with es s c xs ys f g h d i =
    under-with_cells es (key es d) (c ∷ []) xs f ∙ ap (λ o. earlier o (cell_under es (key es d) (c ∷ []))) (h d i) ∙ sym (under-with_cells es (key es d) (c ∷ []) ys g)

fresh-same : {E S : Type 0} (es : Entries E S) (s : CellSource) (cells xs ys : List E) → AllByRecursion (IsOf es s) cells → SameFor es s xs ys → fresh es cells xs ≡ fresh es cells ys
fresh-same es s [] xs ys a h = refl
fresh-same es s (c ∷ more) xs ys a h = ap (λ o. one_more o (fresh es more xs)) (h c a.0) ∙ ap (one_more (cell_under es (key es c) ys)) (fresh-same es s more xs ys a.1 h)

conflicts-same : {E S : Type 0} (es : Entries E S) (s : CellSource) (cells xs ys : List E) → AllByRecursion (IsOf es s) cells → KeysRise es xs → KeysRise es ys → SameFor es s xs ys → conflicts es cells xs ≡ conflicts es cells ys
conflicts-same es s [] xs ys a f g h = refl
conflicts-same es s (c ∷ more) xs ys a f g h =
    ap (λ o. conflict es c o ++ conflicts es more (with_cell es c xs)) (h c a.0)
    ∙ ap (λ t. conflict es c (cell_under es (key es c) ys) ++ t) (conflicts-same es s more (with_cell es c xs) (with_cell es c ys) a.1 (with_cell-rises es c xs f) (with_cell-rises es c ys g) (same-with es s c xs ys f g h))

beside : {E S : Type 0} (es : Entries E S) (s t : CellSource) (own other : List E) → (s ≡ t → ⊥) → AllByRecursion (IsOf es t) other → KeysRise es other → SameFor es s (with_cells es own other) own
beside es s t own other n b g c i = under-with_cells es (key es c) own other g ∙ ap (λ o. earlier o (cell_under es (key es c) own)) (under-other es s t c other n i b)

-- ---- the lists of an epoch

kinds : {E S : Type 0} (es : Entries E S) (s : CellSource) (xs : List E) → All (IsOf es s) xs → AllByRecursion (IsOf es s) xs
kinds es s xs h = recursion_from_All (IsOf es s) xs h

module _ {E S : Type 0} (es : Entries E S) (InRange : E → Type 0) (msm legacy : List E) (m : AreKeptOf es InRange Msm msm) (l : AreKeptOf es InRange Legacy legacy) where
  pub both-rise : KeysRise es (with_cells es legacy msm)
  both-rise = with_cells-rises es legacy msm m.rises

  pub both-in-range : All InRange (with_cells es legacy msm)
  both-in-range = with_cells-all es InRange legacy msm l.range m.range

  turned : with_cells es msm legacy ≡ with_cells es legacy msm
  turned = kinds-turn es Msm Legacy msm legacy msm-legacy (kinds es Msm msm m.kind) (kinds es Legacy legacy l.kind) m.rises l.rises

  pub msm-is : msm ≡ filter (is_from es Msm) (with_cells es legacy msm)
  msm-is = sym (filter-cells es Msm Legacy legacy msm legacy-msm (kinds es Legacy legacy l.kind) ∙ filter-own es Msm msm (kinds es Msm msm m.kind))

  pub legacy-is : legacy ≡ filter (is_from es Legacy) (with_cells es legacy msm)
  legacy-is = sym (ap (filter (is_from es Legacy)) (sym turned) ∙ filter-cells es Legacy Msm msm legacy msm-legacy (kinds es Msm msm m.kind) ∙ filter-own es Legacy legacy (kinds es Legacy legacy l.kind))

  -- cells of a message join the list of their kind

  legacy-alone : SameFor es Legacy legacy (with_cells es legacy msm)
  legacy-alone c i = sym (beside es Legacy Msm legacy msm legacy-msm (kinds es Msm msm m.kind) m.rises c i)

  msm-alone : SameFor es Msm msm (with_cells es legacy msm)
  msm-alone c i = sym (ap (cell_under es (key es c)) (sym turned) ∙ beside es Msm Legacy msm legacy msm-legacy (kinds es Legacy legacy l.kind) l.rises c i)

  pub legacy-joins : (cells : List E) → with_cells es (with_cells es cells legacy) msm ≡ with_cells es cells (with_cells es legacy msm)
  legacy-joins cells = sym (joins-twice es cells legacy msm l.rises m.rises)

  pub msm-joins : (cells : List E) → All (IsOf es Msm) cells → with_cells es legacy (with_cells es cells msm) ≡ with_cells es cells (with_cells es legacy msm)
  msm-joins cells k =
      kinds-turn es Legacy Msm legacy (with_cells es cells msm) legacy-msm (kinds es Legacy legacy l.kind) (with_cells-each es (IsOf es Msm) cells msm (kinds es Msm cells k) (kinds es Msm msm m.kind))
      l.rises (with_cells-rises es cells msm m.rises)
      ∙ sym (joins-twice es cells msm legacy m.rises l.rises) ∙ ap (with_cells es cells) turned

  pub legacy-fresh : (cells : List E) → All (IsOf es Legacy) cells → fresh es cells legacy ≡ fresh es cells (with_cells es legacy msm)
  legacy-fresh cells k = fresh-same es Legacy cells legacy (with_cells es legacy msm) (kinds es Legacy cells k) legacy-alone

  pub msm-fresh : (cells : List E) → All (IsOf es Msm) cells → fresh es cells msm ≡ fresh es cells (with_cells es legacy msm)
  msm-fresh cells k = fresh-same es Msm cells msm (with_cells es legacy msm) (kinds es Msm cells k) msm-alone

  pub legacy-conflicts : (cells : List E) → All (IsOf es Legacy) cells → conflicts es cells legacy ≡ conflicts es cells (with_cells es legacy msm)
  legacy-conflicts cells k = conflicts-same es Legacy cells legacy (with_cells es legacy msm) (kinds es Legacy cells k) l.rises both-rise legacy-alone

  pub msm-conflicts : (cells : List E) → All (IsOf es Msm) cells → conflicts es cells msm ≡ conflicts es cells (with_cells es legacy msm)
  msm-conflicts cells k = conflicts-same es Msm cells msm (with_cells es legacy msm) (kinds es Msm cells k) m.rises both-rise msm-alone

pub kept-with : {E S : Type 0} (es : Entries E S) (InRange : E → Type 0) (s : CellSource) (cells own : List E) → AreKeptOf es InRange s own → All InRange cells → All (IsOf es s) cells → AreKeptOf es InRange s (with_cells es cells own)
kept-with es InRange s cells own h r k = record {
  rises = with_cells-rises es cells own h.rises;
  range = with_cells-all es InRange cells own r h.range;
  kind = with_cells-all es (IsOf es s) cells own k h.kind;
}

-- a list after a call that puts it in one way or leaves it in another
pub either-list : {X T F : Type 0} (r : Result T F) (P : List X → Type 0) (x a b : List X) → IfOk r (λ n. x ≡ a) → OnErr r (x ≡ b) → P a → P b → P x
either-list (Ok n) P x a b h e p q = subst P (sym h) p
either-list (Err d) P x a b h e p q = subst P (sym e) q

pub kept-none : {E S : Type 0} (es : Entries E S) (InRange : E → Type 0) (s : CellSource) → AreKeptOf es InRange s []
kept-none es InRange s = record {
  rises = tt;
  range = λ k d l. absurd (omega arith);
  kind = λ k d l. absurd (omega arith);
}

pub some-cells : {E : Type 0} (xs : List E) (b : Bool) → b ≡ (length xs == 0) → b ≡ false → 0 < length xs
some-cells [] b h k = let q : true ≡ false = sym h ∙ k in cc
some-cells (x ∷ xs) b h k = omega arith

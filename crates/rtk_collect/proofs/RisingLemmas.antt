-- Cells that rise join an epoch without cells as they are.
use Rattle.std.proofs.Common.{◌≡◌, ℕ, zero, suc, ◌+◌, ◌-◌, ◌<◌, ◌≤◌, List, [], ◌∷◌, ◌++◌, length, get_or, drop, true, Option, None, Some, refl, ap, append_assoc, length-append, sym, ◌∙◌, arith, inl, inr, subst}
use Rattle.std.specs.Prelude.{◌==◌, if◌then◌else◌}
use Rattle.std.specs.List.{AllByRecursion}
use Rattle.std.proofs.lemmas.Bool.{cases_order, ne_eqb, both_ways}
use Rattle.std.proofs.lemmas.List.{append-nil}
use Rattle.rtk_obs.specs.Cell.{IsBefore, AreRising}
use Rattle.rtk_obs.specs.declared.cell.CellEntry.{CellEntry}
use Rattle.rtk_collect.specs.Key.{key, key_at, rank_of, Above, KeysRise}
use Rattle.rtk_collect.specs.EpochSet.{with_cell, with_cells, cell_under, one_more, fresh, conflict, conflicts}
use Rattle.rtk_collect.specs.Steps.OrderedPlaces.{lower}
use Rattle.rtk_collect.proofs.CellsLemmas.{with_cell-new, with_cell-past, with_cell-same, with_cell-rises, with_cell-sets, with_cell-absent, lower-length, length-insert, fresh-length, drop-at}
use Rattle.rtk_collect.proofs.EqualityLemmas.{place-less, rank-less}
use Rattle.rtk_collect.specs.Gps.{gps}
use Rattle.rtk_collect.specs.Entries.{Entries}

-- cells that rise by satellite and code have keys that rise

key-rises : (c d : CellEntry) → IsBefore c d → key gps c < key gps d
unfolding key key_at
key-rises c d (inl less) = omega (arith, less, place-less c.code, rank-less c.cell.source)
key-rises c d (inr (same, less)) = omega (arith, same, less, rank-less c.cell.source)

pub keys-rise : (cells : List CellEntry) → AreRising cells → KeysRise gps cells
keys-rise [] r = tt
keys-rise (x ∷ []) r = (tt, tt)
keys-rise (x ∷ y ∷ ys) r = (key-rises x y (r 0 1 x (omega arith) (omega arith)), keys-rise (y ∷ ys) (λ i j d below inside. r (suc i) (suc j) d (omega arith) (omega arith)))

-- cells after the kept ones

pub rises-before : {E S : Type 0} (es : Entries E S) (x c : E) (xs more : List E) → KeysRise es (x ∷ (xs ++ c ∷ more)) → key es x < key es c
rises-before es x c [] more r = r.0
rises-before es x c (y ∷ ys) more r = let h : key es y < key es c = rises-before es y c ys more r.1 in omega (arith, r.0)

last-cell : {E S : Type 0} (es : Entries E S) (c : E) (kept more : List E) → KeysRise es (kept ++ c ∷ more) → with_cell es c kept ≡ kept ++ c ∷ []
last-cell es c [] more r = refl
last-cell es c (x ∷ xs) more r = with_cell-past es c x xs (rises-before es x c xs more r) ∙ ap (λ t. x ∷ t) (last-cell es c xs more r.1)

under-none : {E S : Type 0} (es : Entries E S) (c : E) (kept more : List E) → KeysRise es (kept ++ c ∷ more) → cell_under es (key es c) kept ≡ None
under-none es c [] more r = refl
under-none es c (x ∷ xs) more r = let h : key es x < key es c = rises-before es x c xs more r in rw (ne_eqb (key es c) (key es x) (λ q. omega arith)) (under-none es c xs more r.1)

pub join-after : {E S : Type 0} (es : Entries E S) (cells kept : List E) → KeysRise es (kept ++ cells) → (with_cells es cells kept ≡ kept ++ cells) × (conflicts es cells kept ≡ [])
join-after es [] kept r = (sym (append-nil kept), refl)
join-after es (c ∷ more) kept r =
    let s : with_cell es c kept ≡ kept ++ c ∷ [] = last-cell es c kept more r in
    let a : (kept ++ c ∷ []) ++ more ≡ kept ++ c ∷ more = append_assoc kept (c ∷ []) more in
    let h = join-after es more (kept ++ c ∷ []) (subst (KeysRise es) (sym a) r) in
    (ap (with_cells es more) s ∙ h.0 ∙ a, ap (λ o. conflict es c o ++ conflicts es more (with_cell es c kept)) (under-none es c kept more r) ∙ ap (conflicts es more) s ∙ h.1)

fresh-all : {E S : Type 0} (es : Entries E S) (cells : List E) → fresh es cells [] ≡ length cells
fresh-all es [] = refl
fresh-all es (c ∷ more) = ap suc (fresh-all es more)

pub no-cells : {E : Type 0} (xs : List E) (n : ℕ) → n ≡ length xs → (n == 0) ≡ true → xs ≡ []
no-cells [] n e h = refl
no-cells (x ∷ xs) n e h = absurd (both_ways (n == 0) (ne_eqb n 0 (λ q. omega arith)) h)

-- what is kept under the keys of cells stays as another cell joins

under-with : {E S : Type 0} (es : Entries E S) (k : ℕ) (c : E) (xs : List E) → (k ≡ key es c → ⊥) → cell_under es k (with_cell es c xs) ≡ cell_under es k xs
under-with es k c [] n = rw (ne_eqb k (key es c) n) refl
under-with es k c (x ∷ xs) n = elim (cases_order (key es c) (key es x)) [
  | inl same ↦ rw (with_cell-same es c x xs same) refl
  | inr more ↦ elim more [
    | inl new ↦ rw (with_cell-new es c x xs new, ne_eqb k (key es c) n) refl
    | inr past ↦ rw (with_cell-past es c x xs past) (ap (λ t. if k == key es x then Some x else t) (under-with es k c xs n))
  ]
]

-- two lists with the same cells under the keys of these
abbrev Agree : {E S : Type 0} (es : Entries E S) → List E → List E → List E → Type 0
Agree {E = E} es xs ys cells = AllByRecursion (λ (c : E). cell_under es (key es c) xs ≡ cell_under es (key es c) ys) cells

agree-with : {E S : Type 0} (es : Entries E S) (k : ℕ) (c : E) (cells xs : List E) → key es c ≤ k → Above es k cells → KeysRise es cells → Agree es (with_cell es c xs) xs cells
agree-with es k c [] xs h a r = tt
agree-with es k c (x ∷ cells) xs h a r = (under-with es (key es x) c xs (λ q. omega (arith, a)), agree-with es (key es x) c cells xs (omega (arith, a)) r.0 r.1)

fresh-agree : {E S : Type 0} (es : Entries E S) (cells xs ys : List E) → Agree es xs ys cells → fresh es cells xs ≡ fresh es cells ys
fresh-agree es [] xs ys a = refl
fresh-agree es (c ∷ more) xs ys a = ap (λ o. one_more o (fresh es more xs)) a.0 ∙ ap (one_more (cell_under es (key es c) ys)) (fresh-agree es more xs ys a.1)

agree-both : {E S : Type 0} (es : Entries E S) (k : ℕ) (c : E) (cells xs ys : List E) → key es c ≤ k → Above es k cells → KeysRise es cells → Agree es xs ys cells → Agree es (with_cell es c xs) (with_cell es c ys) cells
agree-both es k c [] xs ys h b r a = tt
agree-both es k c (x ∷ cells) xs ys h b r a =
    (under-with es (key es x) c xs (λ q. omega (arith, b)) ∙ a.0 ∙ sym (under-with es (key es x) c ys (λ q. omega (arith, b))), agree-both es (key es x) c cells xs ys (omega (arith, b)) r.0 r.1 a.1)

conflicts-agree : {E S : Type 0} (es : Entries E S) (cells xs ys : List E) → KeysRise es cells → Agree es xs ys cells → conflicts es cells xs ≡ conflicts es cells ys
conflicts-agree es [] xs ys r a = refl
conflicts-agree es (c ∷ more) xs ys r a =
    ap (λ o. conflict es c o ++ conflicts es more (with_cell es c xs)) a.0
    ∙ ap (λ t. conflict es c (cell_under es (key es c) ys) ++ t) (conflicts-agree es more (with_cell es c xs) (with_cell es c ys) r.1 (agree-both es (key es c) c more xs ys (omega arith) r.0 r.1 a.1))

-- a cell that joins is no conflict for the ones after it
pub conflicts-rest : {E S : Type 0} (es : Entries E S) (c : E) (more xs : List E) → KeysRise es (c ∷ more) → conflicts es more (with_cell es c xs) ≡ conflicts es more xs
conflicts-rest es c more xs r = conflicts-agree es more (with_cell es c xs) xs r.1 (agree-with es (key es c) c more xs (omega arith) r.0 r.1)

rises-drop : {E S : Type 0} (es : Entries E S) (i : ℕ) (xs : List E) → KeysRise es xs → KeysRise es (drop i xs)
rises-drop es zero xs r = r
rises-drop es (suc i) [] r = tt
rises-drop es (suc i) (x ∷ xs) r = rises-drop es i xs r.1

-- the search for conflicts passes a new cell
pub none-conflicts : {E S : Type 0} (es : Entries E S) (i : ℕ) (d : E) (cells kept : List E) (some all : List S) → i < length cells → KeysRise es cells → cell_under es (key es (get_or cells i d)) kept ≡ None
    → some ++ conflicts es (drop i cells) kept ≡ all → some ++ conflicts es (drop (i + 1) cells) kept ≡ all
none-conflicts es i d cells kept some all l r u h =
    let c = get_or cells i d in
    let more = drop (i + 1) cells in
    let e : conflicts es (drop i cells) kept ≡ conflicts es more kept =
    ap (λ t. conflicts es t kept) (drop-at i d cells l) ∙ ap (λ o. conflict es c o ++ conflicts es more (with_cell es c kept)) u ∙ conflicts-rest es c more kept (subst (KeysRise es) (drop-at i d cells l) (rises-drop es i cells r)) in
    ap (λ t. some ++ t) (sym e) ∙ h

-- as many cells as are kept, and one for each new one

one-longer : {E S : Type 0} (es : Entries E S) (c : E) (o : Option E) (xs : List E) → KeysRise es xs → cell_under es (key es c) xs ≡ o → length (with_cell es c xs) ≡ one_more o (length xs)
one-longer es c None xs r h = ap length (with_cell-absent es c xs h) ∙ length-insert c (lower es (key es c) xs) xs (lower-length es (key es c) xs)
one-longer es c (Some x) xs r h = ap length (with_cell-sets es c x xs r h)

one-and-more : {E : Type 0} (o : Option E) (m n : ℕ) → one_more o m + n ≡ m + one_more o n
one-and-more None m n = omega arith
one-and-more (Some x) m n = refl

pub length-with : {E S : Type 0} (es : Entries E S) (cells xs : List E) → KeysRise es cells → KeysRise es xs → length (with_cells es cells xs) ≡ length xs + fresh es cells xs
length-with es [] xs r k = omega arith
length-with es (c ∷ more) xs r k =
    length-with es more (with_cell es c xs) r.1 (with_cell-rises es c xs k)
    ∙ ap (λ n. length (with_cell es c xs) + n) (fresh-agree es more (with_cell es c xs) xs (agree-with es (key es c) c more xs (omega arith) r.0 r.1))
    ∙ ap (λ n. n + fresh es more xs) (one-longer es c (cell_under es (key es c) xs) xs k refl)
    ∙ one-and-more (cell_under es (key es c) xs) (length xs) (fresh es more xs)

-- cells that are all new conflict with none

all-new : {E : Type 0} (o : Option E) (m n : ℕ) → m ≤ n → one_more o m ≡ suc n → (o ≡ None) × (m ≡ n)
all-new None m n l h = (refl, omega arith)
all-new (Some x) m n l h = absurd (omega arith)

pub no-conflicts : {E S : Type 0} (es : Entries E S) (cells xs : List E) → KeysRise es cells → fresh es cells xs ≡ length cells → conflicts es cells xs ≡ []
no-conflicts es [] xs r h = refl
no-conflicts es (c ∷ more) xs r h =
    let q = all-new (cell_under es (key es c) xs) (fresh es more xs) (length more) (fresh-length es more xs) h in
    ap (λ o. conflict es c o ++ conflicts es more (with_cell es c xs)) q.0 ∙ conflicts-rest es c more xs r ∙ no-conflicts es more xs r.1 q.1

-- cells that rise after the kept ones
pub record Alone {E S : Type 0} (es : Entries E S) (cells kept : List E) : Type 0 where
  pub items : kept ++ cells ≡ with_cells es cells kept
  pub fresh : length cells ≡ fresh es cells kept
  pub conflicts : [] ≡ conflicts es cells kept

pub alone : {E S : Type 0} (es : Entries E S) (cells kept : List E) → kept ≡ [] → KeysRise es cells → Alone es cells kept
alone {E = E} es cells kept none r = subst (λ (t : List E). Alone es cells t) (sym none) (record {
  items = sym (join-after es cells [] r).0;
  fresh = sym (fresh-all es cells);
  conflicts = sym (join-after es cells [] r).1;
})

pub after-all : {E S : Type 0} (es : Entries E S) (cells kept : List E) → KeysRise es cells → KeysRise es kept → KeysRise es (kept ++ cells) → Alone es cells kept
after-all es cells kept r k all =
    let h = join-after es cells kept all in
    record {
      items = sym h.0;
      fresh = omega (arith, ap length h.0, length-append kept cells, length-with es cells kept r k);
      conflicts = sym h.1;
    }

-- of two cells of one kind the one with the lesser place has the lesser key
pub place-key : {E S : Type 0} (es : Entries E S) (c d : E) → (es.cell c).source ≡ (es.cell d).source → es.place c < es.place d → key es c < key es d
unfolding key key_at
place-key es c d same less = omega (arith, less, ap rank_of same)

-- ---- cells of which the first has a greater key than the last one of others

pub rises-after : {E S : Type 0} (es : Entries E S) (kept cells : List E) (d : E) → KeysRise es kept → KeysRise es cells → 0 < length kept → 0 < length cells
    → key es (get_or kept (length kept - 1) d) < key es (get_or cells 0 d) → KeysRise es (kept ++ cells)
rises-after es [] cells d r s some more less = absurd (omega (arith, some))
rises-after es (x ∷ []) [] d r s some more less = absurd (omega (arith, more))
rises-after es (x ∷ []) (c ∷ cells) d r s some more less = (less, s)
rises-after es (x ∷ y ∷ ys) cells d r s some more less =
    let back : suc (suc (length ys)) - 1 ≡ suc (length ys) = omega arith in
    let front : suc (length ys) - 1 ≡ length ys = omega arith in
    let at = subst (λ (n : ℕ). key es (get_or (x ∷ y ∷ ys) n d) < key es (get_or cells 0 d)) back less in
    let last = subst (λ (n : ℕ). key es (get_or (y ∷ ys) n d) < key es (get_or cells 0 d)) (sym front) at in
    (r.0, rises-after es (y ∷ ys) cells d r.1 s (omega arith) more last)

-- ---- a list whose keys rise from some place on

pub rises-last : {E S : Type 0} (es : Entries E S) (xs : List E) (n : ℕ) → n ≡ length xs → KeysRise es (drop (n - 1) xs)
rises-last es [] n e = subst (λ (k : ℕ). KeysRise es (drop (k - 1) [])) (sym e) tt
rises-last es (x ∷ []) n e = subst (λ (k : ℕ). KeysRise es (drop (k - 1) (x ∷ []))) (sym e) (tt, tt)
rises-last es (x ∷ y ∷ ys) n e =
    let two : n ≡ suc (suc (length ys)) = e in
    let one : n - 1 ≡ suc (length ys) = omega (arith, two) in
    let none : suc (length ys) - 1 ≡ length ys = omega arith in
    subst (λ (k : ℕ). KeysRise es (drop k (x ∷ y ∷ ys))) (sym one) (subst (λ (k : ℕ). KeysRise es (drop k (y ∷ ys))) none (rises-last es (y ∷ ys) (suc (length ys)) refl))

pub rises-from : {E S : Type 0} (es : Entries E S) (i : ℕ) (d : E) (xs : List E) → i + 1 < length xs → key es (get_or xs i d) < key es (get_or xs (i + 1) d) → KeysRise es (drop (i + 1) xs) → KeysRise es (drop i xs)
rises-from es i d xs inside less r =
    subst (KeysRise es) (sym (drop-at i d xs (omega (arith, inside))))
    (subst (Above es (key es (get_or xs i d))) (sym (drop-at (i + 1) d xs inside)) less, r)

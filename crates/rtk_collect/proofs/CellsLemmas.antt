use Rattle.std.proofs.Common.{◌≡◌, ◌≢◌, ℕ, zero, suc, ◌+◌, ◌-◌, ◌<◌, ◌≤◌, Bool, true, false, List, [], ◌∷◌, ◌++◌, length, get_or, drop, Option, None, Some, refl, ap, append_assoc, sym, ◌∙◌, arith, inl, inr, subst}
use Rattle.std.specs.Prelude.{if◌then◌else◌}
use Rattle.std.proofs.lemmas.Bool.{lt-ltb, le-ltb, cases_order, cases_lt, eq-eqb, ne_eqb, cases_eq}
use Rattle.std.proofs.lemmas.List.{length-append}
use Rattle.std.proofs.Common.{add-one, drop-cons}
use Rattle.std.specs.Option.{is_some}
use Rattle.std.specs.List.{All, AllByRecursion, insert}
use Rattle.std.proofs.lemmas.List.Elements.{All-from_recursion, recursion_from_All}
use Rattle.rtk_obs.specs.Cell.{IsSatellite, IsInRange}
use Rattle.rtk_obs.specs.declared.cell.CellEntry.{CellEntry}
use Rattle.std.specs.Prelude.{◌*◌, not}
use Rattle.rtk_obs.specs.Code.{place_of}
use Rattle.rtk_collect.specs.Key.{key, key_at, rank_of, Above, KeysRise}
use Rattle.rtk_collect.proofs.EqualityLemmas.{place-less, rank-less}
use Rattle.rtk_collect.specs.EpochSet.{AreCellsOfEpoch, with_cell, with_cells, cell_under, one_more, fresh, equal_values, conflict, conflicts}
use Rattle.rtk_collect.specs.Steps.OrderedPlaces.{lower}
use Rattle.rtk_collect.specs.Gps.{gps}
use Rattle.rtk_collect.specs.Entries.{Entries}

-- some cell of a list, for a look-up that wants one
pub some_cell : {X : Type 0} (xs : List X) → 0 < length xs → X
some_cell [] h = absurd (omega arith)
some_cell (x ∷ xs) h = x

-- A cell joins cells: with_cell by its three cases
pub with_cell-new : {E S : Type 0} (es : Entries E S) (c x : E) (xs : List E) → key es c < key es x → with_cell es c (x ∷ xs) ≡ c ∷ x ∷ xs
with_cell-new es c x xs h = rw (lt-ltb (key es c) (key es x) h) refl

pub with_cell-past : {E S : Type 0} (es : Entries E S) (c x : E) (xs : List E) → key es x < key es c → with_cell es c (x ∷ xs) ≡ x ∷ with_cell es c xs
with_cell-past es c x xs h = rw (le-ltb (key es c) (key es x) (omega arith), lt-ltb (key es x) (key es c) h) refl

pub with_cell-same : {E S : Type 0} (es : Entries E S) (c x : E) (xs : List E) → key es c ≡ key es x → with_cell es c (x ∷ xs) ≡ x ∷ xs
with_cell-same es c x xs h = rw (le-ltb (key es c) (key es x) (omega arith), le-ltb (key es x) (key es c) (omega arith)) refl

pub with_cell-above : {E S : Type 0} (es : Entries E S) (c x : E) (xs : List E) → key es x < key es c → Above es (key es x) xs → Above es (key es x) (with_cell es c xs)
with_cell-above es c x [] h b = h
with_cell-above es c x (y ∷ ys) h b = elim (cases_order (key es c) (key es y)) [
  | inl same ↦ rw (with_cell-same es c y ys same) b
  | inr more ↦ elim more [
    | inl new ↦ rw (with_cell-new es c y ys new) h
    | inr past ↦ rw (with_cell-past es c y ys past) b
  ]
]

pub with_cell-rises : {E S : Type 0} (es : Entries E S) (c : E) (xs : List E) → KeysRise es xs → KeysRise es (with_cell es c xs)
with_cell-rises es c [] h = (tt, tt)
with_cell-rises es c (x ∷ xs) h = elim (cases_order (key es c) (key es x)) [
  | inl same ↦ rw (with_cell-same es c x xs same) h
  | inr more ↦ elim more [
    | inl new ↦ rw (with_cell-new es c x xs new) (new, h)
    | inr past ↦ rw (with_cell-past es c x xs past) (with_cell-above es c x xs past h.0, with_cell-rises es c xs h.1)
  ]
]

pub with_cells-rises : {E S : Type 0} (es : Entries E S) (cells kept : List E) → KeysRise es kept → KeysRise es (with_cells es cells kept)
with_cells-rises es [] kept h = h
with_cells-rises es (c ∷ more) kept h = with_cells-rises es more (with_cell es c kept) (with_cell-rises es c kept h)

-- the place of a key

pub lower-length : {E S : Type 0} (es : Entries E S) (k : ℕ) (xs : List E) → lower es k xs ≤ length xs
lower-length es k [] = omega arith
lower-length es k (x ∷ xs) = elim (cases_lt (key es x) k) [
  | inl past ↦ rw (lt-ltb (key es x) k past) (let h : lower es k xs ≤ length xs = lower-length es k xs in omega arith)
  | inr here ↦ rw (le-ltb (key es x) k here) (omega arith)
]

pub above-all : {E S : Type 0} (es : Entries E S) (k : ℕ) (xs : List E) → Above es k xs → KeysRise es xs → (i : ℕ) (d : E) → i < length xs → k < key es (get_or xs i d)
above-all es k [] a r i d l = grind arith
above-all es k (x ∷ xs) a r zero d l = a
above-all es k (x ∷ xs) a r (suc i) d l = let h : key es x < key es (get_or xs i d) = above-all es (key es x) xs r.0 r.1 i d (omega arith) in omega (arith, a)

pub lower-past : {E S : Type 0} (es : Entries E S) (k i : ℕ) (d : E) (xs : List E) → KeysRise es xs → i < length xs → key es (get_or xs i d) < k → i < lower es k xs
lower-past es k i d [] r l h = grind arith
lower-past es k zero d (x ∷ xs) r l h = rw (lt-ltb (key es x) k h) (omega arith)
lower-past es k (suc i) d (x ∷ xs) r l h =
    let a : key es x < key es (get_or xs i d) = above-all es (key es x) xs r.0 r.1 i d (omega arith) in
    let p : i < lower es k xs = lower-past es k i d xs r.1 (omega arith) h in
    rw (lt-ltb (key es x) k (omega arith)) (omega arith)

pub lower-stop : {E S : Type 0} (es : Entries E S) (k i : ℕ) (d : E) (xs : List E) → i < length xs → k ≤ key es (get_or xs i d) → lower es k xs ≤ i
lower-stop es k i d [] l h = grind arith
lower-stop es k zero d (x ∷ xs) l h = rw (le-ltb (key es x) k h) (omega arith)
lower-stop es k (suc i) d (x ∷ xs) l h = elim (cases_lt (key es x) k) [
  | inl past ↦ rw (lt-ltb (key es x) k past) (let p : lower es k xs ≤ i = lower-stop es k i d xs (omega arith) h in omega arith)
  | inr here ↦ rw (le-ltb (key es x) k here) (omega arith)
]

-- the place of a cell

pub above-none : {E S : Type 0} (es : Entries E S) (k : ℕ) (x : E) (xs : List E) → KeysRise es (x ∷ xs) → k < key es x → cell_under es k (x ∷ xs) ≡ None
above-none es k x [] f h = rw (ne_eqb k (key es x) (λ q. omega arith)) refl
above-none es k x (y ∷ ys) f h = rw (ne_eqb k (key es x) (λ q. omega arith)) (above-none es k y ys f.1 (omega (arith, f.0)))

pub found-cell : {E S : Type 0} (es : Entries E S) (k : ℕ) (d : E) (xs : List E) → lower es k xs < length xs → key es (get_or xs (lower es k xs) d) ≡ k → cell_under es k xs ≡ Some (get_or xs (lower es k xs) d)
found-cell es k d [] l h = grind arith
found-cell es k d (x ∷ xs) l h = elim (cases_lt (key es x) k) [
  | inl past ↦ rw (lt-ltb (key es x) k past, ne_eqb k (key es x) (λ q. omega arith)) (found-cell es k d xs (let q = rw (lt-ltb (key es x) k past) at l in omega arith) (rw (lt-ltb (key es x) k past) at h))
  | inr here ↦ let q = rw (le-ltb (key es x) k here) at h in rw (le-ltb (key es x) k here, eq-eqb k (key es x) (sym q)) refl
]

pub absent-cell : {E S : Type 0} (es : Entries E S) (k : ℕ) (d : E) (xs : List E) → KeysRise es xs → (lower es k xs < length xs → key es (get_or xs (lower es k xs) d) ≢ k) → cell_under es k xs ≡ None
absent-cell es k d [] f h = refl
absent-cell es k d (x ∷ xs) f h = elim (cases_order k (key es x)) [
  | inl same ↦ absurd (rw (le-ltb (key es x) k (omega arith)) at h (omega arith) (sym same))
  | inr more ↦ elim more [
    | inl less ↦ above-none es k x xs f less
    | inr past ↦ rw (ne_eqb k (key es x) (λ q. omega arith)) (absent-cell es k d xs f.1 (λ l. rw (lt-ltb (key es x) k past) at h (omega arith)))
  ]
]

pub found-here : {E S : Type 0} (es : Entries E S) (k i : ℕ) (d : E) (xs : List E) → i ≡ lower es k xs → i < length xs → key es (get_or xs i d) ≡ k → cell_under es k xs ≡ Some (get_or xs i d)
found-here es k i d xs at l same =
    let here : get_or xs i d ≡ get_or xs (lower es k xs) d = ap (λ t. get_or xs t d) at in
    found-cell es k d xs (omega arith) (sym (ap (key es) here) ∙ same) ∙ ap Some (sym here)

pub absent-here : {E S : Type 0} (es : Entries E S) (k i : ℕ) (d : E) (xs : List E) → KeysRise es xs → i ≡ lower es k xs → key es (get_or xs i d) ≢ k → cell_under es k xs ≡ None
absent-here es k i d xs f at other =
    let here : get_or xs i d ≡ get_or xs (lower es k xs) d = ap (λ t. get_or xs t d) at in
    absent-cell es k d xs f (λ l q. other (ap (key es) here ∙ q))

pub absent-past : {E S : Type 0} (es : Entries E S) (k i : ℕ) (xs : List E) → KeysRise es xs → i ≡ lower es k xs → length xs ≤ i → cell_under es k xs ≡ None
absent-past es k i [] f at l = refl
absent-past es k i (x ∷ xs) f at l = absent-cell es k x (x ∷ xs) f (λ m. absurd (omega arith))

pub with_cell-sets : {E S : Type 0} (es : Entries E S) (c x : E) (xs : List E) → KeysRise es xs → cell_under es (key es c) xs ≡ Some x → with_cell es c xs ≡ xs
with_cell-sets es c x [] f h = cc
with_cell-sets es c x (y ∷ ys) f h = elim (cases_order (key es c) (key es y)) [
  | inl same ↦ with_cell-same es c y ys same
  | inr more ↦ elim more [
    | inl less ↦ let q = above-none es (key es c) y ys f less in cc
    | inr past ↦ rw (with_cell-past es c y ys past) (ap (λ t. y ∷ t) (with_cell-sets es c x ys f.1 (rw (ne_eqb (key es c) (key es y) (λ q. omega arith)) at h)))
  ]
]

pub with_cell-absent : {E S : Type 0} (es : Entries E S) (c : E) (xs : List E) → cell_under es (key es c) xs ≡ None → with_cell es c xs ≡ insert xs (lower es (key es c) xs) c
with_cell-absent es c [] h = refl
with_cell-absent es c (x ∷ xs) h = elim (cases_order (key es c) (key es x)) [
  | inl same ↦ let q = rw (eq-eqb (key es c) (key es x) same) at h in cc
  | inr more ↦ elim more [
    | inl less ↦ rw (lt-ltb (key es c) (key es x) less, le-ltb (key es x) (key es c) (omega arith)) refl
    | inr past ↦ rw (lt-ltb (key es x) (key es c) past, le-ltb (key es c) (key es x) (omega arith)) (ap (λ t. x ∷ t) (with_cell-absent es c xs (rw (ne_eqb (key es c) (key es x) (λ q. omega arith)) at h)))
  ]
]

-- the first cell under a key stays
pub with_cell-keeps : {E S : Type 0} (es : Entries E S) (k : ℕ) (c v : E) (xs : List E) → KeysRise es xs → cell_under es k xs ≡ Some v → cell_under es k (with_cell es c xs) ≡ Some v
with_cell-keeps es k c v [] f h = cc
with_cell-keeps es k c v (x ∷ xs) f h = elim (cases_order (key es c) (key es x)) [
  | inl same ↦ rw (with_cell-same es c x xs same) h
  | inr more ↦ elim more [
    | inl less ↦ elim (cases_lt k (key es x)) [
      | inl out ↦ let q = above-none es k x xs f out in cc
      | inr far ↦ rw (with_cell-new es c x xs less, ne_eqb k (key es c) (λ q. omega arith)) h
    ]
    | inr past ↦ rw (with_cell-past es c x xs past) (elim (cases_eq k (key es x)) [
      | inl here ↦ rw (eq-eqb k (key es x) here) (rw (eq-eqb k (key es x) here) at h)
      | inr other ↦ rw (ne_eqb k (key es x) other) (with_cell-keeps es k c v xs f.1 (rw (ne_eqb k (key es x) other) at h))
    ])
  ]
]

pub with_cells-keeps : {E S : Type 0} (es : Entries E S) (k : ℕ) (v : E) (cells kept : List E) → KeysRise es kept → cell_under es k kept ≡ Some v → cell_under es k (with_cells es cells kept) ≡ Some v
with_cells-keeps es k v [] kept f h = h
with_cells-keeps es k v (c ∷ more) kept f h = with_cells-keeps es k v more (with_cell es c kept) (with_cell-rises es c kept f) (with_cell-keeps es k c v kept f h)

-- room for the rest

pub one_more-le : {E : Type 0} (old new : Option E) (m n : ℕ) → ((v : E) → old ≡ Some v → new ≡ Some v) → m ≤ n → one_more new m ≤ one_more old n
one_more-le None None m n h l = omega arith
one_more-le None (Some x) m n h l = omega arith
one_more-le (Some x) None m n h l = let q = h x refl in cc
one_more-le (Some x) (Some y) m n h l = l

pub fresh-less : {E S : Type 0} (es : Entries E S) (c : E) (more kept : List E) → KeysRise es kept → fresh es more (with_cell es c kept) ≤ fresh es more kept
fresh-less es c [] kept f = omega arith
fresh-less es c (x ∷ more) kept f = one_more-le (cell_under es (key es x) kept) (cell_under es (key es x) (with_cell es c kept)) _ _ (λ v h. with_cell-keeps es (key es x) c v kept f h) (fresh-less es c more kept f)

pub length-insert : {E : Type 0} (c : E) (i : ℕ) (xs : List E) → i ≤ length xs → length (insert xs i c) ≡ suc (length xs)
length-insert c zero xs l = refl
length-insert c (suc i) [] l = grind arith
length-insert c (suc i) (x ∷ xs) l = ap suc (length-insert c i xs (omega arith))

pub room-step : {E S : Type 0} (es : Entries E S) (c : E) (o : Option E) (more kept : List E) → KeysRise es kept → cell_under es (key es c) kept ≡ o → length (with_cell es c kept) + fresh es more (with_cell es c kept) ≤ length kept + one_more o (fresh es more kept)
room-step es c None more kept f h =
    let l : fresh es more (with_cell es c kept) ≤ fresh es more kept = fresh-less es c more kept f in
    let n : length (with_cell es c kept) ≡ suc (length kept) = ap length (with_cell-absent es c kept h) ∙ length-insert c (lower es (key es c) kept) kept (lower-length es (key es c) kept) in
    omega arith
room-step es c (Some x) more kept f h = rw (with_cell-sets es c x kept f h) (omega arith)

-- no new cell, no change
none-step : {E S : Type 0} (es : Entries E S) (c : E) (o : Option E) (more kept : List E) → KeysRise es kept → cell_under es (key es c) kept ≡ o → one_more o (fresh es more kept) ≡ 0
    → (fresh es more kept ≡ 0 → with_cells es more kept ≡ kept) → with_cells es more (with_cell es c kept) ≡ kept
none-step es c None more kept f e h rest = absurd (omega arith)
none-step es c (Some x) more kept f e h rest = rw (with_cell-sets es c x kept f e) (rest h)

pub with_cells-none : {E S : Type 0} (es : Entries E S) (cells kept : List E) → KeysRise es kept → fresh es cells kept ≡ 0 → with_cells es cells kept ≡ kept
with_cells-none es [] kept f h = refl
with_cells-none es (c ∷ more) kept f h = none-step es c (cell_under es (key es c) kept) more kept f refl h (with_cells-none es more kept f)

-- the steps of the code

pub place-from : {E S : Type 0} (es : Entries E S) (k i : ℕ) (d : E) (xs : List E) → KeysRise es xs → i ≤ length xs → 0 < i → key es (get_or xs (i - 1) d) < k → i ≤ lower es k xs
place-from es k i d xs r l p h = let q : i - 1 < lower es k xs = lower-past es k (i - 1) d xs r (omega arith) h in omega arith

pub place-next : {E S : Type 0} (es : Entries E S) (k i : ℕ) (d : E) (xs : List E) → KeysRise es xs → i < length xs → key es (get_or xs i d) < k → i + 1 ≤ lower es k xs
place-next es k i d xs r l h = let q : i < lower es k xs = lower-past es k i d xs r l h in omega arith

pub place-ends : {E S : Type 0} (es : Entries E S) (k i : ℕ) (d : E) (xs : List E) → i ≤ lower es k xs → i < length xs → k ≤ key es (get_or xs i d) → i ≡ lower es k xs
place-ends es k i d xs p l h = let q : lower es k xs ≤ i = lower-stop es k i d xs l h in omega arith

pub drop-at : {E : Type 0} (i : ℕ) (d : E) (cells : List E) → i < length cells → drop i cells ≡ get_or cells i d ∷ drop (i + 1) cells
drop-at i d cells h = rw (add-one, drop-cons cells i d) refl

pub one_more-none : {E : Type 0} (o : Option E) (n : ℕ) → is_some o ≡ false → one_more o n ≡ suc n
one_more-none None n h = refl
one_more-none (Some x) n h = cc

pub one_more-some : {E : Type 0} (o : Option E) (n : ℕ) → is_some o ≡ true → one_more o n ≡ n
one_more-some None n h = cc
one_more-some (Some x) n h = refl

pub fresh-step : {E S : Type 0} (es : Entries E S) (i : ℕ) (d : E) (o : Option E) (cells kept : List E) → i < length cells → o ≡ cell_under es (key es (get_or cells i d)) kept
    → fresh es (drop i cells) kept ≡ one_more o (fresh es (drop (i + 1) cells) kept)
fresh-step es i d o cells kept l e = ap (λ t. fresh es t kept) (drop-at i d cells l) ∙ ap (λ t. one_more t (fresh es (drop (i + 1) cells) kept)) (sym e)

more-length : {E : Type 0} (o : Option E) (m n : ℕ) → m ≤ n → one_more o m ≤ suc n
more-length None m n h = omega arith
more-length (Some x) m n h = omega arith

pub fresh-length : {E S : Type 0} (es : Entries E S) (cells kept : List E) → fresh es cells kept ≤ length cells
fresh-length es [] kept = omega arith
fresh-length es (c ∷ more) kept = more-length (cell_under es (key es c) kept) _ _ (fresh-length es more kept)

-- one cell of a message, as the code does it
pub record Step {E S : Type 0} (es : Entries E S) (kept new : List E) (c : E) (more : List E) (cap : ℕ) : Type 0 where
  pub items : with_cells es more new ≡ with_cells es (c ∷ more) kept
  pub conflicts : conflicts es (c ∷ more) kept ≡ conflict es c (cell_under es (key es c) kept) ++ conflicts es more new
  pub rises : KeysRise es new
  pub room : length new + fresh es more new ≤ cap

pub step : {E S : Type 0} (es : Entries E S) (kept new : List E) (c : E) (more : List E) (cap : ℕ) → KeysRise es kept → new ≡ with_cell es c kept → length kept + fresh es (c ∷ more) kept ≤ cap → Step es kept new c more cap
step es kept new c more cap r e room =
    let q : length (with_cell es c kept) + fresh es more (with_cell es c kept) ≤ length kept + one_more (cell_under es (key es c) kept) (fresh es more kept) = room-step es c (cell_under es (key es c) kept) more kept r refl in
    record {
      items = ap (with_cells es more) e;
      conflicts = ap (λ t. conflict es c (cell_under es (key es c) kept) ++ conflicts es more t) (sym e);
      rises = rw e (with_cell-rises es c kept r);
      room = rw e (omega arith);
    }

room-first : {E : Type 0} (o : Option E) (n m cap : ℕ) → n + one_more o m ≤ cap → n + one_more o 0 ≤ cap
room-first None n m cap h = omega arith
room-first (Some x) n m cap h = omega arith

pub first-room : {E S : Type 0} (es : Entries E S) (kept : List E) (c : E) (more : List E) (cap : ℕ) → length kept + fresh es (c ∷ more) kept ≤ cap → length kept + fresh es (c ∷ []) kept ≤ cap
first-room es kept c more cap h = room-first (cell_under es (key es c) kept) _ _ _ h

pub with_cell-longer : {E S : Type 0} (es : Entries E S) (c : E) (xs : List E) → length xs ≤ length (with_cell es c xs)
with_cell-longer es c [] = omega arith
with_cell-longer es c (x ∷ xs) = elim (cases_order (key es c) (key es x)) [
  | inl same ↦ rw (with_cell-same es c x xs same) (omega arith)
  | inr more ↦ elim more [
    | inl new ↦ rw (with_cell-new es c x xs new) (omega arith)
    | inr past ↦ rw (with_cell-past es c x xs past) (let h : length xs ≤ length (with_cell es c xs) = with_cell-longer es c xs in omega arith)
  ]
]

-- the parts of the loop's invariant, over plain lists
pub merge-items : {E S : Type 0} (es : Entries E S) (i : ℕ) (d : E) (cells kept new all : List E) → i < length cells → new ≡ with_cell es (get_or cells i d) kept
    → with_cells es (drop i cells) kept ≡ all → with_cells es (drop (i + 1) cells) new ≡ all
merge-items es i d cells kept new all l e h = ap (with_cells es (drop (i + 1) cells)) e ∙ ap (λ t. with_cells es t kept) (sym (drop-at i d cells l)) ∙ h

pub merge-conflicts : {E S : Type 0} (es : Entries E S) (i : ℕ) (d : E) (cells kept new : List E) (some now all : List S) → i < length cells → new ≡ with_cell es (get_or cells i d) kept
    → conflict es (get_or cells i d) (cell_under es (key es (get_or cells i d)) kept) ≡ now
    → some ++ conflicts es (drop i cells) kept ≡ all → (some ++ now) ++ conflicts es (drop (i + 1) cells) new ≡ all
merge-conflicts es i d cells kept new some now all l e n h =
    append_assoc some _ _ ∙ ap (λ t. some ++ t) (rw (e, ← n) (ap (λ t. conflicts es t kept) (sym (drop-at i d cells l)))) ∙ h

-- a cell is kept under its key
pub kept-conflicts : {E S : Type 0} (es : Entries E S) (i : ℕ) (d x : E) (cells kept : List E) (some now all : List S) → i < length cells → KeysRise es kept → cell_under es (key es (get_or cells i d)) kept ≡ Some x
    → conflict es (get_or cells i d) (Some x) ≡ now → some ++ conflicts es (drop i cells) kept ≡ all → (some ++ now) ++ conflicts es (drop (i + 1) cells) kept ≡ all
kept-conflicts es i d x cells kept some now all l r u n h =
    merge-conflicts es i d cells kept kept some now all l (sym (with_cell-sets es (get_or cells i d) x kept r u)) (ap (conflict es (get_or cells i d)) u ∙ n) h

pub merge-room : {E S : Type 0} (es : Entries E S) (i : ℕ) (d : E) (cells kept new : List E) (cap cap' : ℕ) → i < length cells → KeysRise es kept → new ≡ with_cell es (get_or cells i d) kept
    → length kept + fresh es (drop i cells) kept ≤ cap → cap ≤ cap' → length new + fresh es (drop (i + 1) cells) new ≤ cap'
merge-room es i d cells kept new cap cap' l r e h k =
    let s = step es kept new (get_or cells i d) (drop (i + 1) cells) cap r e (rw (drop-at i d cells l) at h) in omega (arith, s.room)

pub put-room : {E S : Type 0} (es : Entries E S) (i : ℕ) (d : E) (cells kept : List E) (cap : ℕ) → i < length cells → length kept + fresh es (drop i cells) kept ≤ cap
    → length kept + fresh es (get_or cells i d ∷ []) kept ≤ cap
put-room es i d cells kept cap l h = first-room es kept (get_or cells i d) (drop (i + 1) cells) cap (rw (drop-at i d cells l) at h)

-- a fact of each cell, after cells join

pub with_cell-all : {E S : Type 0} (es : Entries E S) (P : E → Type 0) (c : E) (xs : List E) → P c → AllByRecursion P xs → AllByRecursion P (with_cell es c xs)
with_cell-all es P c [] p h = (p, tt)
with_cell-all es P c (x ∷ xs) p h = elim (cases_order (key es c) (key es x)) [
  | inl same ↦ subst (AllByRecursion P) (sym (with_cell-same es c x xs same)) h
  | inr more ↦ elim more [
    | inl new ↦ subst (AllByRecursion P) (sym (with_cell-new es c x xs new)) (p, h)
    | inr past ↦ subst (AllByRecursion P) (sym (with_cell-past es c x xs past)) (h.0, with_cell-all es P c xs p h.1)
  ]
]

pub with_cells-each : {E S : Type 0} (es : Entries E S) (P : E → Type 0) (cells kept : List E) → AllByRecursion P cells → AllByRecursion P kept → AllByRecursion P (with_cells es cells kept)
with_cells-each es P [] kept h k = k
with_cells-each es P (c ∷ more) kept h k = with_cells-each es P more (with_cell es c kept) h.1 (with_cell-all es P c kept h.0 k)

pub with_cells-all : {E S : Type 0} (es : Entries E S) (P : E → Type 0) (cells kept : List E) → All P cells → All P kept → All P (with_cells es cells kept)
with_cells-all es P cells kept h k = All-from_recursion P (with_cells es cells kept) (with_cells-each es P cells kept (recursion_from_All P cells h) (recursion_from_All P kept k))

-- how many keys there are

abbrev pub From : {E S : Type 0} (es : Entries E S) → ℕ → List E → Type 0
From es low [] = Unit {0}
From es low (x ∷ xs) = low ≤ key es x

above-from : {E S : Type 0} (es : Entries E S) (k : ℕ) (xs : List E) → Above es k xs → From es (suc k) xs
above-from es k [] h = tt
above-from es k (x ∷ xs) h = omega (arith, h)

pub keys-fit : {E S : Type 0} (es : Entries E S) (low top : ℕ) (xs : List E) → low ≤ top → KeysRise es xs → From es low xs → AllByRecursion (λ c. key es c < top) xs → length xs + low ≤ top
keys-fit es low top [] l r f h = omega arith
keys-fit es low top (x ∷ xs) l r f h =
    let k : key es x < top = h.0 in
    let i : length xs + suc (key es x) ≤ top = keys-fit es (suc (key es x)) top xs (omega arith) r.1 (above-from es (key es x) xs r.0) h.1 in
    omega (arith, f)

key-low : (c : CellEntry) → 1 ≤ c.satellite → 32 ≤ key gps c
unfolding key key_at
key-low c h = omega arith

key-high : (c : CellEntry) → c.satellite ≤ 32 → key gps c < 1056
unfolding key key_at
key-high c h = let p = place-less c.code in let r = rank-less c.cell.source in omega arith

-- a satellite from 1 to 32
abbrev pub HasSatellite : CellEntry → Type 0
HasSatellite c = IsSatellite c.satellite

low-from : (xs : List CellEntry) → AllByRecursion HasSatellite xs → From gps 32 xs
low-from [] h = tt
low-from (x ∷ xs) h = key-low x h.0.0

high-all : (xs : List CellEntry) → AllByRecursion HasSatellite xs → AllByRecursion (λ c. key gps c < 1056) xs
high-all [] h = tt
high-all (x ∷ xs) h = (key-high x h.0.1, high-all xs h.1)

range-satellites : (xs : List CellEntry) → AllByRecursion IsInRange xs → AllByRecursion HasSatellite xs
range-satellites [] h = tt
range-satellites (x ∷ xs) h = (h.0.satellite, range-satellites xs h.1)

-- an epoch has at most 32 satellites with 16 codes of 2 kinds of message
pub satellites-few : (xs : List CellEntry) → KeysRise gps xs → AllByRecursion HasSatellite xs → length xs ≤ 1024
satellites-few xs r a =
    let f : length xs + 32 ≤ 1056 = keys-fit gps 32 1056 xs (omega arith) r (low-from xs a) (high-all xs a) in
    omega arith

pub cells-few : (xs : List CellEntry) → KeysRise gps xs → All IsInRange xs → length xs ≤ 1024
cells-few xs r h = satellites-few xs r (range-satellites xs (recursion_from_All IsInRange xs h))

-- the cells of an epoch, after those of a message
pub cells-with : (cells kept : List CellEntry) → All IsInRange cells → AreCellsOfEpoch kept → AreCellsOfEpoch (with_cells gps cells kept)
cells-with cells kept range k =
    let rise : KeysRise gps (with_cells gps cells kept) = with_cells-rises gps cells kept k.rise in
    let all : All IsInRange (with_cells gps cells kept) = with_cells-all gps IsInRange cells kept range k.range in
    record { rise = rise; range = all; few = cells-few (with_cells gps cells kept) rise all }

-- the parts of a key
pub key-from : (c : CellEntry) (s p r : ℕ) → s ≡ c.satellite → p ≡ place_of c.code → r ≡ rank_of c.cell.source → (s * 16 + p) * 2 + r ≡ key gps c
unfolding key key_at
key-from c s p r a b d = rw (a, b, d) refl

pub push-few : {S : Type 0} (xs : List S) (x : S) (i : ℕ) → length xs ≤ i → length (xs ++ x ∷ []) ≤ i + 1
push-few xs x i h = let q : length (xs ++ x ∷ []) ≡ length xs + 1 = length-append xs (x ∷ []) in omega arith

flipped : {S : Type 0} (b : Bool) (xs : List S) → (if b then [] else xs) ≡ (if not b then xs else [])
flipped true xs = refl
flipped false xs = refl

-- a cell conflicts if another one is kept under its key
pub conflict-is : {E S : Type 0} (es : Entries E S) (c x : E) (o : Option E) (r : Bool) → o ≡ Some x → r ≡ not (equal_values es x c)
    → conflict es c o ≡ (if r then es.signal c ∷ [] else [])
conflict-is es c x o r h e = ap (conflict es c) h ∙ flipped (equal_values es x c) _ ∙ ap (λ t. if t then es.signal c ∷ [] else []) (sym e)

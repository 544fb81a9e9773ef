-- Satellites of a 1004 that rise, and the cells that are left of their cells.
use Rattle.std.proofs.Common.{append_assoc, add-one, take, ◌≡◌, ℕ, ◌+◌, ◌<◌, ◌≤◌, [], ◌∷◌, ◌++◌, List, length, get_or, get_or-set_same, get_or-set_other, set, refl, sym, ◌∙◌, ap, arith, true, false, Bool, nat_eq, not, ◌&&◌, ◌||◌, cond}
use Rattle.std.specs.Prelude.{filter}
use Rattle.std.proofs.Math.Seq.{take-suc}
use Rattle.std.specs.List.{All, AllByRecursion, flat_map}
use Rattle.std.proofs.lemmas.List.Folds.{list_any-append}
use Rattle.std.proofs.lemmas.List.Concat.{flat_map-append}
use Rattle.std.proofs.lemmas.List.Elements.{All-from_recursion, filter-append}
use Rattle.std.proofs.lemmas.Bool.Decides.{nat_tests}
use Rattle.rtk_message.specs.declared.obs1004.Satellite.{Satellite}
use Rattle.rtk_obs.specs.declared.code.Code.{Code}
use Rattle.rtk_obs.specs.declared.cell.CellEntry.{CellEntry}
use Rattle.rtk_obs.specs.Code.{place_of}
use Rattle.rtk_obs.specs.Cell.{is_satellite, entry_of, IsSatellite, IsInRange, AreRising}
use Rattle.rtk_obs.specs.declared.cell.CellSource.TheVariants.{Legacy}
use Rattle.rtk_obs.specs.LegacyCells.{l1_code_of, l2_code_of, l1_cell_of, l2_cell_of, first_entries, has_number, satellite_entries, cells_of_1004}
use Rattle.rtk_obs.specs.CellsLeft.{RiseAbove, has_cell, cells_left}
use Rattle.rtk_obs.specs.Tracks.{place_of_signal}
use Rattle.rtk_obs.specs.Steps.Marks.{HasMarks}
use Rattle.rtk_obs.proofs.PairsLemmas.{Pairs}
use Rattle.rtk_obs.proofs.DistinctLemmas.{IsLess, pairs-rise}
use Rattle.rtk_obs.proofs.MessageLemmas.{all-legacy}
use Rattle.rtk_obs.proofs.TracksLemmas.{by_eq, same_signal, place_bound, place_inside, same_test, other_test}

-- ---- satellites that rise

at_most : (n : ℕ) (ss : List Satellite) → RiseAbove n ss → n ≤ 32
at_most n [] r = r
at_most n (s ∷ ss) r = let h = at_most s.satellite ss r.1 in let g = r.0 in omega arith

-- all of them are greater than what the first is above
above : (m n : ℕ) (ss : List Satellite) → m ≤ n → RiseAbove n ss → AllByRecursion (λ s. (m < s.satellite) × (s.satellite ≤ 32)) ss
above m n [] h r = tt
above m n (s ∷ ss) h r = let g = r.0 in ((omega arith, at_most s.satellite ss r.1), above m s.satellite ss (omega arith) r.1)

pub are_satellites : (ss : List Satellite) → RiseAbove 0 ss → All (λ s. IsSatellite s.satellite) ss
are_satellites ss r = All-from_recursion (λ (s : Satellite). IsSatellite s.satellite) ss (above 0 0 ss (omega arith) r)

not_number : (m n : ℕ) → m < n → not (nat_eq n m) ≡ true
not_number m n h = grind (arith, nat_tests)

number_in : (n : ℕ) → 0 < n → n ≤ 32 → is_satellite n ≡ true
number_in n h k = grind (arith, nat_tests)

others_stay : (m : ℕ) (ss : List Satellite) → AllByRecursion (λ s. (m < s.satellite) × (s.satellite ≤ 32)) ss → filter (λ t. not (has_number m t)) ss ≡ ss
others_stay m [] a = refl
others_stay m (s ∷ ss) a = rw (not_number m s.satellite a.0.0, others_stay m ss a.1) refl

numbers_stay : (ss : List Satellite) → AllByRecursion (λ s. (0 < s.satellite) × (s.satellite ≤ 32)) ss → filter (λ t. is_satellite t.satellite) ss ≡ ss
numbers_stay [] a = refl
numbers_stay (s ∷ ss) a = rw (number_in s.satellite a.0.0 a.0.1, numbers_stay ss a.1) refl

first-rising : (n : ℕ) (ss : List Satellite) → RiseAbove n ss → first_entries ss ≡ ss
unfolding first_entries
first-rising n [] r = refl
first-rising n (s ∷ ss) r =
    ap (λ (ts : List Satellite). s ∷ ts) (ap (filter (λ t. not (has_number s.satellite t))) (first-rising s.satellite ss r.1) ∙ others_stay s.satellite ss (above s.satellite s.satellite ss (omega arith) r.1))

-- each satellite has its two cells
pub cells-rising : (ss : List Satellite) → RiseAbove 0 ss → cells_of_1004 ss ≡ flat_map satellite_entries ss
cells-rising ss r =
    ap (λ (ts : List Satellite). flat_map satellite_entries (filter (λ t. is_satellite t.satellite) ts)) (first-rising 0 ss r)
    ∙ ap (flat_map satellite_entries) (numbers_stay ss (above 0 0 ss (omega arith) r))

some_cells : (ss : List Satellite) → 0 < length ss → 0 < length (flat_map satellite_entries ss)
some_cells [] h = h
some_cells (s ∷ ss) h = omega arith

pub cells-some : (ss : List Satellite) → RiseAbove 0 ss → 0 < length ss → 0 < length (cells_of_1004 ss)
cells-some ss r h = rw (cells-rising ss r) (some_cells ss h)

greater : (m : ℕ) (ss : List Satellite) → AllByRecursion (λ s. (m < s.satellite) × (s.satellite ≤ 32)) ss → AllByRecursion (λ s. m < s.satellite) ss
greater m [] a = tt
greater m (s ∷ ss) a = (a.0.0, greater m ss a.1)

pairs-rising : (n : ℕ) (ss : List Satellite) → RiseAbove n ss → Pairs IsLess ss
pairs-rising n [] r = tt
pairs-rising n (s ∷ ss) r = (greater s.satellite ss (above s.satellite s.satellite ss (omega arith) r.1), pairs-rising s.satellite ss r.1)

pub cells-rise : (ss : List Satellite) → RiseAbove 0 ss → AreRising (cells_of_1004 ss)
cells-rise ss r = pairs-rise ss (pairs-rising 0 ss r)

pub cells-legacy : (ss : List Satellite) → All (λ e. e.cell.source ≡ Legacy) (cells_of_1004 ss)
cells-legacy ss = All-from_recursion (λ (e : CellEntry). e.cell.source ≡ Legacy) (cells_of_1004 ss) (all-legacy (filter (λ (t : Satellite). is_satellite t.satellite) (first_entries ss)))

-- ---- what is left

pub left-snoc : (known : List CellEntry) (ss : List Satellite) (s : Satellite)
    → cells_left known (flat_map satellite_entries (ss ++ s ∷ [])) ≡ cells_left known (flat_map satellite_entries ss) ++ cells_left known (satellite_entries s)
left-snoc known ss s =
    ap (cells_left known) (flat_map-append satellite_entries ss (s ∷ []))
    ∙ filter-append (λ (e : CellEntry). not (has_cell known e.satellite e.code)) (flat_map satellite_entries ss) (satellite_entries s)

left_of : (a b : Bool) (x y : CellEntry) → cond (not a) (x ∷ cond (not b) (y ∷ []) []) (cond (not b) (y ∷ []) []) ≡ cond a [] (x ∷ []) ++ cond b [] (y ∷ [])
left_of true true x y = refl
left_of true false x y = refl
left_of false true x y = refl
left_of false false x y = refl

-- of two cells
left-two : (known : List CellEntry) (x y : CellEntry)
    → cells_left known (x ∷ y ∷ []) ≡ cond (has_cell known x.satellite x.code) [] (x ∷ []) ++ cond (has_cell known y.satellite y.code) [] (y ∷ [])
left-two known x y = left_of (has_cell known x.satellite x.code) (has_cell known y.satellite y.code) x y

-- ---- marks

or_true : (b : Bool) → (b || (true || false)) ≡ true
or_true true = refl
or_true false = refl

or_false : (b : Bool) → (b || (false || false)) ≡ b
or_false true = refl
or_false false = refl

has-snoc : (xs : List CellEntry) (e : CellEntry) (n : ℕ) (c : Code) (b : Bool) → (nat_eq e.satellite n && nat_eq (place_of e.code) (place_of c)) ≡ b
    → has_cell (xs ++ e ∷ []) n c ≡ (has_cell xs n c || (b || false))
has-snoc xs e n c b h =
    list_any-append (λ (x : CellEntry). nat_eq x.satellite n && nat_eq (place_of x.code) (place_of c)) xs (e ∷ []) ∙ ap (λ (t : Bool). has_cell xs n c || (t || false)) h

marks-snoc : (marks : List Bool) (xs : List CellEntry) (e : CellEntry) → length marks ≡ 512 → IsSatellite e.satellite → HasMarks marks xs
    → HasMarks (set marks (place_of_signal e.satellite e.code) true) (xs ++ e ∷ [])
marks-snoc marks xs e len is h n c in_range =
    let place = place_of_signal e.satellite e.code in
    let inside : place < length marks = (let p = place_inside e.satellite e.code is in omega arith) in
    by_eq (place_of_signal n c) place
    (λ same. let p = same_signal n e.satellite c e.code in_range is same in
    ap (λ (i : ℕ). get_or (set marks place true) i false) same ∙ get_or-set_same marks place true false inside
    ∙ sym (has-snoc xs e n c true (same_test e.satellite (place_of e.code) n (place_of c) (sym p.0) (sym (ap place_of p.1))) ∙ or_true (has_cell xs n c)))
    (λ other. get_or-set_other marks place (place_of_signal n c) true false other ∙ h n c in_range
    ∙ sym (has-snoc xs e n c false (other_test e.satellite (place_of e.code) n (place_of c) (place_bound e.code) (place_bound c) (λ same. other (sym same))) ∙ or_false (has_cell xs n c)))

-- one mark more, as at a step of a loop
pub marks-next : (marks : List Bool) (xs : List CellEntry) (i place : ℕ) (d : CellEntry) → place ≡ place_of_signal (get_or xs i d).satellite (get_or xs i d).code
    → length marks ≡ 512 → i < length xs → All IsInRange xs → HasMarks marks (take i xs) → HasMarks (set marks place true) (take (i + 1) xs)
marks-next marks xs i place d at len inside range h =
    rw (at, add-one, take-suc xs i d inside) (marks-snoc marks (take i xs) (get_or xs i d) len (range i d inside).satellite h)

-- whether a place is marked
pub marked : (marks : List Bool) (known : List CellEntry) (n place : ℕ) (code other : Code) → HasMarks marks known → IsSatellite n
    → place ≡ place_of_signal n code → code ≡ other → get_or marks place false ≡ has_cell known n other
marked marks known n place code other h is at same = ap (λ (i : ℕ). get_or marks i false) at ∙ h n code is ∙ ap (has_cell known n) same

-- the cells of a satellite are put, but for those that are known
pub left-put : (known old one two : List CellEntry) (s : Satellite) (a b : Bool)
    → one ≡ old ++ cond a [] (entry_of s.satellite (l1_code_of s.l1_code) (l1_cell_of s) ∷ []) → two ≡ one ++ cond b [] (entry_of s.satellite (l2_code_of s.l2_code) (l2_cell_of s) ∷ [])
    → a ≡ has_cell known s.satellite (l1_code_of s.l1_code) → b ≡ has_cell known s.satellite (l2_code_of s.l2_code)
    → two ≡ old ++ cells_left known (satellite_entries s)
left-put known old one two s a b first second is_first is_second =
    let x = entry_of s.satellite (l1_code_of s.l1_code) (l1_cell_of s) in
    let y = entry_of s.satellite (l2_code_of s.l2_code) (l2_cell_of s) in
    second ∙ ap (λ (es : List CellEntry). es ++ cond b [] (y ∷ [])) first ∙ append_assoc old (cond a [] (x ∷ [])) (cond b [] (y ∷ []))
    ∙ ap (λ (es : List CellEntry). old ++ es) (ap (λ (t : Bool). cond t [] (x ∷ []) ++ cond b [] (y ∷ [])) is_first
    ∙ ap (λ (t : Bool). cond (has_cell known x.satellite x.code) [] (x ∷ []) ++ cond t [] (y ∷ [])) is_second ∙ sym (left-two known x y))

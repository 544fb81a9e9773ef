-- What the order of cells gives: those of a satellite stand together, and of one kind of message no
-- two have one satellite and code.
use Rattle.std.proofs.Common.{◌≡◌, ◌≢◌, ℕ, zero, suc, ◌+◌, ◌-◌, ◌*◌, ◌<◌, ◌≤◌, [], ◌∷◌, ◌++◌, List, length, take, drop, get_or, get_or-take, get_or-drop, length-drop, take-append-drop, slice_range, refl, sym, ap, subst, ◌∙◌, arith, true, false, Bool, nat_eq, cond, Option, Some, None, All, inl, inr, pos}
use Rattle.std.specs.Prelude.{is_some}
use Rattle.std.proofs.lemmas.Bool.{cases_order, cases_lt, and_parts, and_from, eqb-true, eq-eqb, false_from_ne_true}
use Rattle.std.proofs.lemmas.List.{length-take-le, take_more}
use Rattle.std.proofs.lemmas.List.Folds.{drop_split}
use Rattle.std.proofs.lemmas.Bool.Decides.{nat_tests}
use Rattle.rtk_obs.specs.declared.signal_cells.SignalEntry.{SignalEntry}
use Rattle.rtk_obs.specs.declared.cell.CellSource.{CellSource}
use Rattle.rtk_obs.specs.declared.cell.CellSource.TheVariants.{Legacy, Msm}
use Rattle.rtk_obs.specs.declared.any_code.AnyCode.{AnyCode}
use Rattle.rtk_obs.specs.declared.any_code.AnyCode.TheVariants.{G1C}
use Rattle.rtk_obs.specs.AnyCode.{number_of}
use Rattle.rtk_obs.specs.SignalCells.{IsSignalInRange, EntriesAreOfOneKind}
use Rattle.rtk_obs.proofs.PublicLaws.{number_below, same_number}
use Rattle.rtk_collect.specs.Signals.{signals}
use Rattle.rtk_collect.specs.Key.{key, key_at, rank_of, Above, KeysRise}
use Rattle.rtk_convert.specs.Rows.{is_signal, first_cell}
use Rattle.rtk_convert.specs.Steps.ShownCells.{IsPlaceOf}

-- a cell, for the default of a look-up
abbrev pub any_cell : SignalEntry
any_cell = record {
  satellite = 0;
  code = G1C;
  doppler_millihertz = pos 0;
  cell = record { range_mm = None; phase_millicycles = None; strength_millidbhz = None; lock_time_ms = 0; half = false; source = Legacy; offset = None };
}

-- the number of a satellite and code, by which cells rise
abbrev pub signal : SignalEntry → ℕ
signal e = e.satellite * 128 + number_of e.code

rank-few : (k : CellSource) → rank_of k < 2
rank-few Legacy = omega arith
rank-few Msm = omega arith

key-signal : (a b : SignalEntry) → key signals a < key signals b → signal a ≤ signal b
unfolding key key_at
key-signal a b h =
    let p = rank-few a.cell.source in
    let q = rank-few b.cell.source in
    omega arith

signal-satellite : (a b : SignalEntry) → signal a ≤ signal b → a.satellite ≤ b.satellite
signal-satellite a b h =
    let p = number_below a.code in
    let q = number_below b.code in
    omega arith

above-all : (k : ℕ) (xs : List SignalEntry) (i : ℕ) (d : SignalEntry) → Above signals k xs → KeysRise signals xs → i < length xs → k < key signals (get_or xs i d)
above-all k [] i d a r l = absurd (omega arith)
above-all k (x ∷ xs) zero d a r l = a
above-all k (x ∷ xs) (suc i) d a r l = let h = above-all (key signals x) xs i d r.0 r.1 (omega arith) in omega arith

keys-at : (xs : List SignalEntry) (i j : ℕ) (d : SignalEntry) → KeysRise signals xs → i < j → j < length xs → key signals (get_or xs i d) < key signals (get_or xs j d)
keys-at [] i j d r l m = absurd (omega arith)
keys-at (x ∷ xs) i zero d r l m = absurd (omega arith)
keys-at (x ∷ xs) zero (suc j) d r l m = above-all (key signals x) xs j d r.0 r.1 (omega arith)
keys-at (x ∷ xs) (suc i) (suc j) d r l m = keys-at xs i j d r.1 (omega arith) (omega arith)

signals-at : (xs : List SignalEntry) (i j : ℕ) (d : SignalEntry) → KeysRise signals xs → i < j → j < length xs → signal (get_or xs i d) ≤ signal (get_or xs j d)
signals-at xs i j d r l m = key-signal (get_or xs i d) (get_or xs j d) (keys-at xs i j d r l m)

key-strict : (a b : SignalEntry) → a.cell.source ≡ b.cell.source → key signals a < key signals b → signal a < signal b
unfolding key key_at
key-strict a b same h =
    let p : rank_of a.cell.source ≡ rank_of b.cell.source = ap rank_of same in
    omega arith

-- of one kind of message, satellites and codes rise
signals-rise : (xs : List SignalEntry) (i j : ℕ) (d : SignalEntry) → KeysRise signals xs → EntriesAreOfOneKind xs → i < j → j < length xs → signal (get_or xs i d) < signal (get_or xs j d)
signals-rise xs i j d r one l m = key-strict (get_or xs i d) (get_or xs j d) (one.1 i d (omega arith) ∙ sym (one.1 j d m)) (keys-at xs i j d r l m)

-- the satellites rise
pub satellites-at : (xs : List SignalEntry) (i j : ℕ) (d : SignalEntry) → KeysRise signals xs → i < j → j < length xs → (get_or xs i d).satellite ≤ (get_or xs j d).satellite
satellites-at xs i j d r l m = signal-satellite (get_or xs i d) (get_or xs j d) (signals-at xs i j d r l m)

-- ---- the first cell of a satellite and code, by places

pub other-satellite : (s : ℕ) (c : AnyCode) (e : SignalEntry) → e.satellite ≢ s → is_signal s c e ≡ false
other-satellite s c e h = grind (arith, nat_tests)

none-if : (b : Bool) (x : SignalEntry) (o : Option SignalEntry) → b ≡ false → o ≡ None → cond b (Some x) o ≡ None
none-if true x o h k = cc
none-if false x o h k = k

pub none-at : (xs : List SignalEntry) (s : ℕ) (c : AnyCode) (d : SignalEntry) → ((k : ℕ) → k < length xs → is_signal s c (get_or xs k d) ≡ false) → first_cell xs s c ≡ None
none-at [] s c d h = refl
none-at (x ∷ xs) s c d h = none-if (is_signal s c x) x (first_cell xs s c) (h 0 (omega arith)) (none-at xs s c d (λ k l. h (suc k) (omega arith)))

some-if : (b : Bool) (x : SignalEntry) (o : Option SignalEntry) → is_some o ≡ true → is_some (cond b (Some x) o) ≡ true
some-if true x o h = refl
some-if false x o h = h

some-here : (b : Bool) (x : SignalEntry) (o : Option SignalEntry) → b ≡ true → is_some (cond b (Some x) o) ≡ true
some-here true x o h = refl
some-here false x o h = cc

some-at : (xs : List SignalEntry) (k s : ℕ) (c : AnyCode) (d : SignalEntry) → k < length xs → is_signal s c (get_or xs k d) ≡ true → is_some (first_cell xs s c) ≡ true
some-at [] k s c d l h = absurd (omega arith)
some-at (x ∷ xs) zero s c d l h = some-here (is_signal s c x) x (first_cell xs s c) h
some-at (x ∷ xs) (suc k) s c d l h = some-if (is_signal s c x) x (first_cell xs s c) (some-at xs k s c d (omega arith) h)

pub some-signal : (xs : List SignalEntry) (k s : ℕ) (c : AnyCode) (d : SignalEntry) → k < length xs → (get_or xs k d).satellite ≡ s → (get_or xs k d).code ≡ c → is_some (first_cell xs s c) ≡ true
some-signal xs k s c d l h e =
    let place : number_of (get_or xs k d).code ≡ number_of c = ap number_of e in
    some-at xs k s c d l (and_from (nat_eq (get_or xs k d).satellite s) (nat_eq (number_of (get_or xs k d).code) (number_of c)) (eq-eqb (get_or xs k d).satellite s h) (eq-eqb (number_of (get_or xs k d).code) (number_of c) place))

signal-of : (s : ℕ) (c : AnyCode) (e : SignalEntry) → is_signal s c e ≡ true → signal e ≡ s * 128 + number_of c
signal-of s c e h =
    let p = and_parts (nat_eq e.satellite s) (nat_eq (number_of e.code) (number_of c)) h in
    let one : e.satellite ≡ s = eqb-true e.satellite s p.0 in
    let two : number_of e.code ≡ number_of c = eqb-true (number_of e.code) (number_of c) p.1 in
    omega arith

other-signal : (s : ℕ) (c : AnyCode) (e : SignalEntry) → signal e ≢ s * 128 + number_of c → is_signal s c e ≡ false
other-signal s c e h = false_from_ne_true (is_signal s c e) (λ t. h (signal-of s c e t))

pub same-code : (a b : AnyCode) → number_of a ≡ number_of b → a ≡ b
same-code a b h = same_number a b h

pub other-code : (s : ℕ) (c : AnyCode) (e : SignalEntry) → e.code ≢ c → is_signal s c e ≡ false
other-code s c e h = false_from_ne_true (is_signal s c e) (λ t. h (same-code e.code c (eqb-true (number_of e.code) (number_of c) (and_parts (nat_eq e.satellite s) (nat_eq (number_of e.code) (number_of c)) t).1)))

-- ---- the first cell of two lists

abbrev pub or_later : Option SignalEntry → Option SignalEntry → Option SignalEntry
or_later None later = later
or_later (Some c) later = Some c

or-cond : (b : Bool) (x : SignalEntry) (o p : Option SignalEntry) → cond b (Some x) (or_later o p) ≡ or_later (cond b (Some x) o) p
or-cond true x o p = refl
or-cond false x o p = refl

or-none : (o : Option SignalEntry) → or_later o None ≡ o
or-none None = refl
or-none (Some c) = refl

some-or : (o p : Option SignalEntry) → is_some o ≡ true → is_some (or_later o p) ≡ true
some-or None p h = cc
some-or (Some c) p h = refl

pub first-append : (xs ys : List SignalEntry) (s : ℕ) (c : AnyCode) → first_cell (xs ++ ys) s c ≡ or_later (first_cell xs s c) (first_cell ys s c)
first-append [] ys s c = refl
first-append (x ∷ xs) ys s c =
    ap (λ (o : Option SignalEntry). cond (is_signal s c x) (Some x) o) (first-append xs ys s c) ∙ or-cond (is_signal s c x) x (first_cell xs s c) (first_cell ys s c)

pub some-before : (xs ys : List SignalEntry) (s : ℕ) (c : AnyCode) → is_some (first_cell xs s c) ≡ true → is_some (first_cell (xs ++ ys) s c) ≡ true
some-before xs ys s c h = ap is_some (first-append xs ys s c) ∙ some-or (first_cell xs s c) (first_cell ys s c) h

pub none-both : (xs ys : List SignalEntry) (s : ℕ) (c : AnyCode) → first_cell xs s c ≡ None → first_cell ys s c ≡ None → first_cell (xs ++ ys) s c ≡ None
none-both xs ys s c h k = first-append xs ys s c ∙ ap (λ (o : Option SignalEntry). or_later o (first_cell ys s c)) h ∙ k

-- ---- the cells between two places

pub range-empty : (xs : List SignalEntry) (i : ℕ) → slice_range xs i i ≡ []
range-empty xs i = let e : i - i ≡ 0 = omega arith in ap (λ (n : ℕ). take n (drop i xs)) e

pub range-more : (xs : List SignalEntry) (i j : ℕ) (d : SignalEntry) → i ≤ j → j < length xs → slice_range xs i (j + 1) ≡ slice_range xs i j ++ get_or xs j d ∷ []
range-more xs i j d l m =
    let next : j + 1 - i ≡ j - i + 1 = omega arith in
    let back : i + (j - i) ≡ j = omega arith in
    ap (λ (n : ℕ). take n (drop i xs)) next
    ∙ take_more (drop i xs) (j - i) d (omega (arith, length-drop i xs))
    ∙ ap (λ (x : SignalEntry). take (j - i) (drop i xs) ++ x ∷ []) (get_or-drop i xs (j - i) d ∙ ap (λ (n : ℕ). get_or xs n d) back)

pub range-length : (xs : List SignalEntry) (i j : ℕ) → j ≤ length xs → length (slice_range xs i j) ≡ j - i
range-length xs i j l = length-take-le (j - i) (drop i xs) (omega (arith, length-drop i xs))

pub range-at : (xs : List SignalEntry) (i j k : ℕ) (d : SignalEntry) → k < j - i → get_or (slice_range xs i j) k d ≡ get_or xs (i + k) d
range-at xs i j k d l = get_or-take (j - i) (drop i xs) k d l ∙ get_or-drop i xs k d

-- of one kind of message, no cell before another one has its satellite and code
pub range-new : (xs : List SignalEntry) (i j : ℕ) (d : SignalEntry) → KeysRise signals xs → EntriesAreOfOneKind xs → j < length xs
    → first_cell (slice_range xs i j) (get_or xs j d).satellite (get_or xs j d).code ≡ None
range-new xs i j d r one l =
    let e : SignalEntry = get_or xs j d in
    none-at (slice_range xs i j) e.satellite e.code d (λ k m.
    let n : length (slice_range xs i j) ≡ j - i = range-length xs i j (omega arith) in
    let less : signal (get_or xs (i + k) d) < signal e = signals-rise xs (i + k) j d r one (omega arith) l in
    ap (λ (x : SignalEntry). is_signal e.satellite e.code x) (range-at xs i j k d (omega arith)) ∙ other-signal e.satellite e.code (get_or xs (i + k) d) (λ q. omega arith))

-- the cells of a satellite
pub range-satellite : (xs : List SignalEntry) (i j s : ℕ) → IsPlaceOf s xs i → IsPlaceOf (s + 1) xs j → All (λ (e : SignalEntry). e.satellite ≡ s) (slice_range xs i j)
range-satellite xs i j s p q k d m =
    let n : length (slice_range xs i j) ≡ j - i = range-length xs i j q.within in
    let low : s ≤ (get_or xs (i + k) d).satellite = p.others (i + k) d (omega arith) (omega (arith, q.within)) in
    let high : (get_or xs (i + k) d).satellite < s + 1 = q.lesser (i + k) d (omega arith) in
    let is : (get_or xs (i + k) d).satellite ≡ s = omega arith in
    ap (λ (e : SignalEntry). e.satellite) (range-at xs i j k d (omega arith)) ∙ is

pub range-other : (xs : List SignalEntry) (s t : ℕ) (c : AnyCode) → All (λ (e : SignalEntry). e.satellite ≡ s) xs → t ≢ s → first_cell xs t c ≡ None
range-other xs s t c all ne = none-at xs t c any_cell (λ k m. other-satellite t c (get_or xs k any_cell) (λ q. ne (sym q ∙ all k any_cell m)))

none-take : (xs : List SignalEntry) (i s : ℕ) (c : AnyCode) → IsPlaceOf s xs i → first_cell (take i xs) s c ≡ None
none-take xs i s c p =
    none-at (take i xs) s c any_cell (λ k m.
    let n : length (take i xs) ≡ i = length-take-le i xs p.within in
    let less : (get_or xs k any_cell).satellite < s = p.lesser k any_cell (omega arith) in
    ap (λ (x : SignalEntry). is_signal s c x) (get_or-take i xs k any_cell (omega arith)) ∙ other-satellite s c (get_or xs k any_cell) (λ q. omega arith))

none-drop : (xs : List SignalEntry) (j s : ℕ) (c : AnyCode) → IsPlaceOf (s + 1) xs j → first_cell (drop j xs) s c ≡ None
none-drop xs j s c p =
    none-at (drop j xs) s c any_cell (λ k m.
    let n : length (drop j xs) ≡ length xs - j = length-drop j xs in
    let more : s + 1 ≤ (get_or xs (j + k) any_cell).satellite = p.others (j + k) any_cell (omega arith) (omega arith) in
    ap (λ (x : SignalEntry). is_signal s c x) (get_or-drop j xs k any_cell) ∙ other-satellite s c (get_or xs (j + k) any_cell) (λ q. omega arith))

-- the first cell of a satellite and code is the first between the places of its satellite and the next one
pub first-range : (xs : List SignalEntry) (i j s : ℕ) (c : AnyCode) → IsPlaceOf s xs i → IsPlaceOf (s + 1) xs j → i ≤ j → first_cell (slice_range xs i j) s c ≡ first_cell xs s c
first-range xs i j s c p q l =
    let r = slice_range xs i j in
    let after : first_cell (r ++ drop j xs) s c ≡ first_cell r s c =
    first-append r (drop j xs) s c ∙ ap (or_later (first_cell r s c)) (none-drop xs j s c q) ∙ or-none (first_cell r s c) in
    let whole : take i xs ++ (r ++ drop j xs) ≡ xs = ap (λ (ys : List SignalEntry). take i xs ++ ys) (sym (drop_split xs i j l)) ∙ take-append-drop i xs in
    sym (ap (λ (ys : List SignalEntry). first_cell ys s c) (sym whole) ∙ first-append (take i xs) (r ++ drop j xs) s c
    ∙ ap (λ (o : Option SignalEntry). or_later o (first_cell (r ++ drop j xs) s c)) (none-take xs i s c p) ∙ after)

-- a satellite whose place is that of the next one has no cell
pub first-absent : (xs : List SignalEntry) (i s : ℕ) (c : AnyCode) → IsPlaceOf s xs i → IsPlaceOf (s + 1) xs i → first_cell xs s c ≡ None
first-absent xs i s c p q = sym (first-range xs i i s c p q (omega arith)) ∙ ap (λ (ys : List SignalEntry). first_cell ys s c) (range-empty xs i)

-- ---- the place of the next satellite

pub place-first : (xs : List SignalEntry) → All IsSignalInRange xs → IsPlaceOf 1 xs 0
place-first xs ranges = record {
  within = omega arith;
  lesser = λ k d l. absurd (omega arith);
  others = λ k d a l. let r : IsSignalInRange (get_or xs k d) = ranges k d l in let p = r.signal in p.0.0;
}

-- cells from a place on are of greater satellites if the first of them is
all-next : (xs : List SignalEntry) (end s : ℕ) (d : SignalEntry) → KeysRise signals xs → (end < length xs → s < (get_or xs end d).satellite) → (k : ℕ) → end ≤ k → k < length xs → s < (get_or xs k d).satellite
all-next xs end s d r next k m l =
    elim (cases_order end k) [
      | inl e ↦ subst (λ (i : ℕ). s < (get_or xs i d).satellite) e (next (omega arith))
      | inr (inl lt) ↦ let up : (get_or xs end d).satellite ≤ (get_or xs k d).satellite = satellites-at xs end k d r lt l in let n = next (omega arith) in omega arith
      | inr (inr gt) ↦ absurd (omega arith)
    ]

pub place-after : (xs : List SignalEntry) (begin end s : ℕ) → KeysRise signals xs → IsPlaceOf s xs begin → begin ≤ end → end ≤ length xs
    → ((k : ℕ) (d : SignalEntry) → begin ≤ k → k < end → (get_or xs k d).satellite ≡ s) → (end < length xs → (d : SignalEntry) → (get_or xs end d).satellite ≢ s) → IsPlaceOf (s + 1) xs end
place-after xs begin end s r p from within same ne = record {
  within = within;
  lesser = λ k d l. elim (cases_lt k begin) [
    | inl a ↦ let h = p.lesser k d a in omega arith
    | inr a ↦ let h = same k d a l in omega arith
  ];
  others = λ k d a l.
      let next : s < (get_or xs k d).satellite = all-next xs end s d r (λ m.
      let low : s ≤ (get_or xs end d).satellite = p.others end d from m in
      let no = ne m d in
      omega arith) k a l in
      omega arith;
}

-- the place of a satellite is that of a later one up to the satellite of the cell there
pub place-later : (xs : List SignalEntry) (at n s : ℕ) → KeysRise signals xs → IsPlaceOf n xs at → n ≤ s → (at < length xs → (d : SignalEntry) → s ≤ (get_or xs at d).satellite) → IsPlaceOf s xs at
place-later xs at n s r p more least = record {
  within = p.within;
  lesser = λ k d l. let h = p.lesser k d l in omega arith;
  others = λ k d a l. elim (cases_order at k) [
    | inl e ↦ subst (λ (i : ℕ). s ≤ (get_or xs i d).satellite) e (least (omega arith) d)
    | inr (inl lt) ↦ let up : (get_or xs at d).satellite ≤ (get_or xs k d).satellite = satellites-at xs at k d r lt l in let low = least (omega arith) d in omega arith
    | inr (inr gt) ↦ absurd (omega arith)
  ];
}

-- and of those between
pub place-between : (xs : List SignalEntry) (at n t s : ℕ) → IsPlaceOf n xs at → IsPlaceOf s xs at → n ≤ t → t ≤ s → IsPlaceOf t xs at
place-between xs at n t s p q more less = record {
  within = p.within;
  lesser = λ k d l. let h = p.lesser k d l in omega arith;
  others = λ k d a l. let h = q.others k d a l in omega arith;
}

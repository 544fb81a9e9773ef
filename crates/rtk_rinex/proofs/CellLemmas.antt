-- The columns of what a code can show, one after another in the line of a satellite.
use Rattle.std.proofs.Common.{◌≡◌, ◌≢◌, ℕ, zero, suc, ◌+◌, ◌-◌, ◌*◌, ◌<◌, ◌≤◌, [], ◌∷◌, ◌++◌, List, length, replicate, take, drop, get_or, length-drop, ap, arith, refl, sym, ◌∙◌, true, false, Bool, ◌||◌, ◌&&◌, length-append, append_assoc, flat_map, unsigned_abs, ℤ, ◌⊎◌, ⊎_elim, Option, Some, None, inl, inr}
use Rattle.std.specs.Prelude.{All, IsTrue, is_some, MatchOption, ◌↔◌, ◌≤ℤ◌, pos, negsuc}
use Rattle.std.specs.Int.{IsInRange}
use Rattle.std.specs.List.{list_any}
use Rattle.std.proofs.lemmas.Int.{ints}
use Rattle.std.proofs.lemmas.Bool.Decides.{leb_tells}
use Rattle.std.proofs.lemmas.List.{append-nil, take_all, drop-take, take-append-le, take-append-drop, length-replicate, length-take, replicate-append-replicate}
use Rattle.std.proofs.Math.Seq.{drop-nil}
use Rattle.std.proofs.lemmas.List.Elements.{All-nil, All-cons, All-head, All-tail}
use Rattle.std.proofs.lemmas.Option.{slice_get-get_or}
use Rattle.rtk_rinex.specs.declared.epoch_table.Observed.{Observed}
use Rattle.rtk_rinex.specs.declared.epoch_table.SatelliteRow.{SatelliteRow}
use Rattle.rtk_obs.specs.CivilText.{last_digits}
use Rattle.rtk_rinex.specs.Columns.{left, fixed, is_negative}
use Rattle.rtk_rinex.specs.Record.{is_written, is_present, observation, observations, lli_digit, strength_digit, strength_value, has_observation, trim_end, satellite_line, IsStrengthOrNone}
use Rattle.rtk_rinex.specs.Table.{IsAbsentOrWritten, IsLock, IsObserved, IsTableRow}
use Rattle.rtk_rinex.specs.CheckLine.{IsSatelliteForm}
use Rattle.rtk_rinex.specs.Lines.{IsLine}
use Rattle.rtk_rinex.specs.Steps.CheckValues.{IsCell, AreCells}
use Rattle.rtk_rinex.proofs.DigitsLemmas.{take-exact, drop-exact, length-left}
use Rattle.rtk_rinex.proofs.RecordLemmas.{trim_end-blank, trim_end-done}
use Rattle.rtk_rinex.proofs.FieldLemmas.{none_of}
use Rattle.rtk_rinex.proofs.FormLemmas.{get_front, long_enough}
use Rattle.rtk_rinex.proofs.ValuesLemmas.{clash, are_blanks, are_blanks-append, are_blanks-decimals, value_in, value_of-observation, length-fixed, length-observation, IsValue-strength}
use Rattle.rtk_rinex.proofs.RowLemmas.{IsTrimmed, trimmed, whole, length-whole, length-observations}

-- ---- places of a text

pub drop_more : (a b : ℕ) (xs : List ℕ) → drop (a + b) xs ≡ drop b (drop a xs)
drop_more zero b xs = let e : 0 + b ≡ b = omega arith in ap (λ (n : ℕ). drop n xs) e
drop_more (suc a) b [] = drop-nil (suc a + b) ∙ sym (drop-nil b)
drop_more (suc a) b (x ∷ xs) = let e : suc a + b ≡ suc (a + b) = omega arith in ap (λ (n : ℕ). drop n (x ∷ xs)) e ∙ drop_more a b xs

pub no_more : (n : ℕ) (xs : List ℕ) → length xs ≤ n → drop n xs ≡ []
no_more n [] h = drop-nil n
no_more zero (x ∷ xs) h = absurd (omega arith)
no_more (suc n) (x ∷ xs) h = no_more n xs (omega arith)

at_end : (xs : List ℕ) (y : ℕ) (ys : List ℕ) (k : ℕ) → length xs ≡ k → get_or (xs ++ y ∷ ys) k 0 ≡ y
at_end [] y ys zero e = refl
at_end [] y ys (suc k) e = absurd (omega (arith, e))
at_end (x ∷ xs) y ys zero e = absurd (omega (arith, e))
at_end (x ∷ xs) y ys (suc k) e = at_end xs y ys k (omega (arith, e))

-- ---- what 16 columns show

-- the columns of two values are those of one
pub one_value : (v w : Option ℤ) (a b c d : ℕ) → IsAbsentOrWritten v → IsAbsentOrWritten w → observation v a b ≡ observation w c d → v ≡ w
one_value v w a b c d h g e =
    sym (value_of-observation v a b [] h) ∙ ap (λ (xs : List ℕ). value_in (take 14 (xs ++ []))) e ∙ value_of-observation w c d [] g

pub one_strength : (s t : Option ℕ) → strength_value s ≡ strength_value t → s ≡ t
one_strength None None e = refl
one_strength None (Some t) e = cc
one_strength (Some s) None e = cc
one_strength (Some s) (Some t) e = cc

pub strength-same : (columns : List ℕ) (s t : Option ℕ) → IsStrengthOrNone s → IsStrengthOrNone t → columns ≡ observation (strength_value s) 32 32
    → columns ≡ observation (strength_value t) 32 32 → s ≡ t
strength-same columns s t h g e f =
    one_strength s t (one_value (strength_value s) (strength_value t) 32 32 32 32 (IsValue-strength s h) (IsValue-strength t g) (sym e ∙ f))

-- a strength that a value is
pub strength-is : (s : Option ℕ) (v : ℤ) → IsStrengthOrNone s → Some v ≡ strength_value s → (n : ℕ) × (v ≡ pos n) × IsStrengthOrNone (Some n)
strength-is None v h e = cc
strength-is (Some n) v h e = (n, cc, h)

pub not_negative : (v : ℤ) → pos 0 ≤ℤ v → v ≡ pos (unsigned_abs v)
not_negative (pos n) h = refl
not_negative (negsuc n) h = grind (arith, ints)

-- a value that is written, and its two digits
pub record HasValue (columns : List ℕ) (v : ℤ) (first second : ℕ) : Type 0 where
  pub field : take 14 columns ≡ fixed 3 14 v
  pub digits : drop 14 columns ≡ first ∷ second ∷ []

pub has-value : (columns : List ℕ) (v : ℤ) (first second : ℕ) → is_written v ≡ true → columns ≡ observation (Some v) first second → HasValue columns v first second
has-value columns v first second h e =
    let same : columns ≡ fixed 3 14 v ++ first ∷ second ∷ [] = rw h at e in
    record {
      field = rw same (take-exact 14 (fixed 3 14 v) (first ∷ second ∷ []) (length-fixed v h));
      digits = rw same (drop-exact 14 (fixed 3 14 v) (first ∷ second ∷ []) (length-fixed v h));
    }

pub two_of : (xs : List ℕ) → length xs ≡ 2 → xs ≡ get_or xs 0 0 ∷ get_or xs 1 0 ∷ []
two_of [] e = absurd (omega (arith, e))
two_of (x ∷ []) e = absurd (omega (arith, e))
two_of (x ∷ y ∷ []) e = refl
two_of (x ∷ y ∷ z ∷ xs) e = absurd (omega (arith, e))

-- columns that are not blank have a value
pub some-value : (columns : List ℕ) (v : Option ℤ) (first second : ℕ) → IsAbsentOrWritten v → columns ≢ replicate 16 32 → columns ≡ observation v first second
    → (w : ℤ) × (is_written w ≡ true) × HasValue columns w first second
some-value columns None first second h solid e = absurd (solid e)
some-value columns (Some v) first second h solid e = (v, h, has-value columns v first second h e)

-- the columns of a value and its digits
pub value-columns : (columns field digits : List ℕ) (v : ℤ) (first second : ℕ) → is_written v ≡ true → columns ≡ field ++ digits → field ≡ fixed 3 14 v
    → length digits ≡ 2 → get_or digits 0 0 ≡ first → get_or digits 1 0 ≡ second → columns ≡ observation (Some v) first second
value-columns columns field digits v first second h e f long a b =
    let two : digits ≡ first ∷ second ∷ [] = two_of digits long ∙ (rw (a, b) refl) in
    rw h (e ∙ (rw (f, two) refl))

-- the loss-of-lock digit in the columns of a phase
pub lock-digit : (columns : List ℕ) (v : Option ℤ) (slip half : Bool) (second : ℕ) → IsAbsentOrWritten v → IsLock v slip half
    → columns ≡ observation v (lli_digit slip half) second → get_or columns 14 0 ≡ lli_digit slip half
lock-digit columns None slip half second h g e = rw (e, g.0, g.1) refl
lock-digit columns (Some v) slip half second h g e =
    let p = has-value columns v (lli_digit slip half) second h e in
    let same : columns ≡ fixed 3 14 v ++ lli_digit slip half ∷ second ∷ [] = rw h at e in
    ap (λ (xs : List ℕ). get_or xs 14 0) same ∙ at_end (fixed 3 14 v) (lli_digit slip half) (second ∷ []) 14 (length-fixed v h)

-- without a phase the digit is a blank, and no mark is shown
no_marks : (slip half : Bool) → lli_digit slip half ≡ 32 → (slip ≡ false) × (half ≡ false)
no_marks true true e = absurd (omega (arith, e))
no_marks true false e = absurd (omega (arith, e))
no_marks false true e = absurd (omega (arith, e))
no_marks false false e = (refl, refl)

pub lock-of : (columns : List ℕ) (v : Option ℤ) (slip half : Bool) (second : ℕ) → get_or columns 14 0 ≡ lli_digit slip half
    → columns ≡ observation v (get_or columns 14 0) second → IsLock v slip half
lock-of columns None slip half second d e = no_marks slip half (sym d ∙ ap (λ (xs : List ℕ). get_or xs 14 0) e)
lock-of columns (Some v) slip half second d e = tt

-- ---- what 48 columns show

-- the columns of the three observations of a code
pub record HasColumns (columns : List ℕ) (o : Observed) : Type 0 where
  pub range : take 16 columns ≡ observation o.range_mm 32 (strength_digit o.strength_millidbhz)
  pub phase : take 16 (drop 16 columns) ≡ observation o.phase_millicycles (lli_digit o.slip o.half) (strength_digit o.strength_millidbhz)
  pub strength : drop 16 (drop 16 columns) ≡ observation (strength_value o.strength_millidbhz) 32 32

pub has-columns : (columns : List ℕ) (o : Observed) → IsObserved o → columns ≡ observations o → HasColumns columns o
has-columns columns o h e =
    let digit = strength_digit o.strength_millidbhz in
    let lli = lli_digit o.slip o.half in
    let a : List ℕ = observation o.range_mm 32 digit in
    let b : List ℕ = observation o.phase_millicycles lli digit in
    let c : List ℕ = observation (strength_value o.strength_millidbhz) 32 32 in
    let a16 : length a ≡ 16 = length-observation o.range_mm 32 digit h.range in
    let b16 : length b ≡ 16 = length-observation o.phase_millicycles lli digit h.phase in
    let same : columns ≡ a ++ (b ++ c) = e ∙ append_assoc a b c in
    let others : drop 16 columns ≡ b ++ c = rw same (drop-exact 16 a (b ++ c) a16) in
    record {
      range = rw same (take-exact 16 a (b ++ c) a16);
      phase = rw others (take-exact 16 b c b16);
      strength = rw others (drop-exact 16 b c b16);
    }

pub columns-of : (columns range phase strength : List ℕ) (o : Observed) → columns ≡ range ++ (phase ++ strength)
    → range ≡ observation o.range_mm 32 (strength_digit o.strength_millidbhz)
    → phase ≡ observation o.phase_millicycles (lli_digit o.slip o.half) (strength_digit o.strength_millidbhz)
    → strength ≡ observation (strength_value o.strength_millidbhz) 32 32 → columns ≡ observations o
columns-of columns range phase strength o e a b c = e ∙ sym (append_assoc range phase strength) ∙ (rw (a, b, c) refl)

-- the columns show something, or nothing that a code can show
pub decides-some : (r : Option Observed) (columns : List ℕ)
    → MatchOption r ((o : Observed) → IsObserved o → columns ≢ observations o) (λ o. IsObserved o × (columns ≡ observations o))
    → IsTrue (is_some r) ↔ ((o : Observed) × IsObserved o × (columns ≡ observations o))
decides-some None columns h = (λ e. cc, λ s. absurd (h s.0 s.1 s.2))
decides-some (Some o) columns h = (λ e. (o, h.0, h.1), λ s. refl)

-- ---- the columns of codes

abbrev no_observed : Observed
no_observed = record { range_mm = None; phase_millicycles = None; doppler_millihertz = None; strength_millidbhz = None; slip = false; half = false }

-- no columns are those of a code that shows nothing
pub nothing-empty : IsObserved no_observed × (left 48 [] ≡ observations no_observed)
unfolding left
nothing-empty = (record { range = tt; phase = tt; strength = tt; lock = (refl, refl); doppler = refl }, refl)

pub cell-empty : IsCell []
cell-empty = (no_observed, nothing-empty.0, nothing-empty.1)

pub cell-full : (columns : List ℕ) → length columns ≡ 48 → left 48 columns ≡ columns
unfolding left
cell-full columns e = let none : 48 - length columns ≡ 0 = omega (arith, e) in rw none (append-nil columns)

pub left-nil : (w : ℕ) → left w [] ≡ replicate w 32
unfolding left
left-nil w = let none : w - 0 ≡ w = omega arith in ap (λ (k : ℕ). replicate {A = ℕ} k 32) none

left-low : (n : ℕ) (xs : List ℕ) → length xs ≤ 48 → left (48 * suc n) xs ≡ left 48 xs ++ replicate (48 * n) 32
unfolding left
left-low n xs h =
    let a : ℕ = 48 - length xs in
    let sum : 48 * suc n - length xs ≡ a + 48 * n = omega arith in
    ap (λ (k : ℕ). xs ++ replicate k 32) sum ∙ ap (λ (t : List ℕ). xs ++ t) (sym (replicate-append-replicate {A = ℕ} a (48 * n) 32))
    ∙ sym (append_assoc xs (replicate a 32) (replicate (48 * n) 32))

left-high : (n : ℕ) (xs : List ℕ) → 48 ≤ length xs → left (48 * suc n) xs ≡ take 48 xs ++ left (48 * n) (drop 48 xs)
unfolding left
left-high n xs h =
    let size : length (drop 48 xs) ≡ length xs - 48 = length-drop 48 xs in
    let rest : 48 * suc n - length xs ≡ 48 * n - length (drop 48 xs) = omega (arith, size) in
    ap (λ (t : List ℕ). t ++ replicate (48 * suc n - length xs) 32) (sym (take-append-drop 48 xs))
    ∙ append_assoc (take 48 xs) (drop 48 xs) (replicate (48 * suc n - length xs) 32) ∙ ap (λ (k : ℕ). take 48 xs ++ (drop 48 xs ++ replicate k 32)) rest

pub left-split : (n : ℕ) (xs : List ℕ) → left (48 * suc n) xs ≡ left 48 (take 48 xs) ++ left (48 * n) (drop 48 xs)
left-split n xs =
    elim (leb_tells (length xs) 48) [
      | inl low ↦
          let front : take 48 xs ≡ xs = take_all 48 xs low.1 in
          let back : drop 48 xs ≡ [] = no_more 48 xs low.1 in
          rw (front, back, left-nil (48 * n)) (left-low n xs low.1)
      | inr high ↦
          let long : length (take 48 xs) ≡ 48 = length-take 48 xs ∙ omega (arith, high.1) in
          left-high n xs (omega (arith, high.1)) ∙ ap (λ (t : List ℕ). t ++ left (48 * n) (drop 48 xs)) (sym (cell-full (take 48 xs) long))
    ]

-- no columns are left after those of all codes
pub no-columns : (n k : ℕ) (columns : List ℕ) → length columns ≤ 48 * n → k ≡ n → left (48 * (n - k)) (drop (48 * k) columns) ≡ []
unfolding left
no-columns n k columns few e =
    let none : n - n ≡ 0 = omega arith in
    rw (e, none, no_more (48 * n) columns few) refl

-- what n codes show in columns
pub record ShowsCells (n : ℕ) (columns : List ℕ) : Type 0 where
  pub cells : List Observed
  pub observed : All IsObserved cells
  pub count : length cells ≡ n
  pub text : left (48 * n) columns ≡ flat_map observations cells

pub cells-of : (n : ℕ) (columns : List ℕ) → AreCells n columns → ShowsCells n columns
unfolding left
cells-of zero columns h = record { cells = []; observed = All-nil IsObserved; count = refl; text = rw h refl }
cells-of (suc n) columns h =
    let cell = h.0 in
    let rest = cells-of n (drop 48 columns) h.1 in
    record {
      cells = cell.0 ∷ rest.cells;
      observed = All-cons IsObserved cell.0 rest.cells cell.1 rest.observed;
      count = omega (arith, rest.count);
      text = left-split n columns ∙ (rw (cell.2, rest.text) refl);
    }

pub cells-from : (n : ℕ) (columns : List ℕ) (cells : List Observed) → length columns ≤ 48 * n → All IsObserved cells → length cells ≡ n
    → left (48 * n) columns ≡ flat_map observations cells → AreCells n columns
cells-from zero [] cells few h count e = refl
cells-from zero (x ∷ columns) cells few h count e = absurd (omega arith)
cells-from (suc n) columns [] few h count e = absurd (omega (arith, count))
cells-from (suc n) columns (o ∷ cells) few h count e =
    let is = All-head IsObserved o cells h in
    let long : length (observations o) ≡ 48 = length-observations o is in
    let front : List ℕ = left 48 (take 48 columns) in
    let whole_front : length front ≡ 48 = length-left 48 (take 48 columns) (omega (arith, length-take 48 columns)) in
    let both : front ++ left (48 * n) (drop 48 columns) ≡ observations o ++ flat_map observations cells = sym (left-split n columns) ∙ e in
    let first : front ≡ observations o = sym (take-exact 48 front (left (48 * n) (drop 48 columns)) whole_front) ∙ ap (take 48) both ∙ take-exact 48 (observations o) (flat_map observations cells) long in
    let others : left (48 * n) (drop 48 columns) ≡ flat_map observations cells =
    sym (drop-exact 48 front (left (48 * n) (drop 48 columns)) whole_front) ∙ ap (drop 48) both ∙ drop-exact 48 (observations o) (flat_map observations cells) long in
    let size : length (drop 48 columns) ≡ length columns - 48 = length-drop 48 columns in (
      (o, is, first),
      cells-from n (drop 48 columns) cells (omega (arith, size, few)) (All-tail IsObserved o cells h) (omega (arith, count)) others,
    )

-- one code less
pub cells-front : (n m : ℕ) (columns : List ℕ) → n ≡ suc m → AreCells n columns → IsCell (take 48 columns) × AreCells m (drop 48 columns)
cells-front n m columns e h = rw e at h

pub cells-back : (n m : ℕ) (columns : List ℕ) → n ≡ suc m → IsCell (take 48 columns) → AreCells m (drop 48 columns) → AreCells n columns
cells-back n m columns e cell rest = rw e (cell, rest)

-- ---- blanks alone

pub or-none : (a b : Bool) → (a || b) ≡ false → (a ≡ false) × (b ≡ false)
or-none true b e = cc
or-none false b e = (refl, e)

pub absent : (v : Option ℤ) → IsAbsentOrWritten v → is_present v ≡ false → v ≡ None
absent None h e = refl
absent (Some v) h e = cc

no_strength : (s : Option ℕ) → is_some s ≡ false → s ≡ None
no_strength None e = refl
no_strength (Some s) e = cc

nothing : (o : Observed) → IsObserved o → has_observation o ≡ false → observations o ≡ replicate 48 32
nothing o h e =
    let parts = or-none (is_present o.range_mm || is_present o.phase_millicycles) (is_some o.strength_millidbhz) e in
    let two = or-none (is_present o.range_mm) (is_present o.phase_millicycles) parts.0 in
    rw (absent o.range_mm h.range two.0, absent o.phase_millicycles h.phase two.1, no_strength o.strength_millidbhz parts.1) refl

pub blank-cells : (cells : List Observed) → All IsObserved cells → list_any has_observation cells ≡ false → (k : ℕ) × (flat_map observations cells ≡ replicate k 32)
blank-cells [] h e = (0, refl)
blank-cells (o ∷ cells) h e =
    let parts = or-none (has_observation o) (list_any has_observation cells) e in
    let rest = blank-cells cells (All-tail IsObserved o cells h) parts.1 in
    (48 + rest.0, rw (nothing o (All-head IsObserved o cells h) parts.0, rest.1) (replicate-append-replicate {A = ℕ} 48 rest.0 32))

are_blanks-replicate : (k : ℕ) → are_blanks (replicate k 32) ≡ true
unfolding are_blanks
are_blanks-replicate zero = refl
are_blanks-replicate (suc k) = are_blanks-replicate k

pub and-left : (a b : Bool) → a ≡ false → (a && b) ≡ false
and-left a b e = rw e refl

pub and-right : (a b : Bool) → b ≡ false → (a && b) ≡ false
and-right true b e = e
and-right false b e = refl

or-some : (a b c : Bool) → ((a || b) || c) ≡ true → (a ≡ true) ⊎ ((b ≡ true) ⊎ (c ≡ true))
or-some true b c e = inl refl
or-some false true c e = inr (inl refl)
or-some false false c e = inr (inr e)

pub solid-value : (v : Option ℤ) (a b : ℕ) → is_present v ≡ true → are_blanks (observation v a b) ≡ false
solid-value None a b e = cc
solid-value (Some v) a b e =
    rw e (are_blanks-append (fixed 3 14 v) (a ∷ b ∷ []) ∙ and-left (are_blanks (fixed 3 14 v)) (are_blanks (a ∷ b ∷ [])) (are_blanks-decimals 14 3 (unsigned_abs v) (is_negative v)))

present-strength : (s : Option ℕ) → IsStrengthOrNone s → is_some s ≡ true → is_present (strength_value s) ≡ true
present-strength None h e = cc
present-strength (Some s) h e = IsValue-strength (Some s) h

pub solid-cell : (o : Observed) → IsObserved o → has_observation o ≡ true → are_blanks (observations o) ≡ false
solid-cell o h e =
    let digit = strength_digit o.strength_millidbhz in
    let a : List ℕ = observation o.range_mm 32 digit in
    let b : List ℕ = observation o.phase_millicycles (lli_digit o.slip o.half) digit in
    let c : List ℕ = observation (strength_value o.strength_millidbhz) 32 32 in
    let all : are_blanks ((a ++ b) ++ c) ≡ (are_blanks (a ++ b) && are_blanks c) = are_blanks-append (a ++ b) c in
    let two : are_blanks (a ++ b) ≡ (are_blanks a && are_blanks b) = are_blanks-append a b in
    ⊎_elim
    (λ range. all ∙ and-left (are_blanks (a ++ b)) (are_blanks c) (two ∙ and-left (are_blanks a) (are_blanks b) (solid-value o.range_mm 32 digit range)))
    (λ others. ⊎_elim
    (λ phase. all ∙ and-left (are_blanks (a ++ b)) (are_blanks c) (two ∙ and-right (are_blanks a) (are_blanks b) (solid-value o.phase_millicycles (lli_digit o.slip o.half) digit phase)))
    (λ some. all ∙ and-right (are_blanks (a ++ b)) (are_blanks c) (solid-value (strength_value o.strength_millidbhz) 32 32 (present-strength o.strength_millidbhz h.strength some)))
    others)
    (or-some (is_present o.range_mm) (is_present o.phase_millicycles) (is_some o.strength_millidbhz) e)

solid-if : (o : Observed) (cells : List Observed) (c : Bool) → has_observation o ≡ c → IsObserved o → (c || list_any has_observation cells) ≡ true
    → (list_any has_observation cells ≡ true → are_blanks (flat_map observations cells) ≡ false) → are_blanks (observations o ++ flat_map observations cells) ≡ false
solid-if o cells true is h e rest =
    are_blanks-append (observations o) (flat_map observations cells) ∙ and-left (are_blanks (observations o)) (are_blanks (flat_map observations cells)) (solid-cell o h is)
solid-if o cells false is h e rest =
    are_blanks-append (observations o) (flat_map observations cells) ∙ and-right (are_blanks (observations o)) (are_blanks (flat_map observations cells)) (rest e)

pub solid-cells : (cells : List Observed) → All IsObserved cells → list_any has_observation cells ≡ true → are_blanks (flat_map observations cells) ≡ false
solid-cells [] h e = cc
solid-cells (o ∷ cells) h e =
    solid-if o cells (has_observation o) refl (All-head IsObserved o cells h) e (λ more. solid-cells cells (All-tail IsObserved o cells h) more)

-- ---- the line of a row

pub trim_end-blanks : (xs : List ℕ) (k : ℕ) → trim_end (xs ++ replicate k 32) ≡ trim_end xs
trim_end-blanks xs zero = ap trim_end (append-nil xs)
trim_end-blanks xs (suc k) =
    let one : xs ++ 32 ∷ replicate {A = ℕ} k 32 ≡ (xs ++ 32 ∷ []) ++ replicate k 32 = sym (append_assoc xs (32 ∷ []) (replicate k 32)) in
    ap trim_end one ∙ trim_end-blanks (xs ++ 32 ∷ []) k ∙ trim_end-blank xs

-- a text whose last character is no blank
pub trim_end-solid : (xs : List ℕ) → 0 < length xs → get_or xs (length xs - 1) 0 ≢ 32 → trim_end xs ≡ xs
trim_end-solid xs some last =
    let all : take (length xs) xs ≡ xs = take_all (length xs) xs (omega arith) in
    ap trim_end (sym all) ∙ trim_end-done xs (length xs) some (omega arith) last ∙ all

-- the parts of a line of the form of a satellite line: the satellite, and the columns after it
pub record HasRowForm (n : ℕ) (line columns : List ℕ) (s : ℕ) : Type 0 where
  pub satellite : IsInRange 1 32 s
  pub front : List ℕ
  pub whole_line : line ≡ front ++ 10 ∷ []
  pub parts : front ≡ (71 ∷ last_digits 2 s) ++ columns
  pub last : get_or front (length front - 1) 0 ≢ 32
  pub few : length columns ≤ 48 * n

pub has-form : (n : ℕ) (line columns : List ℕ) (s : ℕ) → IsLine line → IsSatelliteForm n line s → columns ≡ drop 3 (take (length line - 1) line) → HasRowForm n line columns s
has-form n line columns s l f e =
    let front : List ℕ = l.0 in
    let size : length line ≡ length front + 1 = ap length l.2 ∙ length-append front (10 ∷ []) in
    let name : take 3 (front ++ 10 ∷ []) ≡ 71 ∷ last_digits 2 s = rw (l.2) at f.1 in
    let three : 3 ≤ length front = long_enough front s name in
    let cut : take (length line - 1) line ≡ front =
    let back : length line - 1 ≡ length front = omega (arith, size) in rw (back, l.2) (take-exact (length front) front (10 ∷ []) refl) in
    let rest : columns ≡ drop 3 front = e ∙ ap (drop 3) cut in
    let first : take 3 front ≡ 71 ∷ last_digits 2 s = sym (take-append-le 3 front (10 ∷ []) three) ∙ name in
    record {
      satellite = f.0;
      front = front;
      whole_line = l.2;
      parts = sym (take-append-drop 3 front) ∙ (rw (first, rest) refl);
      last = λ z.
          let place : length line - 2 ≡ length front - 1 = omega (arith, size) in
          let read : get_or (front ++ 10 ∷ []) (length front - 1) 0 ≡ 32 = get_front front (10 ∷ []) (length front - 1) (omega (arith, three)) ∙ z in
          let inside : length front - 1 < length (front ++ 10 ∷ []) = omega (arith, length-append front (10 ∷ []), three) in
          f.3 (rw (place, l.2) (slice_get-get_or (front ++ 10 ∷ []) (length front - 1) 0 inside ∙ ap Some read));
      few = omega (arith, size, ap length rest, length-drop 3 front, f.2);
    }

-- the columns between the satellite and the LF
pub columns-cut : (line : List ℕ) → take (length line - 1 - 3) (drop 3 line) ≡ drop 3 (take (length line - 1) line)
columns-cut line =
    let m : ℕ = length line - 1 - 3 in
    elim (leb_tells 4 (length line)) [
      | inl low ↦
          let whole : 3 + m ≡ length line - 1 = omega (arith, low.1) in
          sym (drop-take 3 m line) ∙ ap (λ (n : ℕ). drop 3 (take n line)) whole
      | inr high ↦
          let none : take m (drop 3 line) ≡ [] = none_of (take m (drop 3 line)) (omega (arith, high.1, length-take m (drop 3 line))) in
          let other : drop 3 (take (length line - 1) line) ≡ [] = no_more 3 (take (length line - 1) line) (omega (arith, high.1, length-take (length line - 1) line)) in
          none ∙ sym other
    ]

-- blanks alone have no columns in a line
shows-if : (n : ℕ) (front : List ℕ) (cells : List Observed) (s : ℕ) (b : Bool) → All IsObserved cells → trim_end ((71 ∷ last_digits 2 s) ++ flat_map observations cells) ≡ front
    → 3 < length front → list_any has_observation cells ≡ b → IsTrue b
shows-if n front cells s true h e long is = refl
shows-if n front cells s false h e long is =
    let none = blank-cells cells h is in
    let name : List ℕ = 71 ∷ last_digits 2 s in
    let units : get_or name (length name - 1) 0 ≢ 32 = λ z. omega (arith, z) in
    let short : trim_end (name ++ flat_map observations cells) ≡ name =
    ap (λ (xs : List ℕ). trim_end (name ++ xs)) none.1 ∙ trim_end-blanks name none.0 ∙ trim_end-solid name (omega arith) units in
    let size : length front ≡ 3 = ap length (sym e ∙ short) in
    absurd (omega (arith, size, long))

pub same_end : (xs ys : List ℕ) → xs ++ 10 ∷ [] ≡ ys ++ 10 ∷ [] → xs ≡ ys
same_end xs ys e =
    let size : length xs ≡ length ys = omega (arith, ap length e, length-append xs (10 ∷ []), length-append ys (10 ∷ [])) in
    sym (take-exact (length xs) xs (10 ∷ []) refl) ∙ ap (take (length xs)) e ∙ take-exact (length xs) ys (10 ∷ []) (sym size)

pub some-columns : (columns : List ℕ) (k : ℕ) (text : List ℕ) → length columns ≡ 0 → columns ++ replicate k 32 ≡ text → are_blanks text ≡ false → ⊥
some-columns [] k text z e h = clash (are_blanks text) h (ap are_blanks (sym e) ∙ are_blanks-replicate k)
some-columns (x ∷ columns) k text z e h = omega (arith, z)

-- what a line with these columns is
pub record IsRowLineOf (n : ℕ) (line : List ℕ) (r : SatelliteRow) : Type 0 where
  pub row : IsTableRow n r
  pub text : line ≡ satellite_line r

-- the row of a satellite and of what its columns show
pub row-shown : (n : ℕ) (line columns : List ℕ) (s : ℕ) (cells : List Observed) → HasRowForm n line columns s → 0 < length columns → All IsObserved cells → length cells ≡ n
    → left (48 * n) columns ≡ flat_map observations cells → IsRowLineOf n line (record { satellite = s; observed = record { items = cells } })
unfolding left
row-shown n line columns s cells f some observed count shown =
    let blanks : ℕ = 48 * n - length columns in
    let name : List ℕ = 71 ∷ last_digits 2 s in
    let long : length f.front ≡ 3 + length columns = ap length f.parts ∙ length-append name columns in
    let kept : trim_end f.front ≡ f.front = trim_end-solid f.front (omega (arith, long)) f.last in
    let text : name ++ flat_map observations cells ≡ f.front ++ replicate blanks 32 =
    ap (λ (xs : List ℕ). name ++ xs) (sym shown) ∙ sym (append_assoc name columns (replicate blanks 32)) ∙ ap (λ (xs : List ℕ). xs ++ replicate blanks 32) (sym f.parts) in
    let trimmed_text : trim_end (name ++ flat_map observations cells) ≡ f.front = ap trim_end text ∙ trim_end-blanks f.front blanks ∙ kept in
    let shows : (b : Bool) → list_any has_observation cells ≡ b → IsTrue b = λ b. shows-if n f.front cells s b observed trimmed_text (omega (arith, long, some)) in
    record {
      row = record { satellite = f.satellite; width = count; observed = observed; line = shows (list_any has_observation cells) refl };
      text = f.whole_line ∙ ap (λ (xs : List ℕ). xs ++ 10 ∷ []) (sym trimmed_text);
    }

-- the row whose line a line is
pub row-of : (n : ℕ) (line columns : List ℕ) (s : ℕ) → HasRowForm n line columns s → 0 < length columns → AreCells n columns
    → (r : SatelliteRow) × IsTableRow n r × (line ≡ satellite_line r)
row-of n line columns s f some cells =
    let c = cells-of n columns cells in
    let is = row-shown n line columns s c.cells f some c.observed c.count c.text in
    (record { satellite = s; observed = record { items = c.cells } }, is.row, is.text)

-- the columns of a row's line
pub cells-of-row : (n : ℕ) (line columns : List ℕ) (s : ℕ) → HasRowForm n line columns s → (r : SatelliteRow) → IsTableRow n r → line ≡ satellite_line r
    → (0 < length columns) × AreCells n columns
unfolding IsTrimmed whole left
cells-of-row n line columns s f r h e =
    let kept : List ℕ = trim_end (whole r) in
    let t = trimmed (whole r) in
    let name : List ℕ = 71 ∷ last_digits 2 r.satellite in
    let cells = r.observed.items in
    let front : f.front ≡ kept = same_end f.front kept (sym f.whole_line ∙ e) in
    let text : f.front ++ replicate t.0 32 ≡ name ++ flat_map observations cells = ap (λ (xs : List ℕ). xs ++ replicate t.0 32) front ∙ t.1 in
    let whole_text : (71 ∷ last_digits 2 s) ++ (columns ++ replicate t.0 32) ≡ name ++ flat_map observations cells =
    sym (append_assoc (71 ∷ last_digits 2 s) columns (replicate t.0 32)) ∙ ap (λ (xs : List ℕ). xs ++ replicate t.0 32) (sym f.parts) ∙ text in
    let rest : columns ++ replicate t.0 32 ≡ flat_map observations cells = ap (drop 3) whole_text in
    let long = length-whole n r h in
    let all : length (flat_map observations cells) ≡ 48 * n = omega (arith, long) in
    let size : length columns + t.0 ≡ 48 * n = sym (length-append columns (replicate t.0 32) ∙ ap (λ m. length columns + m) (length-replicate t.0 32)) ∙ ap length rest ∙ all in
    let blanks : 48 * n - length columns ≡ t.0 = omega (arith, size) in
    let padded : left (48 * n) columns ≡ flat_map observations cells = rw blanks rest in
    let none : length columns ≢ 0 = λ z. some-columns columns t.0 (flat_map observations cells) z rest (solid-cells cells h.observed h.line) in
    (omega (arith, none), cells-from n columns cells f.few h.observed h.width padded)

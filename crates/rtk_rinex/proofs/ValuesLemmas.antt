-- What the text of a value shows is the value.
use Rattle.std.proofs.Common.{◌≡◌, ℕ, suc, ◌-◌, ◌/◌, ◌^◌, ◌<◌, ◌≤◌, [], ◌∷◌, ◌++◌, List, length, replicate, decimal, take, drop, ap, arith, refl, sym, ◌∙◌, true, false, Bool, ◌==◌, ◌&&◌, ◌||◌, if◌then◌else◌, length-append, append_assoc, ℤ, pos, negsuc, unsigned_abs, ◌≤ℤ◌, Option, Some, None}
use Rattle.std.specs.Prelude.{nat_le}
use Rattle.std.specs.List.{list_all}
use Rattle.std.specs.Fmt.{sign_text}
use Rattle.std.proofs.lemmas.Fmt.{length-decimal-le}
use Rattle.std.proofs.lemmas.Bool.Decides.{nat_tests}
use Rattle.std.proofs.lemmas.List.{append-nil}
use Rattle.rtk_rinex.specs.declared.epoch_table.Observed.{Observed}
use Rattle.rtk_obs.specs.CivilText.{last_digits}
use Rattle.rtk_rinex.specs.Columns.{right, decimals, fixed, is_negative}
use Rattle.std.proofs.lemmas.Int.{ints}
use Rattle.rtk_rinex.specs.Record.{is_written, observation, observations, lli_digit, strength_digit, strength_value, IsStrengthOrNone}
use Rattle.rtk_rinex.specs.Table.{IsAbsentOrWritten, IsLock, IsObserved}
use Rattle.rtk_rinex.proofs.DigitsLemmas.{number_of-fixed_3, length-right, take-exact, drop-exact}
use Rattle.rtk_rinex.specs.Steps.Digits.{number_in}

-- ---- what the columns of a field show, whatever stands in them

unfoldable pub are_blanks : List ℕ → Bool
are_blanks = list_all (λ x. x == 32)

-- the value that 14 columns show; no value if they are blank
abbrev pub value_in : List ℕ → Option ℤ
value_in field = if are_blanks field then None else Some (number_in field)

-- F14.3 of a value, or 14 blanks without a value
abbrev pub value_text : Option ℤ → List ℕ
value_text None = replicate 14 32
value_text (Some v) = fixed 3 14 v

-- the magnitude of a value as a strength, if it is in the range of a message's strengths
abbrev pub strength_in : Option ℤ → Option ℕ
strength_in None = None
strength_in (Some v) =
    if nat_le 250 (unsigned_abs v) && nat_le (unsigned_abs v) 63_750 then Some (unsigned_abs v) else None

-- the marks of the loss-of-lock digit that begins a text
abbrev pub slip_in : List ℕ → Bool
slip_in [] = false
slip_in (x ∷ xs) = (x == 49) || (x == 51)

abbrev pub half_in : List ℕ → Bool
half_in [] = false
half_in (x ∷ xs) = (x == 50) || (x == 51)

-- what 48 columns show of a code
abbrev pub code_shown : List ℕ → Observed
code_shown columns =
    record {
      range_mm = value_in (take 14 columns);
      phase_millicycles = value_in (take 14 (drop 16 columns));
      doppler_millihertz = None;
      strength_millidbhz = strength_in (value_in (take 14 (drop 32 columns)));
      slip = slip_in (drop 30 columns);
      half = half_in (drop 30 columns);
    }

-- ---- and that it is what was written

and-assoc : (a b c : Bool) → ((a && b) && c) ≡ (a && (b && c))
and-assoc true b c = refl
and-assoc false b c = refl

-- no blanks alone
pub are_blanks-append : (xs ys : List ℕ) → are_blanks (xs ++ ys) ≡ (are_blanks xs && are_blanks ys)
unfolding are_blanks
are_blanks-append [] ys = refl
are_blanks-append (x ∷ xs) ys = rw (are_blanks-append xs ys) (sym (and-assoc (x == 32) (are_blanks xs) (are_blanks ys)))

and-false : (b : Bool) → (b && false) ≡ false
and-false true = refl
and-false false = refl

pub are_blanks-decimals : (w k n : ℕ) (negative : Bool) → are_blanks (right w (decimals k negative n)) ≡ false
unfolding are_blanks
are_blanks-decimals w k n negative =
    let front : List ℕ = sign_text negative ++ decimal (n / 10 ^ k) in
    let last : are_blanks (46 ∷ last_digits k n) ≡ false = refl in
    let whole : are_blanks (front ++ 46 ∷ last_digits k n) ≡ false = are_blanks-append front (46 ∷ last_digits k n) ∙ (rw last (and-false (are_blanks front))) in
    are_blanks-append (replicate (w - length (decimals k negative n)) 32) (front ++ 46 ∷ last_digits k n) ∙ (rw whole (and-false (are_blanks (replicate (w - length (decimals k negative n)) 32))))

-- a value that is written lies within the limits and isn't 0
pub written-limits : (v : ℤ) → is_written v ≡ true → (negsuc 999_999_999_998 ≤ℤ v) × (v ≤ℤ pos 9_999_999_999_999)
written-limits v h = (grind (arith, ints), grind (arith, ints))

pub written-magnitude : (v : ℤ) → is_written v ≡ true → unsigned_abs v < 10 ^ 13
written-magnitude v h = let l = written-limits v h in omega (arith, ints, l)

-- 14 columns
pub length-fixed : (v : ℤ) → is_written v ≡ true → length (fixed 3 14 v) ≡ 14
length-fixed (pos n) h =
    let l = written-limits (pos n) h in
    let low : n ≤ 9_999_999_999_999 = omega (arith, ints, l.1) in
    let digits = length-decimal-le 10 (n / 1000) (omega arith) (omega arith) (omega arith) in
    length-right 14 (decimals 3 false n) (simp length-append (omega arith))
length-fixed (negsuc n) h =
    let l = written-limits (negsuc n) h in
    let low : suc n ≤ 999_999_999_999 = omega (arith, ints, l.0) in
    let digits = length-decimal-le 9 (suc n / 1000) (omega arith) (omega arith) (omega arith) in
    length-right 14 (decimals 3 true (suc n)) (simp length-append (omega arith))

-- what the text of a value shows is the value
pub value_of-text : (v : Option ℤ) → IsAbsentOrWritten v → value_in (value_text v) ≡ v
unfolding are_blanks
value_of-text None h = refl
value_of-text (Some v) h = rw (are_blanks-decimals 14 3 (unsigned_abs v) (is_negative v), number_of-fixed_3 v (omega (arith, written-magnitude v h))) refl

-- an observation is its value and two digits
abbrev pub ends : Option ℤ → ℕ → ℕ → List ℕ
ends None first second = 32 ∷ 32 ∷ []
ends (Some v) first second = first ∷ second ∷ []

pub observation-is : (v : Option ℤ) (first second : ℕ) → IsAbsentOrWritten v → observation v first second ≡ value_text v ++ ends v first second
observation-is None first second h = refl
observation-is (Some v) first second h = rw h refl

pub length-value_text : (v : Option ℤ) → IsAbsentOrWritten v → length (value_text v) ≡ 14
length-value_text None h = refl
length-value_text (Some v) h = length-fixed v h

length-ends : (v : Option ℤ) (first second : ℕ) → length (ends v first second) ≡ 2
length-ends None first second = refl
length-ends (Some v) first second = refl

pub length-observation : (v : Option ℤ) (first second : ℕ) → IsAbsentOrWritten v → length (observation v first second) ≡ 16
length-observation v first second h =
    let long = length-value_text v h in
    let two = length-ends v first second in
    rw (observation-is v first second h) (length-append (value_text v) (ends v first second) ∙ omega arith)

pub value_of-observation : (v : Option ℤ) (first second : ℕ) (rest : List ℕ) → IsAbsentOrWritten v → value_in (take 14 (observation v first second ++ rest)) ≡ v
value_of-observation v first second rest h =
    let cut : take 14 (observation v first second ++ rest) ≡ value_text v =
    rw (observation-is v first second h, append_assoc) (take-exact 14 (value_text v) (ends v first second ++ rest) (length-value_text v h)) in
    rw cut (value_of-text v h)

-- a strength is a value, and shows itself
pub IsValue-strength : (s : Option ℕ) → IsStrengthOrNone s → IsAbsentOrWritten (strength_value s)
IsValue-strength None h = tt
IsValue-strength (Some s) h = grind (arith, ints)

strength_of-value : (s : Option ℕ) → IsStrengthOrNone s → strength_in (strength_value s) ≡ s
strength_of-value None h = refl
strength_of-value (Some s) h = grind (arith, nat_tests)

-- the loss-of-lock digit of a phase shows its two marks
lock_of-ends : (v : Option ℤ) (slip half : Bool) (second : ℕ) (rest : List ℕ) → IsLock v slip half
    → (slip_in (ends v (lli_digit slip half) second ++ rest) ≡ slip) × (half_in (ends v (lli_digit slip half) second ++ rest) ≡ half)
lock_of-ends None slip half second rest h = (sym h.0, sym h.1)
lock_of-ends (Some v) true true second rest h = (refl, refl)
lock_of-ends (Some v) true false second rest h = (refl, refl)
lock_of-ends (Some v) false true second rest h = (refl, refl)
lock_of-ends (Some v) false false second rest h = (refl, refl)

abbrev pub observed_from : Option ℤ → Option ℤ → Option ℤ → Option ℕ → Bool → Bool → Observed
observed_from range phase shift strength slip half =
    record { range_mm = range; phase_millicycles = phase; doppler_millihertz = shift; strength_millidbhz = strength; slip = slip; half = half }

pub same_observed : (r p d : Option ℤ) (s : Option ℕ) (a b : Bool) (r₂ p₂ d₂ : Option ℤ) (s₂ : Option ℕ) (a₂ b₂ : Bool)
    → r ≡ r₂ → p ≡ p₂ → d ≡ d₂ → s ≡ s₂ → a ≡ a₂ → b ≡ b₂ → observed_from r p d s a b ≡ observed_from r₂ p₂ d₂ s₂ a₂ b₂
same_observed r p d s a b r₂ p₂ d₂ s₂ a₂ b₂ e₁ e₂ e₃ e₄ e₅ e₆ = cc

-- what the text of a code's observations shows is the observations
pub observed_of-observations : (o : Observed) → IsObserved o → code_shown (observations o) ≡ o
observed_of-observations o h =
    let digit = strength_digit o.strength_millidbhz in
    let lli = lli_digit o.slip o.half in
    let a : List ℕ = observation o.range_mm 32 digit in
    let b : List ℕ = observation o.phase_millicycles lli digit in
    let c : List ℕ = observation (strength_value o.strength_millidbhz) 32 32 in
    let p : List ℕ = value_text o.phase_millicycles in
    let e : List ℕ = ends o.phase_millicycles lli digit in
    let a16 : length a ≡ 16 = length-observation o.range_mm 32 digit h.range in
    let b16 : length b ≡ 16 = length-observation o.phase_millicycles lli digit h.phase in
    let p14 : length p ≡ 14 = length-value_text o.phase_millicycles h.phase in
    let from_b : drop 16 ((a ++ b) ++ c) ≡ b ++ c = rw (append_assoc a b c) (drop-exact 16 a (b ++ c) a16) in
    let from_c : drop 32 ((a ++ b) ++ c) ≡ c = drop-exact 32 (a ++ b) c (length-append a b ∙ omega arith) in
    let from_e : drop 30 ((a ++ b) ++ c) ≡ e ++ c =
    rw (observation-is o.phase_millicycles lli digit h.phase, ← append_assoc a p e, append_assoc (a ++ p) e c) (drop-exact 30 (a ++ p) (e ++ c) (length-append a p ∙ omega arith)) in
    let range : value_in (take 14 ((a ++ b) ++ c)) ≡ o.range_mm = rw (append_assoc a b c) (value_of-observation o.range_mm 32 digit (b ++ c) h.range) in
    let phase : value_in (take 14 (drop 16 ((a ++ b) ++ c))) ≡ o.phase_millicycles = rw from_b (value_of-observation o.phase_millicycles lli digit c h.phase) in
    let nothing : take 14 c ≡ take 14 (c ++ []) = ap (take 14) (sym (append-nil c)) in
    let strength : strength_in (value_in (take 14 (drop 32 ((a ++ b) ++ c)))) ≡ o.strength_millidbhz =
    rw (from_c, nothing, value_of-observation (strength_value o.strength_millidbhz) 32 32 [] (IsValue-strength o.strength_millidbhz h.strength)) (strength_of-value o.strength_millidbhz h.strength) in
    let lock = lock_of-ends o.phase_millicycles o.slip o.half digit c h.lock in
    same_observed _ _ _ _ _ _ o.range_mm o.phase_millicycles o.doppler_millihertz o.strength_millidbhz o.slip o.half range phase (sym h.doppler) strength (ap slip_in from_e ∙ lock.0) (ap half_in from_e ∙ lock.1)

pub clash : (b : Bool) → b ≡ false → b ≡ true → ⊥
clash b e f = let apart : false ≡ true = sym e ∙ f in cc

-- What is written of a satellite has neither the LF that ends its line nor the `>` that begins a record.
use Rattle.std.proofs.Common.{◌≡◌, ◌≢◌, ℕ, zero, suc, ◌+◌, ◌-◌, ◌/◌, ◌%◌, ◌^◌, ◌<◌, Bool, true, false, ◌==◌, if◌then◌else◌, Option, Some, None, ℤ, unsigned_abs, List, [], ◌∷◌, ◌++◌, length, replicate, decimal, refl, arith, flat_map}
use Rattle.std.specs.Prelude.{All}
use Rattle.std.specs.Fmt.{sign_text}
use Rattle.std.proofs.lemmas.Fmt.{decimal_by_steps}
use Rattle.std.proofs.lemmas.List.Elements.{All-nil, All-cons, All-head, All-tail, All-append, All-replicate, All-weaker}
use Rattle.rtk_obs.specs.CivilText.{last_digits}
use Rattle.rtk_rinex.specs.declared.epoch_table.Observed.{Observed}
use Rattle.rtk_rinex.specs.Columns.{right, decimals, fixed, is_negative}
use Rattle.rtk_rinex.specs.Lines.{HasNoEnd}
use Rattle.rtk_rinex.specs.Record.{is_written, observation, code_text, lli_digit, strength_digit, strength_value, before_trimmed, trim_end}
use Rattle.rtk_rinex.specs.Steps.ReadRecords.{HasNoMark}
use Rattle.rtk_rinex.proofs.ValuesLemmas.{written-magnitude}

-- neither an LF nor a `>`
abbrev pub IsPlain : ℕ → Type 0
IsPlain x = (10 < x) × (x ≢ 62)

pub no-end : (xs : List ℕ) → All IsPlain xs → HasNoEnd xs
no-end xs h = All-weaker IsPlain (λ x. x ≢ 10) (λ x p e. omega (arith, p.0, e)) xs h

pub no-mark : (xs : List ℕ) → All IsPlain xs → HasNoMark xs
no-mark xs h = All-weaker IsPlain (λ x. x ≢ 62) (λ x p. p.1) xs h

-- a line of such characters
pub plain-line : (front : List ℕ) → All IsPlain front → HasNoMark (front ++ 10 ∷ [])
plain-line front h =
    All-append (λ x. x ≢ 62) front (10 ∷ []) (no-mark front h) (All-cons (λ x. x ≢ 62) 10 [] (λ e. omega (arith, e)) (All-nil (λ x. x ≢ 62)))

one : (x : ℕ) → IsPlain x → All IsPlain (x ∷ [])
one x h = All-cons IsPlain x [] h (All-nil IsPlain)

pub plain-both : (xs ys : List ℕ) → All IsPlain xs → All IsPlain ys → All IsPlain (xs ++ ys)
plain-both xs ys h g = All-append IsPlain xs ys h g

digit : (d : ℕ) → d < 10 → All IsPlain ((48 + d) ∷ [])
digit d h = one (48 + d) (omega arith, λ e. omega (arith, e, h))

pub plain-decimal : (n : ℕ) → n < 2 ^ 64 → All IsPlain (decimal n)
plain-decimal n h =
    decimal_by_steps (λ n ds. All IsPlain ds) (λ n small. digit n small) (λ n ds low e. plain-both ds ((48 + n % 10) ∷ []) e (digit (n % 10) (omega arith))) n h

pub plain-last_digits : (k n : ℕ) → All IsPlain (last_digits k n)
plain-last_digits zero n = All-nil IsPlain
plain-last_digits (suc k) n = plain-both (last_digits k (n / 10)) ((48 + n % 10) ∷ []) (plain-last_digits k (n / 10)) (digit (n % 10) (omega arith))

sign : (b : Bool) → All IsPlain (sign_text b)
sign true = one 45 (omega arith, λ e. omega (arith, e))
sign false = All-nil IsPlain

blank : IsPlain 32
blank = (omega arith, λ e. omega (arith, e))

pub plain-right : (w : ℕ) (text : List ℕ) → All IsPlain text → All IsPlain (right w text)
plain-right w text h = plain-both (replicate (w - length text) 32) text (All-replicate IsPlain (w - length text) 32 blank) h

pub plain-decimals : (k : ℕ) (b : Bool) (n : ℕ) → n / 10 ^ k < 2 ^ 64 → All IsPlain (decimals k b n)
plain-decimals k b n h =
    plain-both (sign_text b ++ decimal (n / 10 ^ k)) (46 ∷ last_digits k n) (plain-both (sign_text b) (decimal (n / 10 ^ k)) (sign b) (plain-decimal (n / 10 ^ k) h))
    (All-cons IsPlain 46 (last_digits k n) (omega arith, λ e. omega (arith, e)) (plain-last_digits k n))

-- ---- an observation

value_if : (v : ℤ) (a b : ℕ) → IsPlain a → IsPlain b → (c : Bool) → is_written v ≡ c → All IsPlain (if c then fixed 3 14 v ++ a ∷ b ∷ [] else replicate 16 32)
value_if v a b h g true e =
    let small = written-magnitude v e in
    plain-both (fixed 3 14 v) (a ∷ b ∷ [])
    (plain-right 14 (decimals 3 (is_negative v) (unsigned_abs v)) (plain-decimals 3 (is_negative v) (unsigned_abs v) (omega arith))) (All-cons IsPlain a (b ∷ []) h (one b g))
value_if v a b h g false e = All-replicate IsPlain 16 32 blank

value : (v : Option ℤ) (a b : ℕ) → IsPlain a → IsPlain b → All IsPlain (observation v a b)
value None a b h g = All-replicate IsPlain 16 32 blank
value (Some v) a b h g = value_if v a b h g (is_written v) refl

strength : (s : Option ℕ) → IsPlain (strength_digit s)
strength None = blank
strength (Some s) = (omega arith, λ e. omega (arith, e))

lock : (slip half : Bool) → IsPlain (lli_digit slip half)
lock true true = (omega arith, λ e. omega (arith, e))
lock true false = (omega arith, λ e. omega (arith, e))
lock false true = (omega arith, λ e. omega (arith, e))
lock false false = blank

-- the range and the phase
front : (o : Observed) → All IsPlain (observation o.range_mm 32 (strength_digit o.strength_millidbhz) ++ observation o.phase_millicycles (lli_digit o.slip o.half) (strength_digit o.strength_millidbhz))
front o =
    let d : ℕ = strength_digit o.strength_millidbhz in
    plain-both (observation o.range_mm 32 d) (observation o.phase_millicycles (lli_digit o.slip o.half) d)
    (value o.range_mm 32 d blank (strength o.strength_millidbhz)) (value o.phase_millicycles (lli_digit o.slip o.half) d (lock o.slip o.half) (strength o.strength_millidbhz))

plain-code : (doppler : Bool) (o : Observed) → All IsPlain (code_text doppler o)
plain-code false o =
    let d : ℕ = strength_digit o.strength_millidbhz in
    plain-both (observation o.range_mm 32 d ++ observation o.phase_millicycles (lli_digit o.slip o.half) d) (observation (strength_value o.strength_millidbhz) 32 32)
    (front o) (value (strength_value o.strength_millidbhz) 32 32 blank blank)
plain-code true o =
    let d : ℕ = strength_digit o.strength_millidbhz in
    let two : List ℕ = observation o.range_mm 32 d ++ observation o.phase_millicycles (lli_digit o.slip o.half) d in
    let shift : List ℕ = observation o.doppler_millihertz 32 32 in
    plain-both (two ++ shift) (observation (strength_value o.strength_millidbhz) 32 32)
    (plain-both two shift (front o) (value o.doppler_millihertz 32 32 blank blank)) (value (strength_value o.strength_millidbhz) 32 32 blank blank)

pub plain-codes : (doppler : Bool) (os : List Observed) → All IsPlain (flat_map (code_text doppler) os)
plain-codes doppler [] = All-nil IsPlain
plain-codes doppler (o ∷ os) = plain-both (code_text doppler o) (flat_map (code_text doppler) os) (plain-code doppler o) (plain-codes doppler os)

-- ---- without the blanks at the end

trimmed_if : (x : ℕ) → IsPlain x → (c : Bool) → All IsPlain (if c then [] else x ∷ [])
trimmed_if x h true = All-nil IsPlain
trimmed_if x h false = one x h

front_of : (x : ℕ) (xs : List ℕ) → IsPlain x → All IsPlain xs → All IsPlain (before_trimmed x xs)
front_of x [] h g = trimmed_if x h (x == 32)
front_of x (y ∷ ys) h g = All-cons IsPlain x (y ∷ ys) h g

pub plain-trimmed : (xs : List ℕ) → All IsPlain xs → All IsPlain (trim_end xs)
unfolding trim_end
plain-trimmed [] h = h
plain-trimmed (x ∷ xs) h = front_of x (trim_end xs) (All-head IsPlain x xs h) (plain-trimmed xs (All-tail IsPlain x xs h))

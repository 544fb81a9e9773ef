-- What columns show that are known to show something.
use Rattle.std.proofs.Common.{◌≡◌, ◌≢◌, ℕ, zero, suc, ◌+◌, ◌-◌, ◌*◌, ◌/◌, ◌%◌, ◌^◌, ◌<◌, ◌≤◌, [], ◌∷◌, ◌++◌, List, length, replicate, decimal, take, drop, get_or, ap, arith, refl, sym, ◌∙◌, true, false, Bool, length-drop, append_assoc, ℤ, pos, negsuc, unsigned_abs, Option, Some, None, inl, inr, subst}
use Rattle.std.specs.Prelude.{IsTrue, MatchOption}
use Rattle.std.proofs.lemmas.Bool.Decides.{leb_tells}
use Rattle.std.proofs.lemmas.Fmt.{decimal_by_steps, decimal_digit}
use Rattle.std.proofs.lemmas.Grind.{not_there}
use Rattle.std.proofs.lemmas.Int.{ints}
use Rattle.std.proofs.lemmas.List.{get_or-drop, take-append-le, take-append-drop}
use Rattle.rtk_obs.specs.CivilText.{last_digits}
use Rattle.rtk_rinex.specs.declared.epoch_table.Observed.{Observed}
use Rattle.rtk_rinex.specs.Columns.{left, right, fixed}
use Rattle.rtk_rinex.specs.Record.{is_written, observation, observations, observations_with_doppler, code_text, code_width, strength_value, strength_digit, lli_digit, IsStrengthOrNone}
use Rattle.rtk_rinex.specs.Table.{IsAbsentOrWritten, IsLock, IsObserved, IsObservedWithDoppler, IsObservedIn}
use Rattle.rtk_rinex.specs.Steps.Digits.{padded_digits_from, number_in}
use Rattle.rtk_rinex.proofs.ColumnsLemmas.{decimal-pair}
use Rattle.rtk_rinex.proofs.DigitsLemmas.{number_of-fixed_3, length-right, take-exact, drop-exact}
use Rattle.rtk_rinex.proofs.FieldLemmas.{whole_text, fixed-is, length-whole_text}
use Rattle.rtk_rinex.proofs.ValuesLemmas.{same_observed, written-limits, written-magnitude, length-fixed, length-observation, IsValue-strength}
use Rattle.rtk_rinex.proofs.CellLemmas.{has-columns, drop_more}
use Rattle.rtk_rinex.proofs.RecordsLemmas.{below}

-- ---- blanks and digits

pub padded-append : (a : ℕ) (xs ys : List ℕ) → padded_digits_from a (xs ++ ys) ≡ padded_digits_from (padded_digits_from a xs) ys
unfolding padded_digits_from
padded-append a [] ys = refl
padded-append a (x ∷ xs) ys = padded-append (a * 10 + x % 16) xs ys

padded-blanks : (k : ℕ) → padded_digits_from 0 (replicate k 32) ≡ 0
unfolding padded_digits_from
padded-blanks zero = refl
padded-blanks (suc k) = padded-blanks k

padded-digit : (a d : ℕ) → d < 10 → padded_digits_from a ((48 + d) ∷ []) ≡ a * 10 + d
unfolding padded_digits_from
padded-digit a d h = omega (arith, h)

padded-decimal : (n : ℕ) → n < 2 ^ 64 → padded_digits_from 0 (decimal n) ≡ n
padded-decimal n h =
    decimal_by_steps (λ n ds. padded_digits_from 0 ds ≡ n)
    (λ n small. omega (arith, padded-digit 0 n small))
    (λ n ds low e. padded-append 0 ds ((48 + n % 10) ∷ []) ∙ padded-digit (padded_digits_from 0 ds) (n % 10) (omega arith) ∙ omega (arith, e)) n h

padded-last_3 : (n : ℕ) → padded_digits_from 0 (last_digits 3 n) ≡ n % 1000
unfolding padded_digits_from
padded-last_3 n = omega arith

padded-right : (w n : ℕ) → n < 2 ^ 64 → padded_digits_from 0 (right w (decimal n)) ≡ n
padded-right w n h =
    padded-append 0 (replicate {A = ℕ} (w - length (decimal n)) 32) (decimal n) ∙ (rw (padded-blanks (w - length (decimal n))) (padded-decimal n h))

-- ---- the columns of a value that is written

pub record HasDigits (columns : List ℕ) (v : ℤ) : Type 0 where
  pub rest : List ℕ
  pub text : columns ≡ right 10 (whole_text v) ++ 46 ∷ (last_digits 3 (unsigned_abs v) ++ rest)
  pub whole : take 10 columns ≡ right 10 (whole_text v)
  pub decimals : take 3 (drop 11 columns) ≡ last_digits 3 (unsigned_abs v)
  pub solid : get_or columns 13 0 ≢ 32

pub has-digits : (columns ends : List ℕ) (v : ℤ) → is_written v ≡ true → columns ≡ fixed 3 14 v ++ ends → HasDigits columns v
has-digits columns ends v h e =
    let whole : List ℕ = right 10 (whole_text v) in
    let last : List ℕ = last_digits 3 (unsigned_abs v) in
    let long : length whole ≡ 10 = length-right 10 (whole_text v) (length-whole_text v h) in
    let same : columns ≡ whole ++ (46 ∷ (last ++ ends)) = e ∙ ap (λ (t : List ℕ). t ++ ends) (fixed-is v) ∙ append_assoc whole (46 ∷ last) ends in
    let back : drop 10 columns ≡ 46 ∷ (last ++ ends) = rw same (drop-exact 10 whole (46 ∷ (last ++ ends)) long) in
    let back_more : drop 11 columns ≡ last ++ ends = drop_more 10 1 columns ∙ ap (drop 1) back in
    let digit : get_or columns 13 0 ≡ 48 + unsigned_abs v % 10 = sym (get_or-drop 11 columns 2 0) ∙ ap (λ (t : List ℕ). get_or t 2 0) back_more in
    record {
      rest = ends;
      text = same;
      whole = rw same (take-exact 10 whole (46 ∷ (last ++ ends)) long);
      decimals = rw back_more (take-exact 3 last ends refl);
      solid = λ z. omega (arith, digit, z);
    }

observation-digits : (columns : List ℕ) (v : ℤ) (first second : ℕ) → is_written v ≡ true → columns ≡ observation (Some v) first second → HasDigits columns v
observation-digits columns v first second h e = has-digits columns (first ∷ second ∷ []) v h (rw h at e)

-- without a value the last decimal is blank, and with one it is none
pub no-value : (columns : List ℕ) (v : Option ℤ) (first second : ℕ) → IsAbsentOrWritten v → columns ≡ observation v first second → get_or columns 13 0 ≡ 32 → None ≡ v
no-value columns None first second h e z = refl
no-value columns (Some v) first second h e z = absurd ((observation-digits columns v first second h e).solid z)

pub record HasWritten (columns : List ℕ) (v : Option ℤ) (first second : ℕ) : Type 0 where
  pub value : ℤ
  pub written : is_written value ≡ true
  pub text : columns ≡ observation (Some value) first second
  pub is : v ≡ Some value

pub has-written : (columns : List ℕ) (v : Option ℤ) (first second : ℕ) → IsAbsentOrWritten v → columns ≡ observation v first second → get_or columns 13 0 ≢ 32
    → HasWritten columns v first second
has-written columns None first second h e solid = absurd (solid (ap (λ (t : List ℕ). get_or t 13 0) e))
has-written columns (Some v) first second h e solid = record { value = v; written = h; text = e; is = refl }

-- a minus sign stands after blanks
late-minus : (k : ℕ) (xs rest : List ℕ) → xs ≡ replicate k 32 ++ 45 ∷ rest → 48 ≤ get_or xs 2 0 → get_or xs 1 0 ≢ 45 → get_or xs 0 0 ≢ 45 → ⊥
late-minus zero xs rest e third second first = first (ap (λ (t : List ℕ). get_or t 0 0) e)
late-minus (suc zero) xs rest e third second first = second (ap (λ (t : List ℕ). get_or t 1 0) e)
late-minus (suc (suc zero)) xs rest e third second first = let is : get_or xs 2 0 ≡ 45 = ap (λ (t : List ℕ). get_or t 2 0) e in omega (arith, is, third)
late-minus (suc (suc (suc k))) xs rest e third second first = let is : get_or xs 2 0 ≡ 32 = ap (λ (t : List ℕ). get_or t 2 0) e in omega (arith, is, third)

-- the digits of a long value without a sign
pub long-value : (columns : List ℕ) (v : ℤ) (first second : ℕ) → is_written v ≡ true → columns ≡ observation (Some v) first second
    → 48 ≤ get_or columns 2 0 → get_or columns 1 0 ≢ 45 → get_or columns 0 0 ≢ 45
    → pos (padded_digits_from 0 (take 10 columns) * 1000 + padded_digits_from 0 (take 3 (drop 11 columns))) ≡ v
long-value columns (pos n) first second h e c b a =
    let d = observation-digits columns (pos n) first second h e in
    let limits = written-limits (pos n) h in
    let whole : padded_digits_from 0 (take 10 columns) ≡ n / 1000 = ap (padded_digits_from 0) d.whole ∙ padded-right 10 (n / 1000) (omega (arith, ints, limits)) in
    let decimals : padded_digits_from 0 (take 3 (drop 11 columns)) ≡ n % 1000 = ap (padded_digits_from 0) d.decimals ∙ padded-last_3 n in
    let sum : padded_digits_from 0 (take 10 columns) * 1000 + padded_digits_from 0 (take 3 (drop 11 columns)) ≡ n = omega (arith, whole, decimals) in
    ap (λ (m : ℕ). pos m) sum
long-value columns (negsuc n) first second h e c b a =
    let d = observation-digits columns (negsuc n) first second h e in
    let digits : List ℕ = decimal (suc n / 1000) in
    let blanks : List ℕ = replicate (10 - length (45 ∷ digits)) 32 in
    let last : List ℕ = 46 ∷ (last_digits 3 (suc n) ++ d.rest) in
    absurd (late-minus (10 - length (45 ∷ digits)) columns (digits ++ last) (d.text ∙ append_assoc blanks (45 ∷ digits) last) c b a)

one-fixed : (v w : ℤ) → is_written v ≡ true → is_written w ≡ true → fixed 3 14 v ≡ fixed 3 14 w → v ≡ w
one-fixed v w h g e =
    sym (number_of-fixed_3 v (omega (arith, written-magnitude v h))) ∙ ap number_in e ∙ number_of-fixed_3 w (omega (arith, written-magnitude w g))

-- a field that was told by its form
pub told-value : (r : Option ℤ) (field : List ℕ) (v : ℤ)
    → MatchOption r ((w : ℤ) → IsTrue (is_written w) → field ≢ fixed 3 14 w) (λ w. IsTrue (is_written w) × (field ≡ fixed 3 14 w))
    → is_written v ≡ true → field ≡ fixed 3 14 v → r ≡ Some v
told-value None field v m h e = absurd (m v h e)
told-value (Some w) field v m h e = ap Some (one-fixed w v m.0 h (sym m.1 ∙ e))

-- ---- the columns of a strength

pub record HasPair (n : ℕ) : Type 0 where
  pub tens : ℕ
  pub units : ℕ
  pub text : right 10 (decimal n) ≡ replicate 8 32 ++ tens ∷ units ∷ []
  pub value : tens % 16 * 10 + units % 16 ≡ n

has-pair : (n : ℕ) → n < 100 → HasPair n
has-pair n h =
    elim (leb_tells 10 n) [
      | inl two ↦ record {
        tens = 48 + n / 10;
        units = 48 + n % 10;
        text = rw (decimal-pair n two.1 h) refl;
        value = omega (arith, h);
      }
      | inr one ↦ record {
        tens = 32;
        units = 48 + n;
        text = rw (decimal_digit n (omega (arith, one.1))) refl;
        value = omega (arith, one.1);
      }
    ]

-- the strength that columns show, digit by digit
abbrev pub strength_at : List ℕ → ℕ
strength_at columns =
    (get_or columns 8 0 % 16 * 10 + get_or columns 9 0 % 16) * 1000
    + (get_or columns 11 0 % 16 * 10 + get_or columns 12 0 % 16) * 10 + get_or columns 13 0 % 16

short-strength : (columns : List ℕ) (s : ℕ) (p : HasPair (s / 1000)) → HasDigits columns (pos s) → strength_at columns ≡ s
short-strength columns s p d =
    let last : List ℕ = 46 ∷ (last_digits 3 s ++ d.rest) in
    let same : columns ≡ (replicate 8 32 ++ p.tens ∷ p.units ∷ []) ++ last = d.text ∙ ap (λ (t : List ℕ). t ++ last) p.text in
    let a : get_or columns 8 0 ≡ p.tens = ap (λ (t : List ℕ). get_or t 8 0) same in
    let b : get_or columns 9 0 ≡ p.units = ap (λ (t : List ℕ). get_or t 9 0) same in
    let x : get_or columns 11 0 ≡ 48 + s / 10 / 10 % 10 = ap (λ (t : List ℕ). get_or t 11 0) same in
    let y : get_or columns 12 0 ≡ 48 + s / 10 % 10 = ap (λ (t : List ℕ). get_or t 12 0) same in
    let z : get_or columns 13 0 ≡ 48 + s % 10 = ap (λ (t : List ℕ). get_or t 13 0) same in
    let whole : get_or columns 8 0 % 16 * 10 + get_or columns 9 0 % 16 ≡ s / 1000 = rw (a, b) p.value in
    omega (arith, whole, x, y, z)

strength-digits : (columns : List ℕ) (s : ℕ) → IsStrengthOrNone (Some s) → take 14 columns ≡ take 14 (observation (strength_value (Some s)) 32 32) → HasDigits columns (pos s)
strength-digits columns s h e =
    let written : is_written (pos s) ≡ true = IsValue-strength (Some s) h in
    let cut : take 14 columns ≡ take 14 (fixed 3 14 (pos s) ++ 32 ∷ 32 ∷ []) = rw written at e in
    let field : take 14 columns ≡ fixed 3 14 (pos s) = cut ∙ take-exact 14 (fixed 3 14 (pos s)) (32 ∷ 32 ∷ []) (length-fixed (pos s) written) in
    has-digits columns (drop 14 columns) (pos s) written (sym (take-append-drop 14 columns) ∙ ap (λ (t : List ℕ). t ++ drop 14 columns) field)

pub no-strength : (columns : List ℕ) (s : Option ℕ) → IsStrengthOrNone s → take 14 columns ≡ take 14 (observation (strength_value s) 32 32) → get_or columns 13 0 ≡ 32 → None ≡ s
no-strength columns None h e z = refl
no-strength columns (Some s) h e z = absurd ((strength-digits columns s h e).solid z)

last-blank : (columns : List ℕ) → take 14 columns ≡ replicate 14 32 → get_or columns 13 0 ≡ 32
last-blank columns e =
    let same : columns ≡ replicate 14 32 ++ drop 14 columns = sym (take-append-drop 14 columns) ∙ ap (λ (t : List ℕ). t ++ drop 14 columns) e in
    ap (λ (t : List ℕ). get_or t 13 0) same

pub some-strength : (columns : List ℕ) (s : Option ℕ) → IsStrengthOrNone s → take 14 columns ≡ take 14 (observation (strength_value s) 32 32) → get_or columns 13 0 ≢ 32
    → Some (strength_at columns) ≡ s
some-strength columns None h e solid = absurd (solid (last-blank columns e))
some-strength columns (Some s) h e solid = ap Some (short-strength columns s (has-pair (s / 1000) (omega (arith, h.0))) (strength-digits columns s h e))

-- ---- the columns of a code, of which blanks at the end may be missing

pub same_fields : (a b : Observed) → a.range_mm ≡ b.range_mm → a.phase_millicycles ≡ b.phase_millicycles → a.doppler_millihertz ≡ b.doppler_millihertz
    → a.strength_millidbhz ≡ b.strength_millidbhz → a.slip ≡ b.slip → a.half ≡ b.half → a ≡ b
same_fields a b e₁ e₂ e₃ e₄ e₅ e₆ =
    same_observed a.range_mm a.phase_millicycles a.doppler_millihertz a.strength_millidbhz a.slip a.half b.range_mm b.phase_millicycles b.doppler_millihertz b.strength_millidbhz b.slip b.half e₁ e₂ e₃ e₄ e₅ e₆

drop-front : (n : ℕ) (xs ys : List ℕ) → n ≤ length xs → drop n (xs ++ ys) ≡ drop n xs ++ ys
drop-front zero xs ys h = refl
drop-front (suc n) [] ys h = absurd (omega (arith, h))
drop-front (suc n) (x ∷ xs) ys h = drop-front n xs ys (omega (arith, h))

take-left : (n w : ℕ) (xs : List ℕ) → n ≤ length xs → take n xs ≡ take n (left w xs)
unfolding left
take-left n w xs h = sym (take-append-le n xs (replicate (w - length xs) 32) h)

-- 16 columns after some
middle-left : (k n w : ℕ) (xs : List ℕ) → k + n ≤ length xs → take n (drop k xs) ≡ take n (drop k (left w xs))
unfolding left
middle-left k n w xs h =
    let blanks : List ℕ = replicate (w - length xs) 32 in
    let size : length (drop k xs) ≡ length xs - k = length-drop k xs in
    sym (take-append-le n (drop k xs) blanks (omega (arith, h, size))) ∙ ap (λ (t : List ℕ). take n t) (sym (drop-front k xs blanks (omega (arith, h))))

-- the columns of the three observations, as far as they are read
pub record ShowsThree (columns : List ℕ) (o : Observed) : Type 0 where
  pub range : take 16 columns ≡ observation o.range_mm 32 (strength_digit o.strength_millidbhz)
  pub phase : take 16 (drop 16 columns) ≡ observation o.phase_millicycles (lli_digit o.slip o.half) (strength_digit o.strength_millidbhz)
  pub strength : take 14 (drop 16 (drop 16 columns)) ≡ take 14 (observation (strength_value o.strength_millidbhz) 32 32)

pub shows-three : (columns : List ℕ) (o : Observed) → 46 ≤ length columns → IsObserved o → left 48 columns ≡ observations o → ShowsThree columns o
shows-three columns o long h e =
    let p = has-columns (left 48 columns) o h e in
    record {
      range = take-left 16 48 columns (omega (arith, long)) ∙ p.range;
      phase = middle-left 16 16 48 columns (omega (arith, long)) ∙ p.phase;
      strength = ap (λ (t : List ℕ). take 14 t) (sym (drop_more 16 16 columns)) ∙ middle-left 32 14 48 columns (omega (arith, long))
          ∙ ap (λ (t : List ℕ). take 14 t) (drop_more 16 16 (left 48 columns) ∙ p.strength);
    }

-- the same with a Doppler shift
pub record ShowsFour (columns : List ℕ) (o : Observed) : Type 0 where
  pub range : take 16 columns ≡ observation o.range_mm 32 (strength_digit o.strength_millidbhz)
  pub phase : take 16 (drop 16 columns) ≡ observation o.phase_millicycles (lli_digit o.slip o.half) (strength_digit o.strength_millidbhz)
  pub shift : take 16 (drop 16 (drop 16 columns)) ≡ observation o.doppler_millihertz 32 32
  pub strength : take 14 (drop 16 (drop 16 (drop 16 columns))) ≡ take 14 (observation (strength_value o.strength_millidbhz) 32 32)

three-more : (xs : List ℕ) → drop 48 xs ≡ drop 16 (drop 16 (drop 16 xs))
three-more xs = drop_more 32 16 xs ∙ ap (λ (t : List ℕ). drop 16 t) (drop_more 16 16 xs)

pub shows-four : (columns : List ℕ) (o : Observed) → 62 ≤ length columns → IsObservedWithDoppler o → left 64 columns ≡ observations_with_doppler o → ShowsFour columns o
shows-four columns o long h e =
    let digit = strength_digit o.strength_millidbhz in
    let lli = lli_digit o.slip o.half in
    let a : List ℕ = observation o.range_mm 32 digit in
    let b : List ℕ = observation o.phase_millicycles lli digit in
    let c : List ℕ = observation o.doppler_millihertz 32 32 in
    let d : List ℕ = observation (strength_value o.strength_millidbhz) 32 32 in
    let a16 = length-observation o.range_mm 32 digit h.range in
    let b16 = length-observation o.phase_millicycles lli digit h.phase in
    let c16 = length-observation o.doppler_millihertz 32 32 h.doppler in
    let same : left 64 columns ≡ a ++ (b ++ (c ++ d)) = e ∙ append_assoc (a ++ b) c d ∙ append_assoc a b (c ++ d) in
    let one : drop 16 (left 64 columns) ≡ b ++ (c ++ d) = ap (λ (t : List ℕ). drop 16 t) same ∙ drop-exact 16 a (b ++ (c ++ d)) a16 in
    let two : drop 32 (left 64 columns) ≡ c ++ d = drop_more 16 16 (left 64 columns) ∙ ap (λ (t : List ℕ). drop 16 t) one ∙ drop-exact 16 b (c ++ d) b16 in
    let three : drop 48 (left 64 columns) ≡ d = drop_more 32 16 (left 64 columns) ∙ ap (λ (t : List ℕ). drop 16 t) two ∙ drop-exact 16 c d c16 in
    record {
      range = take-left 16 64 columns (omega (arith, long)) ∙ ap (λ (t : List ℕ). take 16 t) same ∙ take-exact 16 a (b ++ (c ++ d)) a16;
      phase = middle-left 16 16 64 columns (omega (arith, long)) ∙ ap (λ (t : List ℕ). take 16 t) one ∙ take-exact 16 b (c ++ d) b16;
      shift = ap (λ (t : List ℕ). take 16 t) (sym (drop_more 16 16 columns)) ∙ middle-left 32 16 64 columns (omega (arith, long))
          ∙ ap (λ (t : List ℕ). take 16 t) two ∙ take-exact 16 c d c16;
      strength = ap (λ (t : List ℕ). take 14 t) (sym (three-more columns)) ∙ middle-left 48 14 64 columns (omega (arith, long))
          ∙ ap (λ (t : List ℕ). take 14 t) three;
    }

-- ---- what follows from a fact follows if the fact is true, whatever its proof

known-number : {P : Type 0} (a b : ℕ) → ∥ P ∥₁ → (P → a ≡ b) → a ≡ b
known-number a b h f =
    let low : a < b + 1 = below a (b + 1) h (λ p. omega (arith, f p)) in
    let high : b < a + 1 = below b (a + 1) h (λ p. omega (arith, f p)) in
    omega (arith, low, high)

known-text : {P : Type 0} (xs ys : List ℕ) → ∥ P ∥₁ → (P → xs ≡ ys) → xs ≡ ys
known-text [] [] h f = refl
known-text [] (y ∷ ys) h f = absurd (not_there h (λ p. let long = ap length (f p) in omega (arith, long)))
known-text (x ∷ xs) [] h f = absurd (not_there h (λ p. let long = ap length (f p) in omega (arith, long)))
known-text (x ∷ xs) (y ∷ ys) h f =
    let first : x ≡ y = known-number x y h (λ p. ap (λ (t : List ℕ). get_or t 0 0) (f p)) in
    let others : xs ≡ ys = known-text xs ys h (λ p. ap (λ (t : List ℕ). drop 1 t) (f p)) in
    ap (λ (n : ℕ). n ∷ xs) first ∙ ap (λ (t : List ℕ). y ∷ t) others

known-truth : {P : Type 0} (a b : Bool) → ∥ P ∥₁ → (P → a ≡ b) → a ≡ b
known-truth true true h f = refl
known-truth false false h f = refl
known-truth true false h f = absurd (not_there h (λ p. let same = f p in cc))
known-truth false true h f = absurd (not_there h (λ p. let same = f p in cc))

known-value : {P : Type 0} (v : Option ℤ) → ∥ P ∥₁ → (P → IsAbsentOrWritten v) → IsAbsentOrWritten v
known-value None h f = tt
known-value (Some v) h f = known-truth (is_written v) true h f

known-strength : {P : Type 0} (s : Option ℕ) → ∥ P ∥₁ → (P → IsStrengthOrNone s) → IsStrengthOrNone s
known-strength None h f = tt
known-strength (Some s) h f =
    let low : 249 < s = below 249 s h (λ p. omega (arith, (f p).0)) in
    let high : s < 63_751 = below s 63_751 h (λ p. omega (arith, (f p).0)) in
    ((omega (arith, low), omega (arith, high)), known-number (s % 250) 0 h (λ p. (f p).1))

known-lock : {P : Type 0} (v : Option ℤ) (slip half : Bool) → ∥ P ∥₁ → (P → IsLock v slip half) → IsLock v slip half
known-lock None slip half h f = (known-truth slip false h (λ p. (f p).0), known-truth half false h (λ p. (f p).1))
known-lock (Some v) slip half h f = tt

known-none : {P : Type 0} (v : Option ℤ) → ∥ P ∥₁ → (P → v ≡ None) → v ≡ None
known-none None h f = refl
known-none (Some x) h f = absurd (not_there h (λ p. let same = f p in cc))

known-observed : {P : Type 0} (doppler : Bool) (o : Observed) → ∥ P ∥₁ → (P → IsObservedIn doppler o) → IsObservedIn doppler o
known-observed false o h f = record {
  range = known-value o.range_mm h (λ p. (f p).range);
  phase = known-value o.phase_millicycles h (λ p. (f p).phase);
  strength = known-strength o.strength_millidbhz h (λ p. (f p).strength);
  lock = known-lock o.phase_millicycles o.slip o.half h (λ p. (f p).lock);
  doppler = known-none o.doppler_millihertz h (λ p. (f p).doppler);
}
known-observed true o h f = record {
  range = known-value o.range_mm h (λ p. (f p).range);
  phase = known-value o.phase_millicycles h (λ p. (f p).phase);
  strength = known-strength o.strength_millidbhz h (λ p. (f p).strength);
  lock = known-lock o.phase_millicycles o.slip o.half h (λ p. (f p).lock);
  doppler = known-value o.doppler_millihertz h (λ p. (f p).doppler);
}

-- what columns show is what they are known to show
pub known-cell : (doppler : Bool) (columns : List ℕ) (r : Observed) → ∥ ((o : Observed) × IsObservedIn doppler o × (left (code_width doppler) columns ≡ code_text doppler o)) ∥₁
    → ((o : Observed) → IsObservedIn doppler o → left (code_width doppler) columns ≡ code_text doppler o → r ≡ o)
    → IsObservedIn doppler r × (left (code_width doppler) columns ≡ code_text doppler r)
known-cell doppler columns r h f = (
  known-observed doppler r h (λ p. let same : r ≡ p.0 = f p.0 p.1 p.2 in subst (λ (o : Observed). IsObservedIn doppler o) (sym same) p.1),
  known-text (left (code_width doppler) columns) (code_text doppler r) h (λ p. p.2 ∙ ap (λ (o : Observed). code_text doppler o) (sym (f p.0 p.1 p.2))),
)

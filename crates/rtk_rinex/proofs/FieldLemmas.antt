-- The columns of a value: blanks, a sign, the digits of a number, a point and three digits.
use Rattle.std.proofs.Common.{◌≡◌, ◌≢◌, ℕ, zero, suc, ◌+◌, ◌-◌, ◌*◌, ◌/◌, ◌%◌, ◌^◌, ◌<◌, ◌≤◌, [], ◌∷◌, ◌++◌, List, length, replicate, decimal, take, drop, get_or, slice_get, length-drop, ap, arith, refl, sym, ◌∙◌, true, false, Bool, length-append, append_assoc, ℤ, pos, negsuc, unsigned_abs, neg_ℤ, if◌then◌else◌, Some}
use Rattle.std.specs.Prelude.{All}
use Rattle.std.specs.Int.{IsInRange}
use Rattle.std.specs.Fmt.{sign_text}
use Rattle.std.proofs.lemmas.Fmt.{decimal_by_steps, decimal_step, decimal_digit, decimal_nonempty, first_decimal, length-decimal-le}
use Rattle.std.proofs.lemmas.Int.{ints}
use Rattle.std.proofs.lemmas.List.{append-nil, take_all}
use Rattle.std.proofs.lemmas.List.Elements.{All-nil, All-cons, All-append}
use Rattle.rtk_obs.specs.CivilText.{last_digits}
use Rattle.rtk_rinex.specs.Columns.{right, decimals, fixed, is_negative}
use Rattle.rtk_rinex.specs.Record.{is_written}
use Rattle.rtk_rinex.proofs.DigitsLemmas.{take-exact, drop-exact, length-right, digits_from-thousandths}
use Rattle.rtk_rinex.specs.Steps.Digits.{digits_from}
use Rattle.rtk_rinex.proofs.ValuesLemmas.{written-limits, written-magnitude}

-- ---- the digits of a number

pub all_digits : (n : ℕ) → n < 2 ^ 64 → All (IsInRange 48 57) (decimal n)
all_digits n h =
    decimal_by_steps (λ n ds. All (IsInRange 48 57) ds)
    (λ n small. All-cons (IsInRange 48 57) (48 + n) [] (omega arith, omega arith) (All-nil (IsInRange 48 57)))
    (λ n ds low e. All-append (IsInRange 48 57) ds ((48 + n % 10) ∷ []) e (All-cons (IsInRange 48 57) (48 + n % 10) [] (omega arith, omega arith) (All-nil (IsInRange 48 57)))) n h

-- each character of a number is a digit
pub digit-at : (n : ℕ) (text : List ℕ) (k : ℕ) → n < 2 ^ 64 → text ≡ decimal n → k < length text → IsInRange 48 57 (get_or text k 0)
digit-at n text k h e lt = let all : All (IsInRange 48 57) text = rw e (all_digits n h) in all k 0 lt

pub not_empty : (n : ℕ) (text : List ℕ) → n < 2 ^ 64 → text ≡ decimal n → 1 ≤ length text
not_empty n text h e = let some : 0 < length (decimal n) = decimal_nonempty n h in omega (arith, ap length e, some)

pub no_digit : (n : ℕ) (text : List ℕ) (k : ℕ) → n < 2 ^ 64 → text ≡ decimal n → k < length text → ((d : ℕ) → d < 10 → get_or text k 0 ≢ 48 + d) → ⊥
no_digit n text k h e lt none =
    let is = digit-at n text k h e lt in
    none (get_or text k 0 - 48) (omega (arith, is)) (omega (arith, is))

-- a number of more than one digit begins with no 0
pub no_leading_zero : (n : ℕ) (text : List ℕ) → n < 2 ^ 64 → text ≡ decimal n → 2 ≤ length text → get_or text 0 0 ≢ 48
no_leading_zero n text h e long is =
    let some : n ≢ 0 = λ z. let one : length (decimal n) ≡ 1 = rw z (ap length (decimal_digit 0 (omega arith))) in omega (arith, long, one, ap length e) in
    let first : 48 < get_or (decimal n) 0 0 = first_decimal n (omega (arith, some)) h in
    let head : get_or (decimal n) 0 0 ≡ get_or text 0 0 = ap (λ (xs : List ℕ). get_or xs 0 0) (sym e) in
    omega (arith, first, head, is)

-- no characters
pub none_of : (xs : List ℕ) → length xs ≡ 0 → xs ≡ []
none_of [] h = refl
none_of (x ∷ xs) h = absurd (omega (arith, h))

pub rest_is : (xs : List ℕ) → take (length xs - 1) (drop 1 xs) ≡ drop 1 xs
rest_is xs = take_all (length xs - 1) (drop 1 xs) (omega (arith, length-drop 1 xs))

-- a text of one character and others
pub cons_of : (xs : List ℕ) → 1 ≤ length xs → get_or xs 0 0 ∷ drop 1 xs ≡ xs
cons_of [] h = absurd (omega arith)
cons_of (x ∷ xs) h = refl

-- one digit more
pub decimal-more : (n d : ℕ) (digits : List ℕ) → 1 ≤ n → n * 10 + d < 2 ^ 64 → d < 10 → digits ≡ decimal n → digits ++ (48 + d) ∷ [] ≡ decimal (n * 10 + d)
decimal-more n d digits some fits h e =
    let front : (n * 10 + d) / 10 ≡ n = omega arith in
    let last : (n * 10 + d) % 10 ≡ d = omega arith in
    let step = decimal_step (n * 10 + d) (omega arith) fits in
    rw (e, step, front, last) refl

-- ---- blanks at the front

pub one_front : (j k : ℕ) (xs ys : List ℕ) → slice_get xs 0 ≢ Some 32 → slice_get ys 0 ≢ Some 32 → replicate j 32 ++ xs ≡ replicate k 32 ++ ys → xs ≡ ys
one_front zero zero xs ys h g e = e
one_front zero (suc k) xs ys h g e = absurd (h (ap (λ (zs : List ℕ). slice_get zs 0) e))
one_front (suc j) zero xs ys h g e = absurd (g (ap (λ (zs : List ℕ). slice_get zs 0) (sym e)))
one_front (suc j) (suc k) xs ys h g e = one_front j k xs ys h g (ap (drop 1) e)

first_is : (xs ys : List ℕ) → 0 < length xs → IsInRange 48 57 (get_or xs 0 0) → slice_get (xs ++ ys) 0 ≢ Some 32
first_is [] ys some h e = omega arith
first_is (x ∷ xs) ys some h e = let same : x ≡ 32 = cc in omega (arith, same, h.0)

-- a number begins with no blank
pub solid : (b : Bool) (n : ℕ) → n < 2 ^ 64 → slice_get (sign_text b ++ decimal n) 0 ≢ Some 32
solid true n h e = let same : ◌≡◌ {A = ℕ} 45 32 = cc in omega (arith, same)
solid false n h e =
    let some = decimal_nonempty n h in
    let first : IsInRange 48 57 (get_or (decimal n) 0 0) = digit-at n (decimal n) 0 h refl some in
    first_is (decimal n) [] some first (ap (λ (xs : List ℕ). slice_get xs 0) (append-nil (decimal n)) ∙ e)

-- the sign and the number after the blanks
pub after-blanks : (columns text : List ℕ) (k : ℕ) (negative : Bool) (n : ℕ) → n < 2 ^ 64 → columns ≡ replicate k 32 ++ text → slice_get text 0 ≢ Some 32
    → columns ≡ right 10 (sign_text negative ++ decimal n) → text ≡ sign_text negative ++ decimal n
after-blanks columns text k negative n h e g f =
    one_front k (10 - length (sign_text negative ++ decimal n)) text (sign_text negative ++ decimal n) g (solid negative n h) (sym e ∙ f)

-- of a text that begins with a minus sign, and of one that does not, the number
pub minus_digits : (text : List ℕ) (negative : Bool) (n : ℕ) → n < 2 ^ 64 → get_or text 0 0 ≡ 45 → text ≡ sign_text negative ++ decimal n → drop 1 text ≡ decimal n
minus_digits text true n h first e = ap (drop 1) e
minus_digits text false n h first e = absurd (let is = digit-at n text 0 h e (not_empty n text h e) in omega (arith, is.0, first))

pub plain_digits : (text : List ℕ) (negative : Bool) (n : ℕ) → n < 2 ^ 64 → get_or text 0 0 ≢ 45 → text ≡ sign_text negative ++ decimal n → text ≡ decimal n
plain_digits text true n h first e = absurd (first (ap (λ (xs : List ℕ). get_or xs 0 0) e))
plain_digits text false n h first e = e

pub no_first : (text : List ℕ) → length text < 1 → get_or text 0 0 ≢ 45
no_first [] h e = omega (arith, e)
no_first (x ∷ text) h e = omega (arith, h)

-- ---- F14.3

right-point : (s last : List ℕ) → length last ≡ 3 → right 14 (s ++ 46 ∷ last) ≡ right 10 s ++ 46 ∷ last
right-point s last l =
    let size : length (s ++ 46 ∷ last) ≡ length s + 4 = length-append s (46 ∷ last) ∙ omega (arith, l) in
    let n : 14 - length (s ++ 46 ∷ last) ≡ 10 - length s = omega (arith, size) in
    rw n (sym (append_assoc (replicate {A = ℕ} (10 - length s) 32) s (46 ∷ last)))

-- the columns before the point
abbrev pub whole_text : ℤ → List ℕ
whole_text v = sign_text (is_negative v) ++ decimal (unsigned_abs v / 1000)

pub fixed-is : (v : ℤ) → fixed 3 14 v ≡ right 10 (whole_text v) ++ 46 ∷ last_digits 3 (unsigned_abs v)
fixed-is v = right-point (whole_text v) (last_digits 3 (unsigned_abs v)) refl

pub length-whole_text : (v : ℤ) → is_written v ≡ true → length (whole_text v) ≤ 10
length-whole_text (pos n) h =
    let l = written-limits (pos n) h in
    let low : n ≤ 9_999_999_999_999 = omega (arith, ints, l.1) in
    length-decimal-le 10 (n / 1000) (omega arith) (omega arith) (omega arith)
length-whole_text (negsuc n) h =
    let l = written-limits (negsuc n) h in
    let low : suc n ≤ 999_999_999_999 = omega (arith, ints, l.0) in
    let digits = length-decimal-le 9 (suc n / 1000) (omega arith) (omega arith) (omega arith) in
    omega (arith, digits)

-- the three parts of the columns of a value
pub record HasParts (field : List ℕ) (v : ℤ) : Type 0 where
  pub whole : take 10 field ≡ right 10 (whole_text v)
  pub rest : drop 10 field ≡ 46 ∷ last_digits 3 (unsigned_abs v)
  pub few : unsigned_abs v / 1000 < 10 ^ 10

pub has-parts : (field : List ℕ) (v : ℤ) → is_written v ≡ true → field ≡ fixed 3 14 v → HasParts field v
has-parts field v h e =
    let long : length (right 10 (whole_text v)) ≡ 10 = length-right 10 (whole_text v) (length-whole_text v h) in
    let same : field ≡ right 10 (whole_text v) ++ 46 ∷ last_digits 3 (unsigned_abs v) = e ∙ fixed-is v in
    let limits = written-limits v h in
    record {
      whole = rw same (take-exact 10 (right 10 (whole_text v)) (46 ∷ last_digits 3 (unsigned_abs v)) long);
      rest = rw same (drop-exact 10 (right 10 (whole_text v)) (46 ∷ last_digits 3 (unsigned_abs v)) long);
      few = omega (arith, ints, limits);
    }

last-three : (q r : ℕ) → r < 1000 → last_digits 3 (q * 1000 + r) ≡ last_digits 3 r
last-three q r h =
    let a : (q * 1000 + r) / 10 / 10 % 10 ≡ r / 10 / 10 % 10 = omega arith in
    let b : (q * 1000 + r) / 10 % 10 ≡ r / 10 % 10 = omega arith in
    let c : (q * 1000 + r) % 10 ≡ r % 10 = omega arith in
    rw (a, b, c) refl

no_zero-written : (v : ℤ) → is_written v ≡ true → unsigned_abs v ≡ 0 → ⊥
no_zero-written v h z = grind (arith, ints)

written-negative : (m : ℕ) → suc m < 10 ^ 12 → is_written (negsuc m) ≡ true
written-negative m h = grind (arith, ints)

written-positive : (m : ℕ) → m < 10 ^ 13 → m ≢ 0 → is_written (pos m) ≡ true
written-positive m h some = grind (arith, ints)

-- what has the parts of a number in thousandths is its text
pub text_of-parts : (field whole rest last : List ℕ) (negative : Bool) (q r : ℕ) → field ≡ whole ++ rest → rest ≡ 46 ∷ last
    → whole ≡ right 10 (sign_text negative ++ decimal q) → last ≡ last_digits 3 r → r < 1000 → field ≡ right 14 (decimals 3 negative (q * 1000 + r))
text_of-parts field whole rest last negative q r e f g h small =
    let front : (q * 1000 + r) / 1000 ≡ q = omega (arith, small) in
    let back : last_digits 3 (q * 1000 + r) ≡ last_digits 3 r = last-three q r small in
    let point : right 14 (decimals 3 negative (q * 1000 + r)) ≡ right 10 (sign_text negative ++ decimal q) ++ 46 ∷ last_digits 3 r =
    ap (λ (t : List ℕ). right 14 t) (ap (λ (n : ℕ). sign_text negative ++ decimal n ++ 46 ∷ last_digits 3 (q * 1000 + r)) front ∙ ap (λ (t : List ℕ). sign_text negative ++ decimal q ++ 46 ∷ t) back)
    ∙ right-point (sign_text negative ++ decimal q) (last_digits 3 r) refl in
    e ∙ ap (λ (t : List ℕ). whole ++ t) (f ∙ ap (λ (t : List ℕ). 46 ∷ t) h) ∙ ap (λ (t : List ℕ). t ++ 46 ∷ last_digits 3 r) g ∙ sym point

-- no value is written as 0
pub no_zero : (field : List ℕ) (negative : Bool) (m : ℕ) (v : ℤ) → m ≡ 0 → field ≡ right 14 (decimals 3 negative m) → is_written v ≡ true → field ≢ fixed 3 14 v
no_zero field negative m v zero_is e h f =
    let limit = written-magnitude v h in
    let one = digits_from-thousandths negative m (omega (arith, zero_is)) in
    let other = digits_from-thousandths (is_negative v) (unsigned_abs v) (omega (arith, limit)) in
    let same : unsigned_abs v ≡ 0 = sym other ∙ ap (digits_from 0) (sym f ∙ e) ∙ one ∙ zero_is in
    no_zero-written v h same

pub bound : (negative : Bool) (q r : ℕ) → q < (if negative then 10 ^ 9 else 10 ^ 10) → r < 1000 → q * 1000 + r < (if negative then 10 ^ 12 else 10 ^ 13)
bound true q r h small = omega arith
bound false q r h small = omega arith

-- the value of a sign and a number in thousandths
pub value_of : (field : List ℕ) (negative : Bool) (m : ℕ) (v : ℤ) → v ≡ (if negative then neg_ℤ (pos m) else pos m) → m ≢ 0
    → m < (if negative then 10 ^ 12 else 10 ^ 13) → field ≡ right 14 (decimals 3 negative m) → (is_written v ≡ true) × (field ≡ fixed 3 14 v)
value_of field true zero v e some low f = absurd (some refl)
value_of field true (suc m) v e some low f =
    let is : is_written (negsuc m) ≡ true = written-negative m low in (rw e is, rw e f)
value_of field false m v e some low f = (rw e (written-positive m low some), rw e f)

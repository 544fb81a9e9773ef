-- Columns show the numbers that are written in them.
use Rattle.std.proofs.Common.{◌≡◌, ℕ, zero, suc, ◌+◌, ◌-◌, ◌*◌, ◌/◌, ◌%◌, ◌^◌, ◌<◌, ◌≤◌, [], ◌∷◌, ◌++◌, List, length, replicate, decimal, take, drop, ap, arith, refl, sym, ◌∙◌, true, false, Bool, ◌==◌, ◌||◌, length-append, ℤ, pos, negsuc, unsigned_abs}
use Rattle.std.specs.Fmt.{sign_text}
use Rattle.std.proofs.lemmas.Fmt.{decimal_by_steps}
use Rattle.std.proofs.lemmas.Nat.{pow-add}
use Rattle.std.proofs.Math.Nat.{mul-le-mul_left, pow-suc}
use Rattle.std.proofs.lemmas.Bool.Decides.{nat_tests}
use Rattle.std.proofs.lemmas.List.{length-replicate}
use Rattle.std.proofs.Math.Seq.{take-append_seam, drop-append_seam}
use Rattle.std.proofs.lemmas.List.Folds.{list_any-append}
use Rattle.rtk_obs.specs.CivilText.{last_digits}
use Rattle.rtk_rinex.specs.Columns.{left, right, decimals, fixed}
use Rattle.rtk_rinex.specs.Steps.Digits.{with_digit, digits_from, has_minus, number_in}

pub digits_from-append : (a : ℕ) (xs ys : List ℕ) → digits_from a (xs ++ ys) ≡ digits_from (digits_from a xs) ys
unfolding digits_from
digits_from-append a [] ys = refl
digits_from-append a (x ∷ xs) ys = digits_from-append (with_digit a x) xs ys

digits_from-blanks : (a k : ℕ) → digits_from a (replicate k 32) ≡ a
unfolding digits_from
digits_from-blanks a zero = refl
digits_from-blanks a (suc k) = digits_from-blanks a k

digit : (a d : ℕ) → d < 10 → with_digit a (48 + d) ≡ a * 10 + d
digit a d h = grind (arith, nat_tests)

digits_from-decimal : (n : ℕ) → n < 2 ^ 64 → digits_from 0 (decimal n) ≡ n
unfolding digits_from
digits_from-decimal n h =
    decimal_by_steps (λ n ds. digits_from 0 ds ≡ n)
    (λ n small. omega (arith, digit 0 n small))
    (λ n ds low e. digits_from-append 0 ds ((48 + n % 10) ∷ []) ∙ digit (digits_from 0 ds) (n % 10) (omega arith) ∙ omega (arith, e)) n h

digits_from-last_3 : (a n : ℕ) → digits_from a (last_digits 3 n) ≡ a * 1000 + n % 1000
unfolding digits_from
digits_from-last_3 a n =
    let x = n / 10 / 10 % 10 in
    let y = n / 10 % 10 in
    let z = n % 10 in
    rw (digit a x (omega arith), digit (a * 10 + x) y (omega arith), digit ((a * 10 + x) * 10 + y) z (omega arith)) (omega arith)

-- a number with its sign before a point and its last digits, after blanks
digits_from-parts : (k q m : ℕ) (s last : List ℕ) → digits_from 0 s ≡ 0 → q < 2 ^ 64 → digits_from q last ≡ m
    → digits_from 0 (replicate k 32 ++ (s ++ decimal q ++ 46 ∷ last)) ≡ m
unfolding digits_from
digits_from-parts k q m s last none fits e =
    let front : digits_from 0 (s ++ decimal q) ≡ q = digits_from-append 0 s (decimal q) ∙ (rw none (digits_from-decimal q fits)) in
    let whole : digits_from 0 ((s ++ decimal q) ++ 46 ∷ last) ≡ m = digits_from-append 0 (s ++ decimal q) (46 ∷ last) ∙ (rw front e) in
    digits_from-append 0 (replicate {A = ℕ} k 32) ((s ++ decimal q) ++ 46 ∷ last) ∙ (rw (digits_from-blanks 0 k) whole)

-- digits in columns
digits_from-more : (a k n : ℕ) → digits_from a (last_digits (suc k) n) ≡ digits_from a (last_digits k (n / 10)) * 10 + n % 10
unfolding digits_from
digits_from-more a k n =
    digits_from-append a (last_digits k (n / 10)) ((48 + n % 10) ∷ []) ∙ digit (digits_from a (last_digits k (n / 10))) (n % 10) (omega arith)

digits_from-none : (a n : ℕ) → digits_from a (last_digits 0 n) ≡ a
unfolding digits_from
digits_from-none a n = refl

pub digits_from-last_2 : (n : ℕ) → n < 100 → digits_from 0 (last_digits 2 n) ≡ n
digits_from-last_2 n h =
    rw (digits_from-more 0 1 n, digits_from-more 0 0 (n / 10), digits_from-none 0 (n / 10 / 10)) (omega arith)

pub digits_from-last_4 : (a n : ℕ) → digits_from a (last_digits 4 n) ≡ a * 10_000 + n % 10_000
digits_from-last_4 a n =
    let b = n / 10 in let c = b / 10 in let d = c / 10 in
    rw (digits_from-more a 3 n, digits_from-more a 2 b, digits_from-more a 1 c, digits_from-more a 0 d, digits_from-none a (d / 10)) (omega arith)

digits_from-last_7 : (a n : ℕ) → digits_from a (last_digits 7 n) ≡ a * 10_000_000 + n % 10_000_000
digits_from-last_7 a n =
    let b = n / 10 in let c = b / 10 in let d = c / 10 in let e = d / 10 in let f = e / 10 in let g = f / 10 in
    rw (digits_from-more a 6 n, digits_from-more a 5 b, digits_from-more a 4 c, digits_from-more a 3 d, digits_from-more a 2 e, digits_from-more a 1 f, digits_from-more a 0 g, digits_from-none a (g / 10)) (omega arith)

-- seconds (F13.7 and F11.7)
pub digits_from-seconds : (w n : ℕ) → n < 10 ^ 10 → digits_from 0 (right w (decimals 7 false n)) ≡ n
unfolding digits_from
digits_from-seconds w n h =
    digits_from-parts (w - length (decimals 7 false n)) (n / 10_000_000) n [] (last_digits 7 n) refl (omega arith) (digits_from-last_7 (n / 10_000_000) n ∙ omega arith)

-- whole numbers (Iw)
pub digits_from-right : (w n : ℕ) → n < 2 ^ 64 → digits_from 0 (right w (decimal n)) ≡ n
digits_from-right w n h =
    digits_from-append 0 (replicate {A = ℕ} (w - length (decimal n)) 32) (decimal n) ∙ (rw (digits_from-blanks 0 (w - length (decimal n))) (digits_from-decimal n h))

pub digits_from-tenthousandths : (negative : Bool) (n : ℕ) → n < 2 ^ 64 → digits_from 0 (right 14 (decimals 4 negative n)) ≡ n
unfolding digits_from
digits_from-tenthousandths true n h =
    digits_from-parts (14 - length (decimals 4 true n)) (n / 10_000) n (45 ∷ []) (last_digits 4 n) refl (omega arith) (digits_from-last_4 (n / 10_000) n ∙ omega arith)
digits_from-tenthousandths false n h =
    digits_from-parts (14 - length (decimals 4 false n)) (n / 10_000) n [] (last_digits 4 n) refl (omega arith) (digits_from-last_4 (n / 10_000) n ∙ omega arith)

pub digits_from-thousandths : (negative : Bool) (n : ℕ) → n < 2 ^ 64 → digits_from 0 (right 14 (decimals 3 negative n)) ≡ n
unfolding digits_from
digits_from-thousandths true n h =
    digits_from-parts (14 - length (decimals 3 true n)) (n / 1000) n (45 ∷ []) (last_digits 3 n) refl (omega arith) (digits_from-last_3 (n / 1000) n ∙ omega arith)
digits_from-thousandths false n h =
    digits_from-parts (14 - length (decimals 3 false n)) (n / 1000) n [] (last_digits 3 n) refl (omega arith) (digits_from-last_3 (n / 1000) n ∙ omega arith)

pow-one : (k : ℕ) → 1 ≤ 10 ^ k
pow-one zero = omega arith
pow-one (suc k) = rw (pow-suc 10 k) (omega (arith, pow-one k))

-- a power of ten up to a greater one
pub pow-le : (k w : ℕ) → k ≤ w → 10 ^ k ≤ 10 ^ w
pow-le k w h =
    let e : k + (w - k) ≡ w = omega arith in
    let whole : 10 ^ w ≡ 10 ^ k * 10 ^ (w - k) = ap (λ (n : ℕ). 10 ^ n) (sym e) ∙ pow-add 10 k (w - k) in
    let one : 1 ≤ 10 ^ (w - k) = pow-one (w - k) in
    rw whole (omega (arith, mul-le-mul_left (10 ^ k) one))

pub pow-more : (k : ℕ) → 10 ^ (k + 1) ≡ 10 ^ k * 10
pow-more k = pow-add 10 k 1

-- minus signs
has_minus-append : (xs ys : List ℕ) → has_minus (xs ++ ys) ≡ (has_minus xs || has_minus ys)
unfolding has_minus
has_minus-append xs ys = list_any-append (λ x. x == 45) xs ys

has_minus-blanks : (k : ℕ) → has_minus (replicate k 32) ≡ false
unfolding has_minus
has_minus-blanks zero = refl
has_minus-blanks (suc k) = has_minus-blanks k

no_minus : (d : ℕ) → d < 10 → has_minus ((48 + d) ∷ []) ≡ false
unfolding has_minus
no_minus d h = grind (arith, nat_tests)

neither : (xs ys : List ℕ) → has_minus xs ≡ false → has_minus ys ≡ false → has_minus (xs ++ ys) ≡ false
neither xs ys e f = has_minus-append xs ys ∙ (rw (e, f) refl)

has_minus-decimal : (n : ℕ) → n < 2 ^ 64 → has_minus (decimal n) ≡ false
has_minus-decimal n h =
    decimal_by_steps (λ n ds. has_minus ds ≡ false) (λ n small. no_minus n small)
    (λ n ds low e. neither ds ((48 + n % 10) ∷ []) e (no_minus (n % 10) (omega arith))) n h

has_minus-last_digits : (k n : ℕ) → has_minus (last_digits k n) ≡ false
unfolding has_minus
has_minus-last_digits zero n = refl
has_minus-last_digits (suc k) n = neither (last_digits k (n / 10)) ((48 + n % 10) ∷ []) (has_minus-last_digits k (n / 10)) (no_minus (n % 10) (omega arith))

has_minus-sign : (negative : Bool) → has_minus (sign_text negative) ≡ negative
unfolding has_minus
has_minus-sign true = refl
has_minus-sign false = refl

or-false : (b : Bool) → (b || false) ≡ b
or-false true = refl
or-false false = refl

has_minus-decimals : (w k n : ℕ) (negative : Bool) → n / 10 ^ k < 2 ^ 64 → has_minus (right w (decimals k negative n)) ≡ negative
unfolding has_minus
has_minus-decimals w k n negative h =
    let last : List ℕ = 46 ∷ last_digits k n in
    let digits : List ℕ = decimal (n / 10 ^ k) in
    let none : has_minus last ≡ false = has_minus-last_digits k n in
    let front : has_minus (sign_text negative ++ digits) ≡ negative = has_minus-append (sign_text negative) digits ∙ (rw (has_minus-sign negative, has_minus-decimal (n / 10 ^ k) h) (or-false negative)) in
    let whole : has_minus ((sign_text negative ++ digits) ++ last) ≡ negative = has_minus-append (sign_text negative ++ digits) last ∙ (rw (front, none) (or-false negative)) in
    has_minus-append (replicate (w - length (decimals k negative n)) 32) ((sign_text negative ++ digits) ++ last) ∙ (rw (has_minus-blanks (w - length (decimals k negative n))) whole)

-- F14.4 shows its number
pub number_of-fixed_4 : (v : ℤ) → unsigned_abs v < 2 ^ 63 → number_in (fixed 4 14 v) ≡ v
number_of-fixed_4 (pos n) h = rw (has_minus-decimals 14 4 n false (omega arith), digits_from-tenthousandths false n (omega arith)) refl
number_of-fixed_4 (negsuc n) h = rw (has_minus-decimals 14 4 (suc n) true (omega arith), digits_from-tenthousandths true (suc n) (omega arith)) refl

-- F14.3 shows its number
pub number_of-fixed_3 : (v : ℤ) → unsigned_abs v < 2 ^ 63 → number_in (fixed 3 14 v) ≡ v
number_of-fixed_3 (pos n) h = rw (has_minus-decimals 14 3 n false (omega arith), digits_from-thousandths false n (omega arith)) refl
number_of-fixed_3 (negsuc n) h = rw (has_minus-decimals 14 3 (suc n) true (omega arith), digits_from-thousandths true (suc n) (omega arith)) refl

-- pieces of a text
pub take-exact : (n : ℕ) (xs ys : List ℕ) → length xs ≡ n → take n (xs ++ ys) ≡ xs
take-exact n xs ys e = rw (← e) (take-append_seam xs ys)

pub drop-exact : (n : ℕ) (xs ys : List ℕ) → length xs ≡ n → drop n (xs ++ ys) ≡ ys
drop-exact n xs ys e = rw (← e) (drop-append_seam xs ys)

-- a field after others
pub piece : (k w : ℕ) (front field rest : List ℕ) → length front ≡ k → length field ≡ w → take w (drop k (front ++ (field ++ rest))) ≡ field
piece k w front field rest e f = rw (drop-exact k front (field ++ rest) e) (take-exact w field rest f)

-- the length of a column
pub length-right : (w : ℕ) (text : List ℕ) → length text ≤ w → length (right w text) ≡ w
length-right w text h = length-append (replicate (w - length text) 32) text ∙ omega (arith, length-replicate {A = ℕ} (w - length text) 32)

pub length-left : (w : ℕ) (text : List ℕ) → length text ≤ w → length (left w text) ≡ w
unfolding left
length-left w text h = length-append text (replicate (w - length text) 32) ∙ omega (arith, length-replicate {A = ℕ} (w - length text) 32)

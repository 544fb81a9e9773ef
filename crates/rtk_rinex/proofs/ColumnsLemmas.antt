-- Digits, one at a time, and texts after blanks.
use Rattle.std.proofs.Common.{◌≡◌, ℕ, ◌+◌, ◌-◌, ◌/◌, ◌%◌, ◌^◌, ◌<◌, ◌≤◌, ◌∷◌, [], ◌++◌, List, length, decimal, replicate, take, drop, set, ap, sym, ◌∙◌, arith, refl, length-append, append_assoc, ℤ, pos, false, ◌≤ℤ◌}
use Rattle.std.proofs.lemmas.Fmt.{decimal_step, decimal_digit, length-decimal-le}
use Rattle.std.proofs.lemmas.List.{length-replicate, take-replicate, replicate-append-replicate, take_at, drop_at, append-nil}
use Rattle.std.proofs.Math.Seq.{set-append_seam}
use Rattle.rtk_obs.specs.CivilText.{last_digits}
use Rattle.rtk_rinex.specs.Columns.{right, decimals, fixed}

-- from 100 on a number has the digits of its hundredth and two more
pub decimal-two : (n : ℕ) → 100 ≤ n → n < 2 ^ 64 → decimal n ≡ decimal (n / 100) ++ (48 + (n % 100) / 10) ∷ (48 + (n % 100) % 10) ∷ []
decimal-two n h fits =
    let rest : n / 10 / 10 ≡ n / 100 = omega arith in
    let first : (n / 10) % 10 ≡ (n % 100) / 10 = omega arith in
    let second : n % 10 ≡ (n % 100) % 10 = omega arith in
    let front : decimal (n / 10) ≡ decimal (n / 100) ++ (48 + (n % 100) / 10) ∷ [] = rw (rest, first) at (decimal_step (n / 10) (omega arith) (omega arith)) in
    decimal_step n (omega arith) fits ∙ ap (λ (d : ℕ). decimal (n / 10) ++ (48 + d) ∷ []) second
    ∙ ap (λ (ds : List ℕ). ds ++ (48 + (n % 100) % 10) ∷ []) front ∙ append_assoc (decimal (n / 100)) _ _

pub length-decimal-two : (n : ℕ) → 100 ≤ n → n < 2 ^ 64 → length (decimal n) ≡ length (decimal (n / 100)) + 2
length-decimal-two n h fits = omega (arith, simp length-append at (ap length (decimal-two n h fits)))

-- below 100 it has two digits
pub decimal-pair : (n : ℕ) → 10 ≤ n → n < 100 → decimal n ≡ (48 + n / 10) ∷ (48 + n % 10) ∷ []
decimal-pair n h fits = decimal_step n h (omega arith) ∙ ap (λ (ds : List ℕ). ds ++ (48 + n % 10) ∷ []) (decimal_digit (n / 10) (omega arith))

pub length-decimal-pair : (n : ℕ) → 10 ≤ n → n < 100 → length (decimal n) ≡ 2
length-decimal-pair n h fits = ap length (decimal-pair n h fits)

pub length-decimal-one : (n : ℕ) → n < 10 → length (decimal n) ≡ 1
length-decimal-one n h = ap length (decimal_digit n h)

-- a text that fits, after the blanks that are left
pub right-blanks : (w k : ℕ) (t : List ℕ) → k + length t ≡ w → right w t ≡ replicate k 32 ++ t
right-blanks w k t e = let d : w - length t ≡ k = omega arith in rw d refl

-- digits over the end of a columns of blanks
pub right-digits : (a s : ℕ) (ds : List ℕ) → s + length ds ≡ a → take s (replicate a 32) ++ ds ≡ right a ds
right-digits a s ds e =
    let fits : s ≤ a = omega arith in
    rw (take-replicate {X = ℕ} s a 32 fits, right-blanks a s ds e) refl

-- digits over the end of a columns of blanks, before a point and k decimals
pub right-plain : (a k s : ℕ) (ds last : List ℕ) → s + length ds ≡ a → length last ≡ k
    → (take s (replicate a 32) ++ ds) ++ 46 ∷ last ≡ right (a + 1 + k) (ds ++ 46 ∷ last)
right-plain a k s ds last e l =
    let fits : s ≤ a = omega arith in
    let all : s + length (ds ++ 46 ∷ last) ≡ a + 1 + k = simp length-append (omega arith) in
    rw (take-replicate {X = ℕ} s a 32 fits, right-blanks (a + 1 + k) s _ all) (append_assoc (replicate s 32) ds (46 ∷ last))

-- such digits with a minus sign in the column before them
pub right-minus : (a k s : ℕ) (ds last : List ℕ) → s + 1 + length ds ≡ a → length last ≡ k
    → set ((take (s + 1) (replicate a 32) ++ ds) ++ 46 ∷ last) s 45 ≡ right (a + 1 + k) ((45 ∷ ds) ++ 46 ∷ last)
right-minus a k s ds last e l =
    let fits : s + 1 ≤ a = omega arith in
    let all : s + length ((45 ∷ ds) ++ 46 ∷ last) ≡ a + 1 + k = simp length-append (omega arith) in
    let front : List ℕ = replicate {A = ℕ} s 32 in
    let len : length front ≡ s = length-replicate {A = ℕ} s 32 in
    let rest : List ℕ = ds ++ 46 ∷ last in
    let seam : set (front ++ 32 ∷ rest) (length front) 45 ≡ front ++ 45 ∷ rest = set-append_seam {A = ℕ} front 32 rest 45 in
    rw (take-replicate {X = ℕ} (s + 1) a 32 fits, ← replicate-append-replicate {A = ℕ} s 1 32, right-blanks (a + 1 + k) s _ all, append_assoc, append_assoc) (rw len at seam)

-- a text at the right end of a columns, and k characters after it
pub right-front : (a k : ℕ) (ds last : List ℕ) → length ds ≤ a → length last ≡ k → right a ds ++ last ≡ right (a + k) (ds ++ last)
right-front a k ds last e l =
    let size : a - length ds + length (ds ++ last) ≡ a + k = simp length-append (omega arith) in
    append_assoc (replicate (a - length ds) 32) ds last ∙ sym (right-blanks (a + k) (a - length ds) (ds ++ last) size)

-- a text at the right end of a columns, after k blanks
pub right-wide : (k a : ℕ) (ds : List ℕ) → length ds ≤ a → replicate k 32 ++ right a ds ≡ right (k + a) ds
right-wide k a ds e =
    let size : k + (a - length ds) + length ds ≡ k + a = omega arith in
    sym (append_assoc (replicate k 32) (replicate (a - length ds) 32) ds) ∙ rw (replicate-append-replicate {A = ℕ} k (a - length ds) 32) (sym (right-blanks (k + a) (k + (a - length ds)) ds size))

-- the columns of three decimals before others
thousandths : (n r : ℕ) → n % 1000 ≡ r → last_digits 3 n ≡ last_digits 3 r
thousandths n r e =
    let a : n / 10 / 10 % 10 ≡ r / 10 / 10 % 10 = omega arith in
    let b : n / 10 % 10 ≡ r / 10 % 10 = omega arith in
    let c : n % 10 ≡ r % 10 = omega arith in
    rw (a, b, c) refl

-- from 1000 on a number has the digits of its thousandth and three more
pub decimal-three : (n : ℕ) → 1000 ≤ n → n < 2 ^ 64 → decimal n ≡ decimal (n / 1000) ++ last_digits 3 (n % 1000)
decimal-three n h fits =
    let rest : n / 10 / 100 ≡ n / 1000 = omega arith in
    let hundreds : n / 10 % 100 / 10 ≡ n % 1000 / 10 / 10 % 10 = omega arith in
    let tens : n / 10 % 100 % 10 ≡ n % 1000 / 10 % 10 = omega arith in
    let units : n % 10 ≡ n % 1000 % 10 = omega arith in
    let front : decimal (n / 10) ≡ decimal (n / 1000) ++ (48 + n % 1000 / 10 / 10 % 10) ∷ (48 + n % 1000 / 10 % 10) ∷ [] =
    rw (rest, hundreds, tens) at (decimal-two (n / 10) (omega arith) (omega arith)) in
    decimal_step n (omega arith) fits ∙ ap (λ (d : ℕ). decimal (n / 10) ++ (48 + d) ∷ []) units
    ∙ ap (λ (ds : List ℕ). ds ++ (48 + n % 1000 % 10) ∷ []) front ∙ append_assoc (decimal (n / 1000)) _ _

-- F14.3 of a value of seven to nine digits before the point: the first of them, and columns that
-- stand whatever the number is
right-threes : (n u t : ℕ) → u ≡ n / 1000 → t ≡ u / 1000 → 10 ^ 9 ≤ n → n < 10 ^ 12 → right 14 (decimals 3 false n)
    ≡ right 4 (decimal (t / 1000)) ++ (last_digits 3 (t % 1000) ++ (last_digits 3 (u % 1000) ++ 46 ∷ last_digits 3 (n % 1000)))
right-threes n u t eu et low high =
    let few = length-decimal-le 4 (t / 1000) (omega arith) (omega arith) (omega arith) in
    let first : decimal u ≡ decimal t ++ last_digits 3 (u % 1000) = rw (← et) at (decimal-three u (omega arith) (omega arith)) in
    let second : decimal t ≡ decimal (t / 1000) ++ last_digits 3 (t % 1000) = decimal-three t (omega arith) (omega arith) in
    let last : last_digits 3 n ≡ last_digits 3 (n % 1000) = thousandths n (n % 1000) refl in
    let text : decimal u ++ 46 ∷ last_digits 3 n ≡ decimal (t / 1000) ++ (last_digits 3 (t % 1000) ++ (last_digits 3 (u % 1000) ++ 46 ∷ last_digits 3 (n % 1000))) =
    rw (first, second, last) (simp append_assoc) in
    rw (← eu, text) (sym (right-front 4 10 (decimal (t / 1000)) _ few refl))

-- F14.3 of such a value, from its two halves of six digits
pub right-long : (n h l : ℕ) → h ≡ n / 1_000_000 → l ≡ n % 1_000_000 → 10 ^ 9 ≤ n → n < 10 ^ 12 → right 14 (decimals 3 false n)
    ≡ right 4 (decimal (h / 1000)) ++ (last_digits 3 (h % 1000) ++ (last_digits 3 (l / 1000) ++ 46 ∷ last_digits 3 (l % 1000)))
right-long n h l eh el low high =
    let millions : h ≡ n / 1000 / 1000 = omega (arith, eh) in
    let thousands : l / 1000 ≡ n / 1000 % 1000 = omega (arith, el) in
    let last : l % 1000 ≡ n % 1000 = omega (arith, el) in
    rw (millions, thousands, last) (right-threes n (n / 1000) (n / 1000 / 1000) refl refl low high)

-- F14.3 of a value of at most three digits before the point
pub right-short : (n : ℕ) → n < 1_000_000 → right 14 (decimals 3 false n) ≡ replicate 6 32 ++ (right 4 (decimal (n / 1000)) ++ 46 ∷ last_digits 3 (n % 1000))
right-short n high =
    let few = length-decimal-le 4 (n / 1000) (omega arith) (omega arith) (omega arith) in
    let last = thousandths n (n % 1000) refl in
    let ten : length (decimal (n / 1000) ++ 46 ∷ last_digits 3 n) ≤ 8 = simp length-append (omega arith) in
    rw (right-front 4 4 (decimal (n / 1000)) (46 ∷ last_digits 3 (n % 1000)) few refl, ← last) (sym (right-wide 6 8 (decimal (n / 1000) ++ 46 ∷ last_digits 3 n) ten))

-- F14.3 of a number that is not negative
pub fixed-long : (v : ℤ) (m : ℕ) → pos 1_000_000_000 ≤ℤ v → v ≡ pos m → right 14 (decimals 3 false m) ≡ fixed 3 14 v
fixed-long v m h e = rw e refl

-- three texts of 16, one after another over 48 blanks

pub over-second : (f g : List ℕ) → length f ≡ 16 → take 16 (f ++ replicate 32 32) ++ (g ++ drop 16 (drop 16 (f ++ replicate 32 32))) ≡ f ++ (g ++ replicate 16 32)
over-second f g l =
    ap (λ (t : List ℕ). t ++ (g ++ drop 16 (drop 16 (f ++ replicate 32 32)))) (take_at f (replicate 32 32) 16 l)
    ∙ ap (λ (z : List ℕ). f ++ (g ++ drop 16 z)) (drop_at f (replicate 32 32) 16 l)

pub over-third : (f g h : List ℕ) (n : ℕ) → length f ≡ 16 → length g ≡ 16 → n ≡ 16 → take 32 (f ++ (g ++ replicate 16 32)) ++ (h ++ drop n (drop 32 (f ++ (g ++ replicate 16 32)))) ≡ f ++ (g ++ h)
over-third f g h n l m e =
    let two : length (f ++ g) ≡ 32 = simp length-append (omega arith) in
    let whole : f ++ (g ++ replicate 16 32) ≡ (f ++ g) ++ replicate 16 32 = sym (append_assoc f g (replicate 16 32)) in
    let front : take 32 (f ++ (g ++ replicate 16 32)) ≡ f ++ g = ap (take 32) whole ∙ take_at (f ++ g) (replicate 16 32) 32 two in
    let back : drop 32 (f ++ (g ++ replicate 16 32)) ≡ replicate 16 32 = ap (drop 32) whole ∙ drop_at (f ++ g) (replicate 16 32) 32 two in
    ap (λ (t : List ℕ). t ++ (h ++ drop n (drop 32 (f ++ (g ++ replicate 16 32))))) front
    ∙ ap (λ (z : List ℕ). (f ++ g) ++ (h ++ drop n z)) back
    ∙ ap (λ (k : ℕ). (f ++ g) ++ (h ++ drop k (replicate 16 32))) e
    ∙ ap (λ (t : List ℕ). (f ++ g) ++ t) (append-nil h) ∙ append_assoc f g h

pub third-place : (f g : List ℕ) → length f ≡ 16 → length g ≡ 16 → drop 32 (f ++ (g ++ replicate 16 32)) ≡ replicate 16 32
third-place f g l m =
    let two : length (f ++ g) ≡ 32 = simp length-append (omega arith) in
    ap (drop 32) (sym (append_assoc f g (replicate 16 32))) ∙ drop_at (f ++ g) (replicate 16 32) 32 two

-- The tables of three digits hold what their words say, by a test of each entry.
use Rattle.std.proofs.Common.{◌≡◌, ℕ, zero, suc, ◌+◌, ◌*◌, ◌/◌, ◌%◌, ◌<◌, ◌≤◌, Bool, true, false, ◌&&◌, ◌==◌, List, [], ◌∷◌, length, get_or, refl, sym, arith, decimal, inl, inr, set}
use Rattle.std.specs.Prelude.{if◌then◌else◌, nat_lt}
use Rattle.std.proofs.lemmas.Bool.{eqb-true, cases_lt, lt-ltb, le-ltb}
use Rattle.std.proofs.lemmas.Fmt.{decimal_digit}
use Rattle.rtk_rinex.proofs.ColumnsLemmas.{decimal-two, decimal-pair}
use Rattle.rtk_rinex.proofs.PairsLemmas.{both}
use Rattle.rtk_obs.specs.CivilText.{last_digits}
use Rattle.rtk_rinex.specs.Columns.{right}
use Rattle.rtk_rinex.specs.declared.columns.TheConstants.{POINT_AND_THREE, THREE_OF_FOUR}

-- four texts of one character: those of n, then those of the numbers after it
unfoldable pub entries : (ℕ → ℕ) → (ℕ → ℕ) → (ℕ → ℕ) → (ℕ → ℕ) → ℕ → List ℕ → Bool
entries a b c d n (p ∷ q ∷ r ∷ s ∷ more) = (p == a n) && ((q == b n) && ((r == c n) && ((s == d n) && entries a b c d (n + 1) more)))
entries a b c d n [] = true
entries a b c d n (p ∷ []) = false
entries a b c d n (p ∷ q ∷ []) = false
entries a b c d n (p ∷ q ∷ r ∷ []) = false

abbrev pub Stands : ℕ → ℕ → ℕ → ℕ → List ℕ → ℕ → Type 0
Stands p q r s ts i = (get_or ts (4 * i) 0 ≡ p) × (get_or ts (4 * i + 1) 0 ≡ q) × (get_or ts (4 * i + 2) 0 ≡ r) × (get_or ts (4 * i + 3) 0 ≡ s)

pub entry_at : (a b c d : ℕ → ℕ) (n : ℕ) (ts : List ℕ) (i : ℕ) → entries a b c d n ts ≡ true → 4 * i + 3 < length ts → Stands (a (n + i)) (b (n + i)) (c (n + i)) (d (n + i)) ts i
unfolding entries
entry_at a b c d n [] i h l = absurd (omega arith)
entry_at a b c d n (p ∷ []) i h l = absurd (omega arith)
entry_at a b c d n (p ∷ q ∷ []) i h l = absurd (omega arith)
entry_at a b c d n (p ∷ q ∷ r ∷ []) i h l = absurd (omega arith)
entry_at a b c d n (p ∷ q ∷ r ∷ s ∷ more) zero h l =
    let h1 = both (p == a n) ((q == b n) && ((r == c n) && ((s == d n) && entries a b c d (n + 1) more))) h in
    let h2 = both (q == b n) ((r == c n) && ((s == d n) && entries a b c d (n + 1) more)) h1.1 in
    let h3 = both (r == c n) ((s == d n) && entries a b c d (n + 1) more) h2.1 in
    let h4 = both (s == d n) (entries a b c d (n + 1) more) h3.1 in
    let e : n + 0 ≡ n = omega arith in
    rw e (eqb-true p (a n) h1.0, eqb-true q (b n) h2.0, eqb-true r (c n) h3.0, eqb-true s (d n) h4.0)
entry_at a b c d n (p ∷ q ∷ r ∷ s ∷ more) (suc i) h l =
    let h1 = both (p == a n) ((q == b n) && ((r == c n) && ((s == d n) && entries a b c d (n + 1) more))) h in
    let h2 = both (q == b n) ((r == c n) && ((s == d n) && entries a b c d (n + 1) more)) h1.1 in
    let h3 = both (r == c n) ((s == d n) && entries a b c d (n + 1) more) h2.1 in
    let h4 = both (s == d n) (entries a b c d (n + 1) more) h3.1 in
    let e : n + suc i ≡ n + 1 + i = omega arith in
    let at : 4 * suc i ≡ suc (suc (suc (suc (4 * i)))) = omega arith in
    let at1 : 4 * suc i + 1 ≡ suc (suc (suc (suc (4 * i + 1)))) = omega arith in
    let at2 : 4 * suc i + 2 ≡ suc (suc (suc (suc (4 * i + 2)))) = omega arith in
    let at3 : 4 * suc i + 3 ≡ suc (suc (suc (suc (4 * i + 3)))) = omega arith in
    rw (at3, at2, at1, at, e) (entry_at a b c d (n + 1) more i h4.1 (omega arith))

abbrev pub hundreds : ℕ → ℕ
hundreds n = 48 + n / 10 / 10 % 10

abbrev pub tens : ℕ → ℕ
tens n = 48 + n / 10 % 10

abbrev pub units : ℕ → ℕ
units n = 48 + n % 10

-- a point and three digits
points_test : entries (λ n. 46) hundreds tens units 0 POINT_AND_THREE ≡ true
unfolding entries
points_test = refl

pub point_at : (n : ℕ) → n < 1000 → Stands 46 (hundreds n) (tens n) (units n) POINT_AND_THREE n
point_at n h = let e : 0 + n ≡ n = omega arith in rw e at (entry_at (λ n. 46) hundreds tens units 0 POINT_AND_THREE n points_test (omega arith))

-- at most three digits, after blanks
abbrev pub hundreds_or_blank : ℕ → ℕ
hundreds_or_blank n = if nat_lt n 100 then 32 else hundreds n

abbrev pub tens_or_blank : ℕ → ℕ
tens_or_blank n = if nat_lt n 10 then 32 else tens n

threes_test : entries (λ n. 32) hundreds_or_blank tens_or_blank units 0 THREE_OF_FOUR ≡ true
unfolding entries
threes_test = refl

three_at : (n : ℕ) → n < 1000 → Stands 32 (hundreds_or_blank n) (tens_or_blank n) (units n) THREE_OF_FOUR n
three_at n h = let e : 0 + n ≡ n = omega arith in rw e at (entry_at (λ n. 32) hundreds_or_blank tens_or_blank units 0 THREE_OF_FOUR n threes_test (omega arith))

right-one : (n : ℕ) → n < 10 → right 4 (decimal n) ≡ 32 ∷ 32 ∷ 32 ∷ units n ∷ []
right-one n h =
    let u : n % 10 ≡ n = omega arith in
    rw (decimal_digit n h, u) refl

right-two : (n : ℕ) → 10 ≤ n → n < 100 → right 4 (decimal n) ≡ 32 ∷ 32 ∷ tens n ∷ units n ∷ []
right-two n low h =
    let t : n / 10 % 10 ≡ n / 10 = omega arith in
    rw (decimal-pair n low h, t) refl

right-three : (n : ℕ) → 100 ≤ n → n < 1000 → right 4 (decimal n) ≡ 32 ∷ hundreds n ∷ tens n ∷ units n ∷ []
right-three n low h =
    let t : n % 100 / 10 ≡ n / 10 % 10 = omega arith in
    let u : n % 100 % 10 ≡ n % 10 = omega arith in
    let d : n / 100 ≡ n / 10 / 10 % 10 = omega arith in
    rw (decimal-two n low (omega arith), t, u, decimal_digit (n / 100) (omega arith), d) refl

-- which of the three it is
abbrev Columns : ℕ → List ℕ
Columns n = 32 ∷ hundreds_or_blank n ∷ tens_or_blank n ∷ units n ∷ []

pub columns-of : (n : ℕ) → n < 1000 → right 4 (decimal n) ≡ Columns n
columns-of n h =
    elim (cases_lt n 10) [
      | inl a ↦
          let few : nat_lt n 10 ≡ true = lt-ltb n 10 a in
          let low : nat_lt n 100 ≡ true = lt-ltb n 100 (omega arith) in
          rw (few, low) (right-one n a)
      | inr a ↦
          let more : nat_lt n 10 ≡ false = le-ltb n 10 a in
          elim (cases_lt n 100) [
            | inl b ↦ let low : nat_lt n 100 ≡ true = lt-ltb n 100 b in rw (more, low) (right-two n a b)
            | inr b ↦ let high : nat_lt n 100 ≡ false = le-ltb n 100 b in rw (more, high) (right-three n b h)
          ]
    ]

-- the columns of the table
pub three_columns : (n : ℕ) → n < 1000
    → get_or THREE_OF_FOUR (4 * n) 0 ∷ get_or THREE_OF_FOUR (4 * n + 1) 0 ∷ get_or THREE_OF_FOUR (4 * n + 2) 0 ∷ get_or THREE_OF_FOUR (4 * n + 3) 0 ∷ [] ≡ right 4 (decimal n)
three_columns n h = let t = three_at n h in rw (t.0, t.1, t.2, t.3) (sym (columns-of n h))

pub point_columns : (n : ℕ) → n < 1000
    → get_or POINT_AND_THREE (4 * n) 0 ∷ get_or POINT_AND_THREE (4 * n + 1) 0 ∷ get_or POINT_AND_THREE (4 * n + 2) 0 ∷ get_or POINT_AND_THREE (4 * n + 3) 0 ∷ [] ≡ 46 ∷ last_digits 3 n
point_columns n h = let t = point_at n h in rw (t.0, t.1, t.2, t.3) refl

-- four texts of one character over four columns
pub over-four : (field : List ℕ) (a b c d : ℕ) → length field ≡ 4 → set (set (set (set field 0 a) 1 b) 2 c) 3 d ≡ a ∷ b ∷ c ∷ d ∷ []
over-four [] a b c d l = absurd (omega arith)
over-four (p ∷ []) a b c d l = absurd (omega arith)
over-four (p ∷ q ∷ []) a b c d l = absurd (omega arith)
over-four (p ∷ q ∷ r ∷ []) a b c d l = absurd (omega arith)
over-four (p ∷ q ∷ r ∷ s ∷ []) a b c d l = refl
over-four (p ∷ q ∷ r ∷ s ∷ t ∷ more) a b c d l = absurd (omega arith)

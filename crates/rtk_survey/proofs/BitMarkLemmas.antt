-- Marks of places, one bit each.
use Rattle.std.proofs.Common.{◌≡◌, ◌<◌, ◌≤◌, ◌+◌, ◌*◌, ◌/◌, ◌%◌, ◌^◌, ◌==◌, ◌||◌, ◌∙◌, ℕ, zero, suc, max, false, List, length, get_or, set, replicate, bit_and, bit_or, inl, inr, refl, sym, ap, get_or-set_same, get_or-set_other, eq-eqb, ne_eqb, w64, arith}
use Rattle.std.specs.Int.{bit_at}
use Rattle.std.proofs.lemmas.Bool.{cases_eq, cases_lt}
use Rattle.std.proofs.lemmas.List.{get_or_past}
use Rattle.std.proofs.lemmas.Nat.Bits.{bit_at-lt, bit_at-zero, bit_at_or, bit_at_set_same, bit_at_set_other, shr_and_one}
use Rattle.rtk_survey.specs.BitMarks.{is_marked_in}

zero-word : (n k : ℕ) → ◌≡◌ {A = ℕ} (get_or (replicate n 0) k 0) 0
zero-word zero k = refl
zero-word (suc n) zero = refl
zero-word (suc n) (suc k) = zero-word n k

-- words without a bit mark no place
pub none-marked : (count n : ℕ) → is_marked_in (replicate count 0) n ≡ false
unfolding is_marked_in
none-marked count n =
    ap (λ (w : ℕ). bit_at w (n % 64) == 1) (zero-word count (n / 64)) ∙ ap (λ (b : ℕ). b == 1) (bit_at-zero (n % 64))

-- the test of a shifted word
pub marked-by-shift : (words : List ℕ) (n : ℕ) → (bit_and (get_or words (n / 64) 0 / 2 ^ (n % 64)) 1 == 1) ≡ is_marked_in words n
unfolding is_marked_in
marked-by-shift words n = ap (λ (b : ℕ). b == 1) (shr_and_one (get_or words (n / 64) 0) (n % 64))

-- a place that is marked more
pub marked-more : (words : List ℕ) (place n : ℕ) → place / 64 < length words
    → is_marked_in (set words (place / 64) (bit_or (get_or words (place / 64) 0) (1 * 2 ^ (place % 64) % 2 ^ 64))) n ≡ ((place == n) || is_marked_in words n)
unfolding is_marked_in
marked-more words place n within =
    let word : ℕ = get_or words (place / 64) 0 in
    let new : ℕ = bit_or word (1 * 2 ^ (place % 64) % 2 ^ 64) in
    let low : place % 64 < 64 = omega arith in
    elim (cases_eq place n) [
      | inl same ↦
          ap (λ (m : ℕ). is_marked_in (set words (place / 64) new) m) (sym same)
          ∙ ap (λ (w : ℕ). bit_at w (place % 64) == 1) (get_or-set_same words (place / 64) new 0 within)
          ∙ eq-eqb (bit_at new (place % 64)) 1 (bit_at_set_same w64 word (place % 64) low)
          ∙ sym (ap (λ b. b || is_marked_in words n) (eq-eqb place n same))
      | inr other ↦
          elim (cases_eq (n / 64) (place / 64)) as (λ _. is_marked_in (set words (place / 64) new) n ≡ is_marked_in words n) [
            | inl row ↦
                ap (λ (k : ℕ). bit_at (get_or (set words (place / 64) new) k 0) (n % 64) == 1) row
                ∙ ap (λ (w : ℕ). bit_at w (n % 64) == 1) (get_or-set_same words (place / 64) new 0 within)
                ∙ ap (λ (b : ℕ). b == 1) (bit_at_set_other w64 word (place % 64) low (n % 64) (λ e. other (omega (arith, e, row))))
                ∙ ap (λ (k : ℕ). bit_at (get_or words k 0) (n % 64) == 1) (sym row)
            | inr apart ↦ ap (λ (w : ℕ). bit_at w (n % 64) == 1) (get_or-set_other words (place / 64) (n / 64) new 0 apart)
          ]
          ∙ sym (ap (λ b. b || is_marked_in words n) (ne_eqb place n other))
    ]

-- ---- marks into which others are put

either-bit : (a b : ℕ) → a < 2 → b < 2 → (max a b == 1) ≡ ((b == 1) || (a == 1))
either-bit zero zero p q = refl
either-bit zero (suc zero) p q = refl
either-bit zero (suc (suc b)) p q = absurd (omega arith)
either-bit (suc zero) zero p q = refl
either-bit (suc zero) (suc zero) p q = refl
either-bit (suc zero) (suc (suc b)) p q = absurd (omega arith)
either-bit (suc (suc a)) b p q = absurd (omega arith)

joined-in : (old more now : List ℕ) (n : ℕ) → get_or now (n / 64) 0 ≡ bit_or (get_or old (n / 64) 0) (get_or more (n / 64) 0)
    → is_marked_in now n ≡ (is_marked_in more n || is_marked_in old n)
unfolding is_marked_in
joined-in old more now n is =
    let a : ℕ = get_or old (n / 64) 0 in
    let b : ℕ = get_or more (n / 64) 0 in
    ap (λ (w : ℕ). bit_at w (n % 64) == 1) is ∙ ap (λ (x : ℕ). x == 1) (bit_at_or a b (n % 64))
    ∙ either-bit (bit_at a (n % 64)) (bit_at b (n % 64)) (bit_at-lt a (n % 64)) (bit_at-lt b (n % 64))

-- once the words of others are put into as many, the places of both are marked
pub joined-marks : (old more now : List ℕ) (count : ℕ) → length old ≡ count → length more ≡ count → length now ≡ count
    → ((k : ℕ) → k < count → get_or now k 0 ≡ bit_or (get_or old k 0) (get_or more k 0))
    → (n : ℕ) → is_marked_in now n ≡ (is_marked_in more n || is_marked_in old n)
joined-marks old more now count olds mores nows joined n = joined-in old more now n (elim (cases_lt (n / 64) count) [
  | inl within ↦ joined (n / 64) within
  | inr past ↦
      get_or_past now (n / 64) 0 (omega (arith, nows, past))
      ∙ sym (ap (λ (w : ℕ). bit_or w (get_or more (n / 64) 0)) (get_or_past old (n / 64) 0 (omega (arith, olds, past)))
      ∙ ap (λ (w : ℕ). bit_or 0 w) (get_or_past more (n / 64) 0 (omega (arith, mores, past))))
])

-- one word more
pub word-joined : (old more now : List ℕ) (k : ℕ) → k < length now
    → ((n : ℕ) → n < k → get_or now n 0 ≡ bit_or (get_or old n 0) (get_or more n 0))
    → ((n : ℕ) → k ≤ n → get_or now n 0 ≡ get_or old n 0)
    → (n : ℕ) → n < k + 1 → get_or (set now k (bit_or (get_or now k 0) (get_or more k 0))) n 0 ≡ bit_or (get_or old n 0) (get_or more n 0)
word-joined old more now k within joined left n lt =
    let word : ℕ = bit_or (get_or now k 0) (get_or more k 0) in
    elim (cases_eq n k) [
      | inl same ↦
          ap (λ (m : ℕ). get_or (set now k word) m 0) same ∙ get_or-set_same now k word 0 within
          ∙ ap (λ (w : ℕ). bit_or w (get_or more k 0)) (left k (omega arith))
          ∙ ap (λ (m : ℕ). bit_or (get_or old m 0) (get_or more m 0)) (sym same)
      | inr other ↦ get_or-set_other now k n word 0 other ∙ joined n (omega (arith, lt, other))
    ]

pub words-left : (old now : List ℕ) (k word : ℕ) → ((n : ℕ) → k ≤ n → get_or now n 0 ≡ get_or old n 0)
    → (n : ℕ) → k + 1 ≤ n → get_or (set now k word) n 0 ≡ get_or old n 0
words-left old now k word left n above =
    get_or-set_other now k n word 0 (λ same. absurd (omega (arith, same, above))) ∙ left n (omega (arith, above))

-- Counts by number, one message after another.
use Rattle.std.proofs.Common.{◌≡◌, ◌≢◌, ◌+◌, ◌==◌, ℕ, Bool, true, false, cond, List, ◌∷◌, Some, inl, inr, sym, ap, subst, ◌∙◌, eq-eqb, ne_eqb, arith}
use Rattle.std.proofs.lemmas.Bool.{cases_eq}
use Rattle.std.proofs.lemmas.List.Sums.{sum_by-cons}
use Rattle.std.specs.BTreeMap.{BTreeMap, Updates}
use Rattle.std.specs.List.{count_by}
use Rattle.std.specs.Option.{unwrap_or}
use Rattle.std.specs.Ordering.{nat_cmp}
use Rattle.rtk_survey.specs.Contents.{count_at}
use Rattle.rtk_survey.specs.Counting.{shown_count, count_of}
use Rattle.rtk_survey.proofs.MapLemmas.{other-key}

-- one more that counts, and one that does not
pub one-more : {X : Type 0} (test : X → Bool) (x : X) (xs : List X) (old new : ℕ) → test x ≡ true → old ≡ count_of test xs → new ≡ shown_count (old + 1) → new ≡ count_of test (x ∷ xs)
one-more {X} test x xs old new holds was is =
    let k : ℕ = count_by test xs in
    let shown : shown_count (shown_count k + 1) ≡ shown_count (cond true 1 0 + k) = omega arith in
    is ∙ ap (λ (a : ℕ). shown_count (a + 1)) was ∙ shown ∙ ap (λ (b : Bool). shown_count (cond b 1 0 + k)) (sym holds)
    ∙ ap shown_count (sym (sum_by-cons (λ (y : X). cond (test y) 1 0) x xs))

pub none-more : {X : Type 0} (test : X → Bool) (x : X) (xs : List X) (count : ℕ) → test x ≡ false → count ≡ count_of test xs → count ≡ count_of test (x ∷ xs)
none-more {X} test x xs count fails was =
    let k : ℕ = count_by test xs in
    let none : shown_count k ≡ shown_count (cond false 1 0 + k) = omega arith in
    was ∙ none ∙ ap (λ (b : Bool). shown_count (cond b 1 0 + k)) (sym fails) ∙ ap shown_count (sym (sum_by-cons (λ (y : X). cond (test y) 1 0) x xs))

-- one more of a number
pub tally-more : {X : Type 0} (test : ℕ → X → Bool) (x : X) (xs : List X) (old new : BTreeMap ℕ ℕ) (k : ℕ) → ((n : ℕ) → test n x ≡ (k == n))
    → count_at new k ≡ shown_count (count_at old k + 1) → ((n : ℕ) → n ≢ k → count_at new n ≡ count_at old n)
    → ((n : ℕ) → count_at old n ≡ count_of (test n) xs) → (n : ℕ) → count_at new n ≡ count_of (test n) (x ∷ xs)
tally-more {X} test x xs old new k is own others counts n = elim (cases_eq n k) [
  | inl same ↦
      let holds : test n x ≡ true = is n ∙ eq-eqb k n (sym same) in
      one-more (test n) x xs (count_at old n) (count_at new n) holds (counts n) (subst (λ (m : ℕ). count_at new m ≡ shown_count (count_at old m + 1)) (sym same) own)
  | inr other ↦
      let fails : test n x ≡ false = is n ∙ ne_eqb k n (λ same. other (sym same)) in
      none-more (test n) x xs (count_at new n) fails (others n other ∙ counts n)
]

-- none of these numbers
pub tally-same : {X : Type 0} (test : ℕ → X → Bool) (x : X) (xs : List X) (m : BTreeMap ℕ ℕ) → ((n : ℕ) → test n x ≡ false)
    → ((n : ℕ) → count_at m n ≡ count_of (test n) xs) → (n : ℕ) → count_at m n ≡ count_of (test n) (x ∷ xs)
tally-same {X} test x xs m fails counts n = none-more (test n) x xs (count_at m n) (fails n) (counts n)

-- the count of a number was put
pub put-count : (old new : BTreeMap ℕ ℕ) (k count : ℕ) → Updates nat_cmp old new k (Some count) → count_at new k ≡ count
put-count old new k count puts = ap (λ o. unwrap_or o 0) puts.1

pub other-counts : (old new : BTreeMap ℕ ℕ) (k count : ℕ) → Updates nat_cmp old new k (Some count) → (n : ℕ) → n ≢ k → count_at new n ≡ count_at old n
other-counts old new k count puts n other = ap (λ o. unwrap_or o 0) (puts.2 n (other-key k n other))

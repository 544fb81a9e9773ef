-- Sums over satellites, one term after another, marks of satellites, and tests of codes.
use Rattle.std.proofs.Common.{◌≡◌, ◌<◌, ◌+◌, ◌||◌, ℕ, zero, suc, Bool, true, false, List, [], ◌∷◌, ◌++◌, length, set, get_or, get_or-set_same, get_or-set_other, inl, inr, refl, sym, ap, ◌∙◌, arith}
use Rattle.std.proofs.lemmas.Bool.{cases_eq}
use Rattle.std.proofs.lemmas.List.Folds.{list_any-append, list_any_at}
use Rattle.std.proofs.lemmas.List.FromFn.{length-range_with_len, get_or-range_with_len}
use Rattle.std.proofs.lemmas.List.Sums.{sum_by-cons, sum_by-append}
use Rattle.std.specs.List.{list_any, sum_by, range_with_len}

range-suc : (a n : ℕ) → range_with_len a (suc n) ≡ range_with_len a n ++ (a + n) ∷ []
range-suc a zero =
    let e : a ≡ a + 0 = omega arith in
    ap (λ k. k ∷ []) e
range-suc a (suc n) =
    let e : (a + 1) + n ≡ a + suc n = omega arith in
    ap (λ t. a ∷ t) (range-suc (a + 1) n ∙ ap (λ k. range_with_len (a + 1) n ++ k ∷ []) e)

pub sum-more : (f : ℕ → ℕ) (a n k next : ℕ) → k ≡ a + n → next ≡ n + 1 → sum_by f (range_with_len a next) ≡ sum_by f (range_with_len a n) + f k
sum-more f a n k next at is =
    let e : next ≡ suc n = omega (arith, is) in
    let longer : sum_by f (range_with_len a next) ≡ sum_by f (range_with_len a n ++ (a + n) ∷ []) = ap (λ (m : ℕ). sum_by f (range_with_len a m)) e ∙ ap (λ (xs : List ℕ). sum_by f xs) (range-suc a n) in
    let last : sum_by f (range_with_len a n ++ (a + n) ∷ []) ≡ sum_by f (range_with_len a n) + sum_by f ((a + n) ∷ []) = sum_by-append f (range_with_len a n) ((a + n) ∷ []) in
    let alone : sum_by f ((a + n) ∷ []) ≡ f (a + n) + sum_by f [] = sum_by-cons f (a + n) [] in
    let nil : sum_by f [] ≡ 0 = refl in
    let here : f (a + n) ≡ f k = ap f (sym at) in
    omega (arith, longer, last, alone, nil, here)

-- ---- marks of numbers from 0, each where a test holds

-- one number more is marked
pub mark-more : (test : ℕ → Bool) (marks : List Bool) (k j : ℕ) (mark : Bool) → j ≡ k → k < length marks → mark ≡ test k
    → ((n : ℕ) (none : Bool) → n < k → get_or marks n none ≡ test n) → (n : ℕ) (none : Bool) → n < k + 1 → get_or (set marks j mark) n none ≡ test n
mark-more test marks k j mark at within is told n none lt =
    let here : get_or (set marks k mark) n none ≡ test n = elim (cases_eq n k) [
      | inl same ↦ ap (λ (m : ℕ). get_or (set marks k mark) m none) same ∙ get_or-set_same marks k mark none within ∙ is ∙ ap test (sym same)
      | inr other ↦ get_or-set_other marks k n mark none other ∙ told n none (omega (arith, lt, other))
    ] in
    ap (λ (m : ℕ). get_or (set marks m mark) n none) at ∙ here

-- the mark of a number
pub mark-at : (test : ℕ → Bool) (marks : List Bool) (end k j : ℕ) (none : Bool) → j ≡ k → k < end
    → ((n : ℕ) (d : Bool) → n < end → get_or marks n d ≡ test n) → get_or marks j none ≡ test k
mark-at test marks end k j none at within told = ap (λ (m : ℕ). get_or marks m none) at ∙ told k none within

-- ---- a test of numbers from 0

-- a number passes it
pub any-at : (test : ℕ → Bool) (n k : ℕ) → k < n → test k ≡ true → list_any test (range_with_len 0 n) ≡ true
any-at test n k within holds =
    let here : 0 + k ≡ k = omega arith in
    let at : get_or (range_with_len 0 n) k 0 ≡ k = get_or-range_with_len 0 n k 0 within ∙ here in
    let inside : k < length (range_with_len 0 n) = omega (arith, within, length-range_with_len 0 n) in
    list_any_at test (range_with_len 0 n) k 0 inside (ap test at ∙ holds)

-- nor does the next one
pub any-more : (test : ℕ → Bool) (n : ℕ) → list_any test (range_with_len 0 n) ≡ false → test n ≡ false → list_any test (range_with_len 0 (n + 1)) ≡ false
any-more test n none fails =
    let e : n + 1 ≡ suc n = omega arith in
    let here : 0 + n ≡ n = omega arith in
    ap (λ (m : ℕ). list_any test (range_with_len 0 m)) e
    ∙ ap (λ (xs : List ℕ). list_any test xs) (range-suc 0 n)
    ∙ list_any-append test (range_with_len 0 n) ((0 + n) ∷ [])
    ∙ ap (λ (b : Bool). b || (test (0 + n) || false)) none ∙ ap (λ (b : Bool). b || false) (ap test here ∙ fails)

-- The leap seconds of the table at a moment.
use Rattle.std.proofs.Common.{◌≡◌, ◌<◌, ◌≤◌, ℕ, zero, suc, Bool, true, false, cond, sym, ap, subst, ◌∙◌, inl, inr, arith}
use Rattle.std.specs.Prelude.{nat_le}
use Rattle.std.proofs.lemmas.Bool.{cases_eq}
use Rattle.std.proofs.lemmas.Bool.Decides.{nat_tests}
use Rattle.rtk_obs.specs.LeapSeconds.{leap_start, IsLeapSecondsAt}
use Rattle.rtk_survey.specs.ClockLines.{last_begun, leap_seconds_by}

yes : (a b : ℕ) → a ≤ b → nat_le a b ≡ true
yes a b le = grind (arith, nat_tests)

no : (a b : ℕ) → (a ≤ b → ⊥) → nat_le a b ≡ false
no a b above =
    let less : b < a = omega (arith, above) in
    grind (arith, nat_tests)

-- the last of the first k rows that has begun
last-of : (begun : ℕ → Bool) (n k : ℕ) → n ≤ k → (1 ≤ n → begun n ≡ true) → ((j : ℕ) → n < j → j ≤ k → begun j ≡ false) → n ≡ last_begun begun k
last-of begun n zero few is none = omega (arith, few)
last-of begun n (suc k) few is none = elim (cases_eq n (suc k)) [
  | inl same ↦
      let here : begun (suc k) ≡ true = subst (λ (j : ℕ). begun j ≡ true) same (is (omega (arith, same))) in
      same ∙ ap (λ (b : Bool). cond b (suc k) (last_begun begun k)) (sym here)
  | inr other ↦
      let less : n ≤ k = omega (arith, few, other) in
      let out : begun (suc k) ≡ false = none (suc k) (omega (arith, less)) (omega arith) in
      last-of begun n k less is (λ j above within. none j above (omega (arith, within)))
      ∙ ap (λ (b : Bool). cond b (suc k) (last_begun begun k)) (sym out)
]

pub last-row : (t n : ℕ) → IsLeapSecondsAt t n → n ≡ leap_seconds_by t
unfolding leap_seconds_by
last-row t n is =
    last-of (λ k. nat_le (leap_start k) t) n 18 is.known (λ some. yes (leap_start n) t (is.begun some))
    (λ j above within. no (leap_start j) t (is.last j above within))

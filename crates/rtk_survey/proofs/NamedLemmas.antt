-- The MSM that the command of a station names.
use Rattle.std.proofs.Common.{◌≡◌, ◌≤◌, ◌<◌, ◌==◌, ◌∙◌, ℕ, cond, refl, arith}
use Rattle.std.specs.Prelude.{nat_lt}
use Rattle.std.proofs.lemmas.Bool.{cond_both, eqb-true, eqb-false, ltb-true, ltb-false}
use Rattle.rtk_message.specs.declared.msm_kind.MsmKind.{MsmKind}
use Rattle.rtk_message.specs.declared.msm_kind.MsmKind.TheVariants.{Msm4, Msm5, Msm6, Msm7}
use Rattle.rtk_message.specs.Systems.{number_of_kind}
use Rattle.rtk_survey.specs.Proposal.{better_of, proposed}

-- a fact of the better of two, by which of them it is
better-is : (epochs : MsmKind → ℕ) (a b : MsmKind) (P : MsmKind → Type 0)
    → (epochs b ≡ 0 → P a) → (epochs b < epochs a → P a) → (0 < epochs b → epochs a ≤ epochs b → P b) → P (better_of epochs a b)
better-is epochs a b P none less more =
    cond_both (epochs b == 0) a (cond (nat_lt (epochs b) (epochs a)) a b) P
    (λ zero. none (eqb-true (epochs b) 0 zero))
    (λ some. cond_both (nat_lt (epochs b) (epochs a)) a b P
    (λ lt. less (ltb-true (epochs b) (epochs a) lt))
    (λ le. let other = eqb-false (epochs b) 0 some in
    let positive : 0 < epochs b = omega (arith, other) in
    more positive (ltb-false (epochs b) (epochs a) le)))

-- k has no fewer epochs than j, and if as many, and there are any, then k is no less than j
record Wins (epochs : MsmKind → ℕ) (j k : MsmKind) : Type 0 where
  pub most : epochs j ≤ epochs k
  pub greater : epochs j ≡ epochs k → 0 < epochs j → number_of_kind j ≤ number_of_kind k

itself : (epochs : MsmKind → ℕ) (k : MsmKind) → Wins epochs k k
itself epochs k = record { most = omega arith; greater = λ same some. omega arith }

keeps : (epochs : MsmKind → ℕ) (j a b : MsmKind) → Wins epochs j a → number_of_kind a ≤ number_of_kind b → Wins epochs j (better_of epochs a b)
keeps epochs j a b wins rises =
    better-is epochs a b (λ k. Wins epochs j k) (λ none. wins) (λ less. wins)
    (λ some more. let most = wins.most in record {
      most = omega (arith, most, more);
      greater = λ same positive.
          let alike : epochs j ≡ epochs a = omega (arith, most, more, same) in
          let under = wins.greater alike positive in
          omega (arith, under, rises);
    })

newest : (epochs : MsmKind → ℕ) (a b : MsmKind) → Wins epochs b (better_of epochs a b)
newest epochs a b =
    better-is epochs a b (λ k. Wins epochs b k)
    (λ none. record { most = omega (arith, none); greater = λ same positive. absurd (omega (arith, none, positive)) })
    (λ less. record { most = omega (arith, less); greater = λ same positive. absurd (omega (arith, less, same)) })
    (λ some more. itself epochs b)

-- the better of two is no greater than both
under : (epochs : MsmKind → ℕ) (a b : MsmKind) (n : ℕ) → number_of_kind a ≤ n → number_of_kind b ≤ n → number_of_kind (better_of epochs a b) ≤ n
under epochs a b n low high = better-is epochs a b (λ k. number_of_kind k ≤ n) (λ none. low) (λ less. low) (λ some more. high)

wins : (epochs : MsmKind → ℕ) (kind : MsmKind) → Wins epochs kind (proposed epochs)
wins epochs kind =
    let first = better_of epochs Msm4 Msm5 in
    let second = better_of epochs first Msm6 in
    let low : number_of_kind first ≤ 1076 = under epochs Msm4 Msm5 1076 (omega arith) (omega arith) in
    let high : number_of_kind second ≤ 1077 = let low' : number_of_kind first ≤ 1077 = omega (arith, low) in under epochs first Msm6 1077 low' (omega arith) in
    elim kind as (λ k. Wins epochs k (proposed epochs)) [
      | Msm4 ↦ keeps epochs Msm4 second Msm7 (keeps epochs Msm4 first Msm6 (keeps epochs Msm4 Msm4 Msm5 (itself epochs Msm4) (omega arith)) low) high
      | Msm5 ↦ keeps epochs Msm5 second Msm7 (keeps epochs Msm5 first Msm6 (newest epochs Msm4 Msm5) low) high
      | Msm6 ↦ keeps epochs Msm6 second Msm7 (newest epochs first Msm6) high
      | Msm7 ↦ newest epochs second Msm7
    ]

pub named-most : (epochs : MsmKind → ℕ) (kind : MsmKind) → epochs kind ≤ epochs (proposed epochs)
named-most epochs kind = (wins epochs kind).most

pub named-greater : (epochs : MsmKind → ℕ) (kind : MsmKind) → epochs kind ≡ epochs (proposed epochs) → 0 < epochs kind
    → number_of_kind kind ≤ number_of_kind (proposed epochs)
named-greater epochs kind = (wins epochs kind).greater

-- a step at which nothing has epochs
pub stays : (epochs : MsmKind → ℕ) (a b : MsmKind) → epochs b ≡ 0 → better_of epochs a b ≡ a
stays epochs a b none = better-is epochs a b (λ k. k ≡ a) (λ zero. refl) (λ less. refl) (λ some more. absurd (omega (arith, some, none)))

pub named-none : (epochs : MsmKind → ℕ) → epochs (proposed epochs) ≡ 0 → proposed epochs ≡ Msm4
named-none epochs none =
    let five : epochs Msm5 ≡ 0 = let most = named-most epochs Msm5 in omega (arith, most, none) in
    let six : epochs Msm6 ≡ 0 = let most = named-most epochs Msm6 in omega (arith, most, none) in
    let seven : epochs Msm7 ≡ 0 = let most = named-most epochs Msm7 in omega (arith, most, none) in
    stays epochs (better_of epochs (better_of epochs Msm4 Msm5) Msm6) Msm7 seven
    ∙ stays epochs (better_of epochs Msm4 Msm5) Msm6 six ∙ stays epochs Msm4 Msm5 five

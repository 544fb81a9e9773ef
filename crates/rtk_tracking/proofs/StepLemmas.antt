-- How often steps came, and the most frequent of them.
use Rattle.std.proofs.Common.{◌≡◌, ◌≢◌, ◌<◌, ◌≤◌, ◌+◌, ◌^◌, ◌==◌, ℕ, Bool, true, false, ◌&&◌, cond, eqb, ltb, Option, Some, None, List, [], ◌∷◌, length, inl, inr, ◌⊎◌, refl, sym, ap, subst, ◌∙◌, arith}
use Rattle.std.proofs.lemmas.Bool.{cases_eq, cases_lt, cases_Bool, or_cases, or_parts, eq-eqb, ne_eqb, eqb-true, lt-ltb, ltb-true, ltb-false, and_parts, and_from, or_right, both_ways}
use Rattle.std.proofs.lemmas.List.Sums.{sum_by-cons, count_by-le-length}
use Rattle.std.specs.Prelude.{count_by}
use Rattle.rtk_tracking.specs.Epochs.{capped}
use Rattle.rtk_tracking.specs.Interval.{times_of_step, IsMostFrequent, IsInterval, more_frequent, interval_of}
use Rattle.rtk_tracking.specs.Interval.{overtakes as ahead}
use Rattle.rtk_tracking.specs.Laws.{times_among, IsFirstOfMostFrequent}

-- 1 for a test that holds
abbrev once : Bool → ℕ
once b = cond b 1 0

count-cons : (step s : ℕ) (steps : List ℕ) → count_by (λ x. eqb x step) (s ∷ steps) ≡ once (eqb s step) + count_by (λ x. eqb x step) steps
count-cons step s steps = sum_by-cons (λ x. cond (eqb x step) 1 0) s steps

-- a step that came again came once more, and each other one as often as before
pub times-again : (step : ℕ) (steps : List ℕ) → times_of_step step (step ∷ steps) ≡ capped (times_of_step step steps + 1)
times-again step steps =
    let one : once (eqb step step) ≡ 1 = ap once (eq-eqb step step refl) in
    let more = count-cons step step steps in
    omega (arith, one, more)

pub times-other : (q step : ℕ) (steps : List ℕ) → step ≢ q → times_of_step q (step ∷ steps) ≡ times_of_step q steps
times-other q step steps other =
    let none : once (eqb step q) ≡ 0 = ap once (ne_eqb step q other) in
    let more = count-cons q step steps in
    omega (arith, none, more)

pub times-rise : (step : ℕ) (steps : List ℕ) → times_of_step step steps ≤ times_of_step step (step ∷ steps)
times-rise step steps = let again = times-again step steps in omega (arith, again)

pub times-some : (step : ℕ) (steps : List ℕ) → 0 < times_of_step step (step ∷ steps)
times-some step steps = let again = times-again step steps in omega (arith, again)

-- the first step is the most frequent
pub first-frequent : (step : ℕ) → IsMostFrequent (step ∷ []) step
first-frequent step = record {
  there = times-some step [];
  most = λ s. elim (cases_eq step s) [
    | inl same ↦ subst (λ (q : ℕ). times_of_step q (step ∷ []) ≤ times_of_step step (step ∷ [])) same (omega arith)
    | inr other ↦ let few = times-other s step [] other in omega (arith, few)
  ];
  lesser = λ s alike. elim (cases_eq step s) [
    | inl same ↦ omega arith
    | inr other ↦ let few = times-other s step [] other in let some = times-some step [] in absurd (omega (arith, few, some, alike))
  ];
}

-- the step that came again overtakes the most frequent one so far
pub overtakes : (best step : ℕ) (steps : List ℕ) → IsMostFrequent steps best
    → (times_of_step best steps < times_of_step step (step ∷ steps)) ⊎ ((times_of_step step (step ∷ steps) ≡ times_of_step best steps) × (step < best))
    → IsMostFrequent (step ∷ steps) step
overtakes best step steps was ahead = record {
  there = times-some step steps;
  most = λ s. elim (cases_eq step s) [
    | inl same ↦ subst (λ (q : ℕ). times_of_step q (step ∷ steps) ≤ times_of_step step (step ∷ steps)) same (omega arith)
    | inr other ↦
        let same = times-other s step steps other in
        let most = was.most s in
        elim ahead [ inl more ↦ omega (arith, same, most, more) | inr alike ↦ let a = alike.0 in omega (arith, same, most, a) ]
  ];
  lesser = λ s equal. elim (cases_eq step s) [
    | inl same ↦ omega arith
    | inr other ↦
        let same = times-other s step steps other in
        let most = was.most s in
        elim ahead [
          | inl more ↦ absurd (omega (arith, same, most, more, equal))
          | inr alike ↦
              let first = alike.0 in
              let less = alike.1 in
              let least = was.lesser s (sym same ∙ equal ∙ first) in
              omega (arith, less, least)
        ]
  ];
}

-- or it does not
pub stays-ahead : (best step : ℕ) (steps : List ℕ) → IsMostFrequent steps best
    → times_of_step step (step ∷ steps) ≤ times_of_step best steps
    → (times_of_step step (step ∷ steps) ≡ times_of_step best steps → best ≤ step)
    → IsMostFrequent (step ∷ steps) best × (times_of_step best steps ≡ times_of_step best (step ∷ steps))
stays-ahead best step steps was behind later =
    let count : times_of_step best steps ≡ times_of_step best (step ∷ steps) =
    elim (cases_eq step best) as (λ _. times_of_step best steps ≡ times_of_step best (step ∷ steps)) [
      | inl same ↦
          let rise : times_of_step best steps ≤ times_of_step best (step ∷ steps) = subst (λ (q : ℕ). times_of_step q steps ≤ times_of_step q (step ∷ steps)) same (times-rise step steps) in
          let fall : times_of_step best (step ∷ steps) ≤ times_of_step best steps = subst (λ (q : ℕ). times_of_step q (step ∷ steps) ≤ times_of_step best steps) same behind in
          omega (arith, rise, fall)
      | inr other ↦ sym (times-other best step steps other)
    ] in (
      record {
        there = let there = was.there in omega (arith, there, count);
        most = λ s. elim (cases_eq step s) [
          | inl same ↦ subst (λ (q : ℕ). times_of_step q (step ∷ steps) ≤ times_of_step best (step ∷ steps)) same (omega (arith, behind, count))
          | inr other ↦ let same = times-other s step steps other in let most = was.most s in omega (arith, same, most, count)
        ];
        lesser = λ s equal. elim (cases_eq step s) [
          | inl same ↦ subst (λ (q : ℕ). best ≤ q) same (later (ap (λ (q : ℕ). times_of_step q (step ∷ steps)) same ∙ equal ∙ sym count))
          | inr other ↦ was.lesser s (sym (times-other s step steps other) ∙ equal ∙ sym count)
        ];
      },
      count,
    )

-- ---- the interval

-- what the test says
ahead-is : (step : ℕ) (steps : List ℕ) (best : ℕ) → ahead step steps best ≡ true
    → (times_of_step best steps < times_of_step step (step ∷ steps)) ⊎ ((times_of_step step (step ∷ steps) ≡ times_of_step best steps) × (step < best))
ahead-is step steps best holds = elim (or_cases (ltb (times_of_step best steps) (times_of_step step (step ∷ steps))) (eqb (times_of_step step (step ∷ steps)) (times_of_step best steps) && ltb step best) holds) [
  | inl more ↦ inl (ltb-true (times_of_step best steps) (times_of_step step (step ∷ steps)) more)
  | inr alike ↦
      let both = and_parts (eqb (times_of_step step (step ∷ steps)) (times_of_step best steps)) (ltb step best) alike in
      inr (eqb-true (times_of_step step (step ∷ steps)) (times_of_step best steps) both.0, ltb-true step best both.1)
]

behind-is : (step : ℕ) (steps : List ℕ) (best : ℕ) → ahead step steps best ≡ false
    → (times_of_step step (step ∷ steps) ≤ times_of_step best steps) × (times_of_step step (step ∷ steps) ≡ times_of_step best steps → best ≤ step)
behind-is step steps best fails = (
  let few : ltb (times_of_step best steps) (times_of_step step (step ∷ steps)) ≡ false =
      (or_parts (ltb (times_of_step best steps) (times_of_step step (step ∷ steps))) (eqb (times_of_step step (step ∷ steps)) (times_of_step best steps) && ltb step best) fails).0 in
      ltb-false (times_of_step best steps) (times_of_step step (step ∷ steps)) few,
  λ alike. elim (cases_lt step best) [
    | inl less ↦ absurd (both_ways (ahead step steps best) fails (or_right (ltb (times_of_step best steps) (times_of_step step (step ∷ steps))) (eqb (times_of_step step (step ∷ steps)) (times_of_step best steps) && ltb step best) (and_from (eqb (times_of_step step (step ∷ steps)) (times_of_step best steps)) (ltb step best) (eq-eqb (times_of_step step (step ∷ steps)) (times_of_step best steps) alike) (lt-ltb step best less))))
    | inr late ↦ late
  ],
)

-- one step more
interval-more : (step : ℕ) (steps : List ℕ) (best : Option ℕ) → IsInterval steps best → IsInterval (step ∷ steps) (more_frequent step steps best)
interval-more step steps None was = subst (λ (xs : List ℕ). IsMostFrequent (step ∷ xs) step) (sym was) (first-frequent step)
interval-more step steps (Some best) was = elim (cases_Bool (ahead step steps best)) [
  | inl holds ↦
      subst (λ (b : Bool). IsInterval (step ∷ steps) (cond b (Some step) (Some best))) (sym holds)
      (overtakes best step steps was (ahead-is step steps best holds))
  | inr fails ↦
      let behind = behind-is step steps best fails in
      subst (λ (b : Bool). IsInterval (step ∷ steps) (cond b (Some step) (Some best))) (sym fails)
      (stays-ahead best step steps was behind.0 behind.1).0
]

pub interval-is : (steps : List ℕ) → IsInterval steps (interval_of steps)
interval-is [] = refl
interval-is (step ∷ steps) = interval-more step steps (interval_of steps) (interval-is steps)

none-frequent : (best : ℕ) → IsMostFrequent [] best → ⊥
none-frequent best is = let there = is.there in omega (arith, there)

pub one-interval : (steps : List ℕ) (one other : Option ℕ) → IsInterval steps one → IsInterval steps other → one ≡ other
one-interval steps None None is also = refl
one-interval steps None (Some b) is also = absurd (none-frequent b (subst (λ (xs : List ℕ). IsMostFrequent xs b) is also))
one-interval steps (Some a) None is also = absurd (none-frequent a (subst (λ (xs : List ℕ). IsMostFrequent xs a) also is))
one-interval steps (Some a) (Some b) is also =
    let less = is.most b in
    let more = also.most a in
    let same : times_of_step b steps ≡ times_of_step a steps = omega (arith, less, more) in
    let below = is.lesser b same in
    let above = also.lesser a (sym same) in
    ap Some (omega (arith, below, above))

-- ---- steps whose counts are below 2^64

below_cap : (n : ℕ) → n < 2 ^ 64 → capped n ≡ n
below_cap n h = omega (arith, h)

plain : (steps : List ℕ) (step : ℕ) → length steps < 2 ^ 64 → times_of_step step steps ≡ times_among steps step
plain steps step few =
    let most = count_by-le-length (λ (s : ℕ). s == step) steps in
    below_cap (times_among steps step) (omega (arith, most, few))

pub most-frequent : (steps : List ℕ) (step : ℕ) → length steps < 2 ^ 64 → IsInterval steps (Some step) → IsFirstOfMostFrequent steps step
most-frequent steps step few is =
    let mine = plain steps step few in
    record {
      there = subst (λ (n : ℕ). 0 < n) mine is.there;
      most = λ s.
          let other = plain steps s few in
          subst (λ (n : ℕ). n ≤ times_among steps step) other (subst (λ (n : ℕ). times_of_step s steps ≤ n) mine (is.most s));
      least = λ s same. is.lesser s (plain steps s few ∙ same ∙ sym mine);
    }

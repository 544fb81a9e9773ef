-- The laws of hours with slips, and of runs of epochs.
use Rattle.std.proofs.Common.{◌≡◌, ◌<◌, ◌≤◌, ◌+◌, ◌^◌, ◌==◌, ◌&&◌, cond, ltb, ℕ, Bool, true, false, arith, List, [], ◌∷◌, length, Option, None, Some, inl, inr, refl, ap}
use Rattle.std.proofs.lemmas.Bool.{cases_Bool}
use Rattle.rtk_obs.specs.declared.time.Civil.{Civil}
use Rattle.rtk_obs.specs.Reading.{reading_of}
use Rattle.rtk_rinex.specs.declared.epoch_table.Observed.{Observed}
use Rattle.rtk_tracking.specs.Passes.{Sighting, has_phase, begins_pass}
use Rattle.rtk_quality.specs.Counts.{plus}
use Rattle.rtk_quality.specs.Hours.{hour_at, slips_of}
use Rattle.rtk_quality.specs.Runs.{run_after, run_ended, open_where, ended_where, half_runs, size_of_run}
use Rattle.rtk_quality.specs.Missing.{all_missing, size_of_missing}
use Rattle.rtk_quality.specs.Bursts.{hour_with, other_hour, hour_after, hour_ended, last_hour, all_bursts, size_of_burst}
use Rattle.rtk_quality.specs.Laws.{moments_or_0, epochs_or_0, slipping_epochs, HoursHaveAllMoments, epochs_where, RunsHaveAllEpochs, LargestBurstsAreFirst, LongestRunsAreFirst, LongestMissingAreFirst}
use Rattle.rtk_quality.specs.declared.runs.Run.{Run}
use Rattle.rtk_quality.specs.declared.bursts.HourMoments.{HourMoments}
use Rattle.rtk_quality.proofs.LargestLemmas.{largest-are-first}

-- 1 for a test that holds
abbrev once : Bool → ℕ
once b = cond b 1 0

-- ---- hours

-- an epoch with a slip is one more, in the last hour or in one that begins
hour-counts : (hour : ℕ) (last : Option HourMoments) → moments_or_0 last + 1 < 2 ^ 64
    → moments_or_0 (other_hour hour last) + (hour_with hour last).moments ≡ moments_or_0 last + 1
hour-counts hour None few = refl
hour-counts hour (Some h) few =
    elim (cases_Bool (h.hour == hour)) [
      | inl same ↦
          let left : moments_or_0 (other_hour hour (Some h)) ≡ 0 = ap (λ (b : Bool). moments_or_0 (cond b None (Some h))) same in
          let right : (hour_with hour (Some h)).moments ≡ plus h.moments 1 = ap (λ (b : Bool). (cond b (made (plus h.moments 1)) (made 1)).moments) same in
          omega (arith, left, right, few)
      | inr other ↦
          let left : moments_or_0 (other_hour hour (Some h)) ≡ h.moments = ap (λ (b : Bool). moments_or_0 (cond b None (Some h))) other in
          let right : (hour_with hour (Some h)).moments ≡ 1 = ap (λ (b : Bool). (cond b (made (plus h.moments 1)) (made 1)).moments) other in
          omega (arith, left, right)
    ]
  where
    made : ℕ → HourMoments
    made n = record { hour = hour; moments = n }

step-counts : (last : Option HourMoments) (slips hour : ℕ) → moments_or_0 last + 1 < 2 ^ 64
    → moments_or_0 (hour_ended last slips hour) + moments_or_0 (hour_after last slips hour) ≡ moments_or_0 last + once (ltb 0 slips)
step-counts last slips hour few =
    elim (cases_Bool (ltb 0 slips)) [
      | inl some ↦
          let left : moments_or_0 (hour_ended last slips hour) ≡ moments_or_0 (other_hour hour last) = ap (λ (b : Bool). moments_or_0 (cond b (other_hour hour last) None)) some in
          let right : moments_or_0 (hour_after last slips hour) ≡ (hour_with hour last).moments = ap (λ (b : Bool). moments_or_0 (cond b (Some (hour_with hour last)) last)) some in
          let one : once (ltb 0 slips) ≡ 1 = ap once some in
          let both = hour-counts hour last few in
          omega (arith, left, right, one, both)
      | inr none ↦
          let left : moments_or_0 (hour_ended last slips hour) ≡ 0 = ap (λ (b : Bool). moments_or_0 (cond b (other_hour hour last) None)) none in
          let right : moments_or_0 (hour_after last slips hour) ≡ moments_or_0 last = ap (λ (b : Bool). moments_or_0 (cond b (Some (hour_with hour last)) last)) none in
          let zero : once (ltb 0 slips) ≡ 0 = ap once none in
          omega (arith, left, right, zero)
    ]

few-slips : (interval : Option ℕ) (before : List Sighting) → slipping_epochs interval before ≤ length before
few-slips interval [] = omega arith
few-slips interval (s ∷ before) =
    let rest = few-slips interval before in
    elim (cases_Bool (ltb 0 (slips_of interval before s))) [
      | inl some ↦ let one : once (ltb 0 (slips_of interval before s)) ≡ 1 = ap once some in omega (arith, rest, one)
      | inr none ↦ let zero : once (ltb 0 (slips_of interval before s)) ≡ 0 = ap once none in omega (arith, rest, zero)
    ]

pub hours-have-all : HoursHaveAllMoments
hours-have-all interval [] few = refl
hours-have-all interval (s ∷ before) few =
    let shorter : length before < 2 ^ 64 = omega (arith, few) in
    let rest = hours-have-all interval before shorter in
    let most = few-slips interval before in
    let fits : moments_or_0 (last_hour interval before) + 1 < 2 ^ 64 = omega (arith, rest, most, few) in
    let step = step-counts (last_hour interval before) (slips_of interval before s) (hour_at interval s.time) fits in
    omega (arith, rest, step)

pub largest-bursts-first : LargestBurstsAreFirst
largest-bursts-first most interval es = largest-are-first size_of_burst (all_bursts most interval es)

-- ---- runs

run-counts : (run : Option Run) (begins holds : Bool) (reading : Civil) → epochs_or_0 run + 1 < 2 ^ 64
    → epochs_or_0 (run_ended run begins holds) + epochs_or_0 (run_after run begins holds reading) ≡ epochs_or_0 run + once holds
run-counts run true true reading few = omega arith
run-counts run true false reading few = omega arith
run-counts run false false reading few = omega arith
run-counts None false true reading few = refl
run-counts (Some r) false true reading few = omega (arith, few)

few-epochs : (test : List Observed → Bool) (before : List Sighting) → epochs_where test before ≤ length before
few-epochs test [] = omega arith
few-epochs test (s ∷ before) =
    let rest = few-epochs test before in
    elim (cases_Bool (has_phase s.observed && test s.observed)) [
      | inl some ↦ let one : once (has_phase s.observed && test s.observed) ≡ 1 = ap once some in omega (arith, rest, one)
      | inr none ↦ let zero : once (has_phase s.observed && test s.observed) ≡ 0 = ap once none in omega (arith, rest, zero)
    ]

run-step : (test : List Observed → Bool) (interval : Option ℕ) (before : List Sighting) (s : Sighting) → epochs_or_0 (open_where test interval before) + 1 < 2 ^ 64
    → epochs_or_0 (ended_where test interval before s) + epochs_or_0 (open_where test interval (s ∷ before))
    ≡ epochs_or_0 (open_where test interval before) + once (has_phase s.observed && test s.observed)
run-step test interval before s few =
    let old : Option Run = open_where test interval before in
    let begins : Bool = begins_pass interval before s in
    let holds : Bool = test s.observed in
    elim (cases_Bool (has_phase s.observed)) [
      | inl has ↦
          let left : epochs_or_0 (ended_where test interval before s) ≡ epochs_or_0 (run_ended old begins holds) = ap (λ (b : Bool). epochs_or_0 (cond b (run_ended old begins holds) None)) has in
          let right : epochs_or_0 (open_where test interval (s ∷ before)) ≡ epochs_or_0 (run_after old begins holds (reading_of s.time)) =
          ap (λ (b : Bool). epochs_or_0 (cond b (run_after old begins holds (reading_of s.time)) old)) has in
          let here : once (has_phase s.observed && holds) ≡ once holds = ap (λ (b : Bool). once (b && holds)) has in
          let both = run-counts old begins holds (reading_of s.time) few in
          omega (arith, left, right, here, both)
      | inr none ↦
          let left : epochs_or_0 (ended_where test interval before s) ≡ 0 = ap (λ (b : Bool). epochs_or_0 (cond b (run_ended old begins holds) None)) none in
          let right : epochs_or_0 (open_where test interval (s ∷ before)) ≡ epochs_or_0 old =
          ap (λ (b : Bool). epochs_or_0 (cond b (run_after old begins holds (reading_of s.time)) old)) none in
          let here : once (has_phase s.observed && holds) ≡ 0 = ap (λ (b : Bool). once (b && holds)) none in
          omega (arith, left, right, here)
    ]

pub runs-have-all : RunsHaveAllEpochs
runs-have-all test interval [] few = refl
runs-have-all test interval (s ∷ before) few =
    let shorter : length before < 2 ^ 64 = omega (arith, few) in
    let rest = runs-have-all test interval before shorter in
    let most = few-epochs test before in
    let fits : epochs_or_0 (open_where test interval before) + 1 < 2 ^ 64 = omega (arith, rest, most, few) in
    let step = run-step test interval before s fits in
    omega (arith, rest, step)

pub longest-runs-first : LongestRunsAreFirst
longest-runs-first most interval es = largest-are-first size_of_run (half_runs most interval es)

pub longest-missing-first : LongestMissingAreFirst
longest-missing-first most interval listed es = largest-are-first size_of_missing (all_missing most interval listed es)

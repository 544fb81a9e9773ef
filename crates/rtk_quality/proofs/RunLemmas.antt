-- A run of epochs, and the last hour with slips, an epoch more.
use Rattle.std.proofs.Common.{◌≡◌, cond, ℕ, Bool, true, false, List, ◌∷◌, Option, None, sym, ap, ◌∙◌}
use Rattle.rtk_obs.specs.declared.time.Civil.{Civil}
use Rattle.rtk_obs.specs.Reading.{reading_of}
use Rattle.rtk_rinex.specs.declared.epoch_table.Observed.{Observed}
use Rattle.rtk_tracking.specs.Passes.{Sighting, has_phase, begins_pass}
use Rattle.rtk_quality.specs.Hours.{hour_at}
use Rattle.rtk_quality.specs.SatellitePasses.{slips_at}
use Rattle.rtk_quality.specs.Runs.{run_after, run_ended, open_where, ended_where}
use Rattle.rtk_quality.specs.Bursts.{hour_after, hour_ended, last_hour, hour_before}
use Rattle.rtk_quality.specs.declared.runs.Run.{Run}
use Rattle.rtk_quality.specs.declared.bursts.HourMoments.{HourMoments}

pub run-more : (test : List Observed → Bool) (interval : Option ℕ) (before : List Sighting) (s : Sighting) (run new : Option Run) (begins holds : Bool) (reading : Civil)
    → run ≡ open_where test interval before → begins ≡ begins_pass interval before s → holds ≡ test s.observed → reading ≡ reading_of s.time
    → has_phase s.observed ≡ true → new ≡ run_after run begins holds reading → new ≡ open_where test interval (s ∷ before)
run-more test interval before s run new begins holds reading was is_begin is_one at has took =
    let old : Option Run = open_where test interval before in
    let starts : Bool = begins_pass interval before s in
    took ∙ ap (λ (o : Option Run). run_after o begins holds reading) was ∙ ap (λ (b : Bool). run_after old b holds reading) is_begin
    ∙ ap (λ (b : Bool). run_after old starts b reading) is_one ∙ ap (λ (c : Civil). run_after old starts (test s.observed) c) at
    ∙ sym (ap (λ (b : Bool). cond b (run_after old starts (test s.observed) (reading_of s.time)) old) has)

pub run-same : (test : List Observed → Bool) (interval : Option ℕ) (before : List Sighting) (s : Sighting) → has_phase s.observed ≡ false
    → open_where test interval (s ∷ before) ≡ open_where test interval before
run-same test interval before s none =
    let old : Option Run = open_where test interval before in
    ap (λ (b : Bool). cond b (run_after old (begins_pass interval before s) (test s.observed) (reading_of s.time)) old) none

pub run-ends : (test : List Observed → Bool) (interval : Option ℕ) (before : List Sighting) (s : Sighting) (run ended : Option Run) (begins holds : Bool)
    → run ≡ open_where test interval before → begins ≡ begins_pass interval before s → holds ≡ test s.observed
    → has_phase s.observed ≡ true → ended ≡ run_ended run begins holds → ended ≡ ended_where test interval before s
run-ends test interval before s run ended begins holds was is_begin is_one has took =
    let old : Option Run = open_where test interval before in
    let starts : Bool = begins_pass interval before s in
    took ∙ ap (λ (o : Option Run). run_ended o begins holds) was ∙ ap (λ (b : Bool). run_ended old b holds) is_begin
    ∙ ap (λ (b : Bool). run_ended old starts b) is_one
    ∙ sym (ap (λ (b : Bool). cond b (run_ended old starts (test s.observed)) None) has)

pub no-run-ends : (test : List Observed → Bool) (interval : Option ℕ) (before : List Sighting) (s : Sighting) → has_phase s.observed ≡ false → None ≡ ended_where test interval before s
no-run-ends test interval before s none =
    sym (ap (λ (b : Bool). cond b (run_ended (open_where test interval before) (begins_pass interval before s) (test s.observed)) None) none)

pub hour-more : (interval : Option ℕ) (before : List Sighting) (s : Sighting) (last new : Option HourMoments) (slips hour : ℕ)
    → last ≡ last_hour interval before → slips ≡ slips_at interval before s → hour ≡ hour_at interval s.time
    → has_phase s.observed ≡ true → new ≡ hour_after last slips hour → new ≡ last_hour interval (s ∷ before)
hour-more interval before s last new slips hour was is at has took =
    let old : Option HourMoments = last_hour interval before in
    took ∙ ap (λ (o : Option HourMoments). hour_after o slips hour) was ∙ ap (λ (n : ℕ). hour_after old n hour) is
    ∙ ap (λ (n : ℕ). hour_after old (slips_at interval before s) n) at
    ∙ sym (ap (λ (b : Bool). hour_after old (cond b (slips_at interval before s) 0) (hour_at interval s.time)) has)

pub hour-same : (interval : Option ℕ) (before : List Sighting) (s : Sighting) → has_phase s.observed ≡ false → last_hour interval (s ∷ before) ≡ last_hour interval before
hour-same interval before s none =
    ap (λ (b : Bool). hour_after (last_hour interval before) (cond b (slips_at interval before s) 0) (hour_at interval s.time)) none

pub hour-ends : (interval : Option ℕ) (before : List Sighting) (s : Sighting) (last ended : Option HourMoments) (slips hour : ℕ)
    → last ≡ last_hour interval before → slips ≡ slips_at interval before s → hour ≡ hour_at interval s.time
    → has_phase s.observed ≡ true → ended ≡ hour_ended last slips hour → ended ≡ hour_before interval before s
hour-ends interval before s last ended slips hour was is at has took =
    let old : Option HourMoments = last_hour interval before in
    took ∙ ap (λ (o : Option HourMoments). hour_ended o slips hour) was ∙ ap (λ (n : ℕ). hour_ended old n hour) is
    ∙ ap (λ (n : ℕ). hour_ended old (slips_at interval before s) n) at
    ∙ sym (ap (λ (b : Bool). hour_ended old (cond b (slips_at interval before s) 0) (hour_at interval s.time)) has)

pub no-hour-ends : (interval : Option ℕ) (before : List Sighting) (s : Sighting) → has_phase s.observed ≡ false → None ≡ hour_before interval before s
no-hour-ends interval before s none =
    sym (ap (λ (b : Bool). hour_ended (last_hour interval before) (cond b (slips_at interval before s) 0) (hour_at interval s.time)) none)

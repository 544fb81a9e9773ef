-- The laws of outages, and of epochs at which several satellites slip.
use Rattle.std.proofs.Common.{◌≡◌, ◌+◌, ◌&&◌, not, cond, ltb, ℕ, Bool, true, false, arith, List, [], ◌∷◌, Option, None, Some, inl, inr, refl, sym, ap, ◌∙◌}
use Rattle.std.specs.Prelude.{sum_by, unwrap_or}
use Rattle.std.proofs.lemmas.Bool.{cases_Bool}
use Rattle.std.proofs.lemmas.List.Sums.{sum_by-append, sum_by-cons}
use Rattle.rtk_obs.specs.Reading.{reading_of}
use Rattle.rtk_rinex.specs.Record.{EpochTableView}
use Rattle.rtk_rinex.specs.declared.epoch_table.SatelliteRow.{SatelliteRow}
use Rattle.rtk_tracking.specs.Passes.{Sighting, sightings_of, has_phase, last_phase, is_away, is_out, is_gap_of_file, absence_before, outage_before}
use Rattle.rtk_quality.specs.Largest.{list_of}
use Rattle.rtk_quality.specs.Laws.{outage_time, outage_time_at, OutagesHaveAllTime, LongestOutagesAreFirst, common_epochs, MomentsAreAll, LargestMomentsAreFirst}
use Rattle.rtk_quality.specs.Moments.{together_in, moment_if_several, common_moments, size_of_moment}
use Rattle.rtk_quality.specs.Outages.{absence_between, absence_at, outage_of, outages_in, all_outages, size_of_outage}
use Rattle.rtk_quality.specs.declared.moments.Moment.{Moment}
use Rattle.rtk_quality.specs.declared.moments.Together.{Together}
use Rattle.rtk_quality.specs.declared.outages.Outage.{Outage}
use Rattle.rtk_quality.proofs.LargestLemmas.{sum-kept, largest-are-first}

-- ---- outages

-- without a phase before it no outage ends
none-before : (interval : Option ℕ) (before : List Sighting) (s : Sighting) → last_phase before ≡ None → outage_before interval before s ≡ None
none-before interval before s none =
    let rest : Bool = is_out interval (last_phase before) s.time && not (is_gap_of_file before) in
    let away : is_away interval (last_phase before) s.time ≡ true = ap (λ (o : Option ℕ). is_away interval o s.time) none in
    ap (λ (b : Bool). cond (has_phase s.observed && (not b && rest)) (Some (absence_before interval (last_phase before) s.time)) None) away
    ∙ never (has_phase s.observed)
  where
    never : (b : Bool) → cond (b && false) (Some (absence_before interval (last_phase before) s.time)) None ≡ None
    never true = refl
    never false = refl

time-with : (satellite : ℕ) (last : Option ℕ) (t : ℕ) (ms : Option ℕ) → (last ≡ None → ms ≡ None)
    → sum_by size_of_outage (list_of (outage_of satellite (absence_between last t ms))) ≡ unwrap_or ms 0
time-with satellite None t ms none = sym (ap (λ (o : Option ℕ). unwrap_or o 0) (none refl))
time-with satellite (Some last) t None none = refl
time-with satellite (Some last) t (Some ms) none =
    let one = sum_by-cons size_of_outage (record { satellite = satellite; absence = record { from = reading_of last; until = reading_of t; ms = ms } }) [] in
    omega (arith, one)

time-in : (interval : Option ℕ) (before : List EpochTableView) (t : ℕ) (rows : List SatelliteRow)
    → sum_by size_of_outage (outages_in interval before t rows) ≡ outage_time_at interval before (record { time = t; rows = rows })
time-in interval before t [] = refl
time-in interval before t (r ∷ rows) =
    let earlier : List Sighting = sightings_of r.satellite before in
    let s : Sighting = record { time = t; observed = r.observed.items } in
    let first : List Outage = list_of (outage_of r.satellite (absence_at interval earlier s)) in
    let parts = sum_by-append size_of_outage first (outages_in interval before t rows) in
    let here = time-with r.satellite (last_phase earlier) t (outage_before interval earlier s) (none-before interval earlier s) in
    let rest = time-in interval before t rows in
    let all = sum_by-cons (λ (x : SatelliteRow). unwrap_or (outage_before interval (sightings_of x.satellite before) (record { time = t; observed = x.observed.items })) 0) r rows in
    omega (arith, parts, here, rest, all)

outages-have : (interval : Option ℕ) (es : List EpochTableView) → sum_by size_of_outage (all_outages interval es) ≡ outage_time interval es
outages-have interval [] = refl
outages-have interval (e ∷ es) =
    sum_by-append size_of_outage (all_outages interval es) (outages_in interval es e.time e.rows)
    ∙ ap (λ (n : ℕ). n + sum_by size_of_outage (outages_in interval es e.time e.rows)) (outages-have interval es)
    ∙ ap (λ (n : ℕ). outage_time interval es + n) (time-in interval es e.time e.rows)

pub outages-have-all : OutagesHaveAllTime
outages-have-all interval es = sum-kept size_of_outage size_of_outage (all_outages interval es) ∙ outages-have interval es

pub longest-outages-first : LongestOutagesAreFirst
longest-outages-first interval es = largest-are-first size_of_outage (all_outages interval es)

-- ---- moments

counted : (t : ℕ) (together : Together) → sum_by (λ (m : Moment). 1) (list_of (moment_if_several t together)) ≡ cond (ltb together.slipping 2) 0 1
counted t together =
    let moment : Moment = record { time = reading_of t; together = together } in
    elim (cases_Bool (ltb together.slipping 2)) [
      | inl few ↦
          ap (λ (b : Bool). sum_by (λ (m : Moment). 1) (list_of (cond b None (Some moment)))) few ∙ sym (ap (λ (b : Bool). cond b 0 1) few)
      | inr several ↦
          ap (λ (b : Bool). sum_by (λ (m : Moment). 1) (list_of (cond b None (Some moment)))) several ∙ sym (ap (λ (b : Bool). cond b 0 1) several)
    ]

moments-are : (interval : Option ℕ) (es : List EpochTableView) → sum_by (λ (m : Moment). 1) (common_moments interval es) ≡ common_epochs interval es
moments-are interval [] = refl
moments-are interval (e ∷ es) =
    let together : Together = together_in interval es e.time e.rows in
    sum_by-append (λ (m : Moment). 1) (common_moments interval es) (list_of (moment_if_several e.time together))
    ∙ ap (λ (n : ℕ). n + sum_by (λ (m : Moment). 1) (list_of (moment_if_several e.time together))) (moments-are interval es)
    ∙ ap (λ (n : ℕ). common_epochs interval es + n) (counted e.time together)

pub moments-are-all : MomentsAreAll
moments-are-all interval es = sum-kept size_of_moment (λ (m : Moment). 1) (common_moments interval es) ∙ moments-are interval es

pub largest-moments-first : LargestMomentsAreFirst
largest-moments-first interval es = largest-are-first size_of_moment (common_moments interval es)

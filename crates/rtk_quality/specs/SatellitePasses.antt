-- The passes of a satellite with their spans (this project's rule). What came is listed newest first.
use Rattle.std.specs.Prelude.{ℕ, nat_lt, not, List, [], ◌∷◌, count_by, Option, is_some, unwrap_or, if◌then◌else◌}
use Rattle.std.specs.List.{range_with_len}
use Rattle.rtk_obs.specs.Reading.{reading_of}
use Rattle.rtk_rinex.specs.declared.epoch_table.Observed.{Observed}
use Rattle.rtk_tracking.specs.Passes.{Sighting, has_phase, begins_pass, outage_before, is_slip}
use Rattle.rtk_quality.specs.Counts.{plus}
use Rattle.rtk_quality.specs.declared.pass_sums.PassSums.{PassSums}
use Rattle.rtk_quality.specs.declared.satellite_counts.PassCounts.{PassCounts}

-- the phases of all codes in an epoch
abbrev pub phases_in : List Observed → ℕ
phases_in os = count_by (λ o. is_some o.phase_millicycles) os

-- the slips of all codes in an epoch
abbrev pub slips_at : Option ℕ → List Sighting → Sighting → ℕ
slips_at interval before s = count_by (λ place. is_slip interval place before s) (range_with_len 0 16)

-- formula
-- what an epoch with so many phases and slips adds to a pass: these; a moment if a code slips; and the outage
-- that ends with it, with its length in ms
abbrev pub sums_of : ℕ → ℕ → Option ℕ → PassSums
sums_of phases slips outage =
    record {
      phases = phases;
      slips = slips;
      moments = if nat_lt 0 slips then 1 else 0;
      outages = if is_some outage then 1 else 0;
      outage_ms = unwrap_or outage 0;
    }

abbrev pub sums_at : Option ℕ → List Sighting → Sighting → PassSums
sums_at interval before s = sums_of (phases_in s.observed) (slips_at interval before s) (outage_before interval before s)

abbrev pub no_sums : PassSums
no_sums = record { phases = 0; slips = 0; moments = 0; outages = 0; outage_ms = 0 }

-- two sums together
abbrev pub sums_plus : PassSums → PassSums → PassSums
sums_plus a b =
    record {
      phases = plus a.phases b.phases;
      slips = plus a.slips b.slips;
      moments = plus a.moments b.moments;
      outages = plus a.outages b.outages;
      outage_ms = plus a.outage_ms b.outage_ms;
    }

-- formula
-- the sums of all epochs of a satellite
abbrev pub sums_in : Option ℕ → List Sighting → PassSums
sums_in interval [] = no_sums
sums_in interval (s ∷ before) = if has_phase s.observed then sums_plus (sums_in interval before) (sums_at interval before s) else sums_in interval before

-- one more epoch with a phase in the newest pass
abbrev pub longer : Sighting → PassSums → List PassCounts → List PassCounts
longer s sums [] = []
longer s sums (p ∷ ps) = record { from = p.from; until = reading_of s.time; sums = sums_plus p.sums sums } ∷ ps

-- formula
-- the passes of a satellite, the newest first: the moments of the first and the last phase, and the sums of
-- its epochs
abbrev pub passes_of : Option ℕ → List Sighting → List PassCounts
passes_of interval [] = []
passes_of interval (s ∷ before) =
    if not (has_phase s.observed) then passes_of interval before
    else (if begins_pass interval before s
    then record { from = reading_of s.time; until = reading_of s.time; sums = sums_at interval before s } ∷ passes_of interval before
    else longer s (sums_at interval before s) (passes_of interval before))

-- how many epochs came since the last phase
abbrev pub epochs_since_phase : List Sighting → ℕ
epochs_since_phase [] = 0
epochs_since_phase (s ∷ before) = if has_phase s.observed then 0 else plus (epochs_since_phase before) 1

-- formula
-- how many epochs of the file lie within the passes of a satellite: from the first to the last phase of
-- each
abbrev pub epochs_in_passes : Option ℕ → List Sighting → ℕ
epochs_in_passes interval [] = 0
epochs_in_passes interval (s ∷ before) =
    if not (has_phase s.observed) then epochs_in_passes interval before
    else (if begins_pass interval before s then plus (epochs_in_passes interval before) 1
    else plus (epochs_in_passes interval before) (plus (epochs_since_phase before) 1))

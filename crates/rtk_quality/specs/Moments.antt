-- The epochs at which several satellites slip (this project's rule). The epochs are listed newest first, and the
-- moments oldest first.
use Rattle.std.specs.Prelude.{ℕ, nat_lt, Bool, List, [], ◌∷◌, ◌++◌, count_by, Option, None, Some, if◌then◌else◌}
use Rattle.rtk_obs.specs.Reading.{reading_of}
use Rattle.rtk_rinex.specs.Record.{EpochTableView}
use Rattle.rtk_rinex.specs.declared.epoch_table.SatelliteRow.{SatelliteRow}
use Rattle.rtk_tracking.specs.Epochs.{capped}
use Rattle.rtk_tracking.specs.Passes.{sightings_of, has_phase}
use Rattle.rtk_quality.specs.Counts.{plus}
use Rattle.rtk_quality.specs.Hours.{slips_of}
use Rattle.rtk_quality.specs.Largest.{list_of, ten_largest, count_of}
use Rattle.rtk_quality.specs.declared.moments.Together.{Together}
use Rattle.rtk_quality.specs.declared.moments.Moment.{Moment}

-- the satellite of a row slips: a code of it does
abbrev pub is_slipping : Option ℕ → List EpochTableView → ℕ → SatelliteRow → Bool
is_slipping interval before t r = nat_lt 0 (slips_of interval (sightings_of r.satellite before) (record { time = t; observed = r.observed.items }))

-- the satellite of a row has a phase
abbrev pub is_tracked : SatelliteRow → Bool
is_tracked r = has_phase r.observed.items

-- formula
-- how many satellites of these rows of an epoch slip, and how many have a phase
abbrev pub together_in : Option ℕ → List EpochTableView → ℕ → List SatelliteRow → Together
together_in interval before t rows =
    record {
      slipping = capped (count_by (is_slipping interval before t) rows);
      tracked = capped (count_by is_tracked rows);
    }

abbrev pub none_together : Together
none_together = record { slipping = 0; tracked = 0 }

-- with a satellite more
abbrev pub together_plus : Together → ℕ → Bool → Together
together_plus n slips tracked =
    record { slipping = plus n.slipping (if nat_lt 0 slips then 1 else 0); tracked = plus n.tracked (if tracked then 1 else 0) }

-- formula
-- the epoch at a moment, if at least two of its satellites slip
abbrev pub moment_if_several : ℕ → Together → Option Moment
moment_if_several t together = if nat_lt together.slipping 2 then None else Some (record { time = reading_of t; together = together })

-- formula
-- all epochs at which several satellites slip
abbrev pub common_moments : Option ℕ → List EpochTableView → List Moment
common_moments interval [] = []
common_moments interval (e ∷ before) = common_moments interval before ++ list_of (moment_if_several e.time (together_in interval before e.time e.rows))

-- the size of a moment is the number of its satellites that slip
abbrev pub size_of_moment : Moment → ℕ
size_of_moment m = m.together.slipping

-- formula
-- how many there are
abbrev pub moments_in : Option ℕ → List EpochTableView → ℕ
moments_in interval es = count_of (common_moments interval es)

-- formula
-- the ten at which most satellites slip, the one with the most first, and of two alike the earlier one
abbrev pub largest_moments : Option ℕ → List EpochTableView → List Moment
largest_moments interval es = ten_largest size_of_moment (common_moments interval es)

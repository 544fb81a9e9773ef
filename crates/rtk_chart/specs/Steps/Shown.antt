-- What one epoch calls for, and how it is added to the marks of a bin.
use Rattle.std.specs.Prelude.{ℕ, ◌+◌, Bool, true, false, not, ◌&&◌, ◌||◌, List, map, count_by, get_or, is_some, if◌then◌else◌, Option}
use Rattle.std.specs.List.{range_with_len}
use Rattle.rtk_rinex.specs.Record.{EpochTableView}
use Rattle.rtk_rinex.specs.declared.epoch_table.Observed.{Observed}
use Rattle.rtk_tracking.specs.Extremes.{lesser}
use Rattle.rtk_tracking.specs.Passes.{Sighting, sightings_of, has_phase, is_known, is_kept}
use Rattle.rtk_tracking.specs.Epochs.{shown_at}
use Rattle.rtk_chart.specs.Epochs.{sighting_of, is_seen, level_of}
use Rattle.rtk_chart.specs.Grid.{no_marks, no_tracking}
use Rattle.rtk_chart.specs.declared.code_marks.CodeMarks.{CodeMarks}
use Rattle.rtk_chart.specs.declared.tracking.Tracking.{Tracking}
use Rattle.rtk_chart.specs.declared.time_bin.TimeBin.{TimeBin}

-- what an epoch calls for of a code: the satellite has a phase or none, and the code had one earlier in
-- the pass or had none, and since the last outage in it
abbrev pub called_for : Observed → Bool → Bool → Bool → CodeMarks
called_for o has_phase known kept =
    record {
      phase = is_some o.phase_millicycles;
      missing = has_phase && not (is_some o.phase_millicycles);
      slip = o.slip && kept;
      returned = o.slip && (known && not kept);
      rise = o.slip && not known;
      half = o.half;
      least = level_of o.strength_millidbhz;
    }

-- the same of the code at a place, of codes that had a phase by their marks
abbrev pub called_at : List Observed → List Bool → List Bool → ℕ → CodeMarks
called_at os had kept code = called_for (shown_at code os) (has_phase os) (get_or had code false) (get_or kept code false)

-- the marks of two
abbrev pub both_marks : CodeMarks → CodeMarks → CodeMarks
both_marks a b =
    record {
      phase = a.phase || b.phase;
      missing = a.missing || b.missing;
      slip = a.slip || b.slip;
      returned = a.returned || b.returned;
      rise = a.rise || b.rise;
      half = a.half || b.half;
      least = lesser a.least b.least;
    }

abbrev pub both_codes : List CodeMarks → List CodeMarks → ℕ → CodeMarks
both_codes a b code = both_marks (get_or a code no_marks) (get_or b code no_marks)

-- a satellite without a row calls for nothing
unfoldable pub both_trackings : Tracking → Tracking → Tracking
both_trackings a b =
    if a.seen then record { codes = map (both_codes a.codes b.codes) (range_with_len 0 16); seen = true } else b

-- how many codes of a satellite that has a row have a mark
abbrev pub codes_with : (CodeMarks → Bool) → Tracking → ℕ
codes_with test t = if t.seen then count_by test t.codes else 0

abbrev pub both_satellites : List Tracking → List Tracking → ℕ → Tracking
both_satellites a b place = both_trackings (get_or a place no_tracking) (get_or b place no_tracking)

unfoldable pub both_bins : TimeBin → TimeBin → TimeBin
both_bins a b = record { satellites = map (both_satellites a.satellites b.satellites) (range_with_len 0 32) }

-- what an epoch calls for of a satellite, after what came before it
unfoldable pub tracking_of : Option ℕ → List Sighting → Sighting → Tracking
tracking_of interval before s =
    record {
      codes = map (λ code. called_for (shown_at code s.observed) (has_phase s.observed) (is_known interval code before s) (is_kept interval code before s))
          (range_with_len 0 16);
      seen = is_seen s.observed;
    }

-- what an epoch calls for, after these earlier ones
unfoldable pub bin_of : Option ℕ → List EpochTableView → EpochTableView → TimeBin
bin_of interval before e =
    record { satellites = map (λ place. tracking_of interval (sightings_of (place + 1) before) (sighting_of (place + 1) e)) (range_with_len 0 32) }

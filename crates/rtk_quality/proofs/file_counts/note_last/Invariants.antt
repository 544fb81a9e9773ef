use Rattle.std.proofs.Common.{◌≡◌, ◌++◌, ℕ, List, Option}
use Rattle.std.specs.Prelude.{flat_map}
use Rattle.std.specs.List.{range_with_len}
use Rattle.rtk_rinex.specs.Record.{EpochTableView}
use Rattle.rtk_tracking.specs.Passes.{sightings_of}
use Rattle.rtk_quality.specs.Bursts.{last_hour, burst_of, size_of_burst}
use Rattle.rtk_quality.specs.Largest.{list_of, AreLargest}
use Rattle.rtk_quality.specs.Runs.{open_run, half_run, size_of_run}
use Rattle.rtk_quality.specs.Standing.{StandForSatellites}
use Rattle.rtk_quality.specs.declared.runs.HalfRun.{HalfRun}
use Rattle.rtk_quality.specs.declared.bursts.Burst.{Burst}
use Rattle.rtk_quality.proofs.file_counts.note_last.Given as goal

abbrev pub invariant-loop-place : goal.invariant-loop-place
invariant-loop-place l = record {
  outages : l.events.outages ≡ l.fn.events.outages;
  runs : (most : ℕ) (interval : Option ℕ) (es : List EpochTableView) (all : List HalfRun) → StandForSatellites l.satellites most interval es → AreLargest size_of_run l.fn.events.runs all
      → AreLargest size_of_run l.events.runs (all ++ flat_map (λ satellite. list_of (half_run satellite (open_run interval (sightings_of satellite es)))) (range_with_len 1 l.place));
  bursts : (most : ℕ) (interval : Option ℕ) (es : List EpochTableView) (all : List Burst) → StandForSatellites l.satellites most interval es → AreLargest size_of_burst l.fn.events.bursts all
      → AreLargest size_of_burst l.events.bursts (all ++ flat_map (λ satellite. list_of (burst_of satellite (last_hour interval (sightings_of satellite es)))) (range_with_len 1 l.place));
}

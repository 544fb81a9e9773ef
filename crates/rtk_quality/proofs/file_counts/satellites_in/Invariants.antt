use Rattle.std.proofs.Common.{◌≡◌, ◌≤◌, ℕ, List, count_by, Option}
use Rattle.std.specs.List.{range_with_len}
use Rattle.rtk_rinex.specs.Record.{EpochTableView}
use Rattle.rtk_tracking.specs.Passes.{sightings_of}
use Rattle.rtk_quality.specs.Quality.{is_in_file}
use Rattle.rtk_quality.specs.Standing.{StandForSatellites}
use Rattle.rtk_quality.proofs.file_counts.satellites_in.Given as goal

abbrev pub invariant-loop-satellite : goal.invariant-loop-satellite
invariant-loop-satellite l = record {
  few : l.seen ≤ l.satellite-index;
  many : (most : ℕ) (interval : Option ℕ) (es : List EpochTableView) → StandForSatellites l.satellites most interval es
      → l.seen ≡ count_by (λ satellite. is_in_file interval (sightings_of satellite es)) (range_with_len 1 l.satellite-index);
}

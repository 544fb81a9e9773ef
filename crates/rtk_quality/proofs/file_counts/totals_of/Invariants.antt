use Rattle.std.proofs.Common.{◌≡◌, ℕ, List, Option}
use Rattle.std.specs.List.{fold, range_with_len}
use Rattle.rtk_rinex.specs.Record.{EpochTableView}
use Rattle.rtk_tracking.specs.Passes.{sightings_of}
use Rattle.rtk_quality.specs.Quality.{numbers_of, with_satellite, no_numbers}
use Rattle.rtk_quality.specs.Standing.{StandForSatellites}
use Rattle.rtk_quality.proofs.file_counts.totals_of.Given as goal

abbrev pub invariant-loop-satellite : goal.invariant-loop-satellite
invariant-loop-satellite l =
    (most : ℕ) (interval : Option ℕ) (es : List EpochTableView) → StandForSatellites l.satellites most interval es
    → l.totals ≡ fold (λ total satellite. with_satellite total (numbers_of interval (sightings_of satellite es) l.place)) no_numbers (range_with_len 1 l.satellite-index)

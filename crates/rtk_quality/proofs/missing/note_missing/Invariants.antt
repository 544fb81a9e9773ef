use Rattle.std.proofs.Common.{◌++◌, ℕ, List, length}
use Rattle.std.specs.Prelude.{flat_map}
use Rattle.std.specs.List.{range_with_len}
use Rattle.rtk_rinex.specs.Record.{EpochTableView}
use Rattle.rtk_tracking.specs.Passes.{sightings_of}
use Rattle.rtk_quality.specs.Largest.{AreLargest}
use Rattle.rtk_quality.specs.Missing.{missing_from, size_of_missing}
use Rattle.rtk_quality.specs.Standing.{StandForSatellites, StandForMissing}
use Rattle.rtk_quality.specs.declared.missing.MissingCode.{MissingCode}
use Rattle.rtk_quality.proofs.missing.note_missing.Given as goal

abbrev pub invariant-loop-place : goal.invariant-loop-place
invariant-loop-place l =
    (most : ℕ) (es : List EpochTableView) (all : List MissingCode) → StandForSatellites l.satellites most l.interval es → StandForMissing l.runs (length l.codes) most l.interval es
    → AreLargest size_of_missing l.fn.missing all
    → AreLargest size_of_missing l.missing (all ++ flat_map (λ satellite. missing_from l.interval (sightings_of satellite es) satellite 0 l.codes) (range_with_len 1 l.place))

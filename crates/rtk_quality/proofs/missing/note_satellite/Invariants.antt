use Rattle.std.proofs.Common.{◌++◌, List, length, take}
use Rattle.rtk_tracking.specs.Passes.{Sighting}
use Rattle.rtk_quality.specs.Largest.{AreLargest}
use Rattle.rtk_quality.specs.Missing.{missing_from, size_of_missing}
use Rattle.rtk_quality.specs.Standing.{StandsForSatellite, StandForCodes}
use Rattle.rtk_quality.specs.declared.missing.MissingCode.{MissingCode}
use Rattle.rtk_quality.proofs.missing.note_satellite.Given as goal

abbrev pub invariant-loop-place : goal.invariant-loop-place
invariant-loop-place l =
    (before : List Sighting) (all : List MissingCode) → StandsForSatellite l.counts l.interval before → StandForCodes l.runs (length l.codes) l.interval before
    → AreLargest size_of_missing l.fn.missing all → AreLargest size_of_missing l.missing (all ++ missing_from l.interval before l.satellite 0 (take l.place l.codes))

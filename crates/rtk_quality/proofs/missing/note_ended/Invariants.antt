use Rattle.std.proofs.Common.{◌++◌, List, map, take}
use Rattle.rtk_quality.specs.Largest.{AreLargest}
use Rattle.rtk_quality.specs.Missing.{missing_code, size_of_missing}
use Rattle.rtk_quality.specs.declared.missing.MissingCode.{MissingCode}
use Rattle.rtk_quality.proofs.missing.note_ended.Given as goal

abbrev pub invariant-loop-run : goal.invariant-loop-run
invariant-loop-run l =
    (all : List MissingCode) → AreLargest size_of_missing l.fn.missing all
    → AreLargest size_of_missing l.missing (all ++ map (missing_code l.satellite l.code) (take l.run-index l.ended))

use Rattle.std.proofs.Common.{◌≡◌, ◌++◌, ℕ, List, Option, drop}
use Rattle.rtk_rinex.specs.Record.{EpochTableView}
use Rattle.rtk_quality.specs.Never.{rows_from}
use Rattle.rtk_quality.specs.Standing.{StandForSatellites}
use Rattle.rtk_quality.proofs.never.put_never_rows.Given as goal

abbrev pub invariant-loop-at : goal.invariant-loop-at
invariant-loop-at l =
    (most : ℕ) (interval : Option ℕ) (es : List EpochTableView) → StandForSatellites l.satellites most interval es
    → l.fn.text.items ++ rows_from most interval es 0 l.codes ≡ l.text.items ++ rows_from most interval es l.at (drop l.at l.codes)

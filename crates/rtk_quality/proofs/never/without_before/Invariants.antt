use Rattle.std.proofs.Common.{◌≡◌, ◌≤◌, ℕ, List, count_by, Option}
use Rattle.std.specs.List.{range_with_len}
use Rattle.rtk_rinex.specs.Record.{EpochTableView}
use Rattle.rtk_quality.specs.Never.{is_without_at}
use Rattle.rtk_quality.specs.Standing.{StandForSatellites}
use Rattle.rtk_quality.proofs.never.without_before.Given as goal

abbrev pub invariant-loop-before : goal.invariant-loop-before
invariant-loop-before l = record {
  few : l.count ≤ l.before;
  many : (most : ℕ) (interval : Option ℕ) (es : List EpochTableView) → StandForSatellites l.satellites most interval es
      → l.count ≡ count_by (is_without_at interval es l.at) (range_with_len 0 l.before);
}

use Rattle.std.proofs.Common.{◌≡◌, ◌+◌, ◌≤◌, length, None}
use Rattle.rtk_rinex.specs.CheckText.{last_satellite}
use Rattle.rtk_rinex.specs.Steps.MixedReadRecords.{ReadsMixedRows}
use Rattle.rtk_rinex.proofs.mixed_records_check.check_satellites.Given as goal

abbrev pub invariant-loop-k : goal.invariant-loop-k
invariant-loop-k l =
    (r : ReadsMixedRows l.form l.k l.text l.rest)
    × (l.last ≡ last_satellite None r.rows) × (length l.rest + l.k ≤ length l.text)

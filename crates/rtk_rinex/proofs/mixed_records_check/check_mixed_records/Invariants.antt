use Rattle.std.proofs.Common.{◌≡◌, ◌+◌, ◌≤◌, length, None}
use Rattle.rtk_rinex.specs.CheckText.{last_time, record_lines, satellite_lines}
use Rattle.rtk_rinex.proofs.MixedCheckLemmas.{ReadsMixedFront}
use Rattle.rtk_rinex.proofs.mixed_records_check.check_mixed_records.Given as goal

abbrev pub invariant-loop-rest : goal.invariant-loop-rest
invariant-loop-rest l =
    (r : ReadsMixedFront l.form l.first l.text l.rest)
    × (l.last ≡ last_time None r.epochs) × (l.line ≡ l.lines + record_lines r.epochs)
    × (length r.epochs ≡ l.counts.epochs) × (satellite_lines r.epochs ≡ l.counts.satellites)
    × (l.line + length l.rest ≤ l.lines + length l.text)
    × (l.counts.epochs + length l.rest ≤ length l.text) × (l.counts.satellites + length l.rest ≤ length l.text)

abbrev pub decreases-loop-rest : goal.decreases-loop-rest
decreases-loop-rest l = length l.rest

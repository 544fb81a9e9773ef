use Rattle.std.proofs.Common.{◌≡◌, ◌≤◌, ◌+◌, ◌++◌, length}
use Rattle.rtk_rinex.proofs.KeptLemmas.{AreLinesOrAll}
use Rattle.rtk_rinex.proofs.owned_table.kept_text.Given as goal

abbrev pub invariant-loop-rest : goal.invariant-loop-rest
invariant-loop-rest l = record {
  parts : l.bytes ≡ l.text.items ++ l.rest;
  lines : AreLinesOrAll l.number l.text.items l.rest;
  few : l.number + length l.rest ≤ length l.bytes;
}

abbrev pub decreases-loop-rest : goal.decreases-loop-rest
decreases-loop-rest l = length l.rest

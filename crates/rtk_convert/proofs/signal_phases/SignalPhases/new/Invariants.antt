use Rattle.std.proofs.Common.{◌-◌, ◌≤◌, length}
use Rattle.std.specs.Prelude.{All}
use Rattle.rtk_convert.specs.Steps.PhaseBlocks.{HasNoPhases}
use Rattle.rtk_convert.proofs.signal_phases.SignalPhases.new.Given as goal

abbrev pub invariant-adding : goal.invariant-adding
invariant-adding l = record {
  few : length l.blocks.items ≤ 7;
  empty : All HasNoPhases l.blocks.items;
}

abbrev pub decreases-adding : goal.decreases-adding
decreases-adding l = 7 - length l.blocks.items

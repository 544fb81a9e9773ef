use Rattle.std.proofs.Common.{◌≡◌, map, take}
use Rattle.rtk_obs.specs.SignalCells.{signal_of}
use Rattle.rtk_obs.proofs.signal_cells.put_signals.Given as goal

abbrev pub invariant-loop-entry : goal.invariant-loop-entry
invariant-loop-entry l = l.found.items ≡ map signal_of (take l.entry-index l.cells)

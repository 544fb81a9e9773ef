use Rattle.std.proofs.Common.{◌≡◌, map, take}
use Rattle.rtk_obs.specs.Signals.{code_in}
use Rattle.rtk_obs.proofs.signal_rows.coded_signals.Given as goal

abbrev pub invariant-loop-identifier : goal.invariant-loop-identifier
invariant-loop-identifier l = l.found.items ≡ map (code_in l.system) (take l.identifier-index l.identifiers)

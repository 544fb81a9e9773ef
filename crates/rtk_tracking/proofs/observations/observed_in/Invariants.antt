use Rattle.std.proofs.Common.{◌≡◌, drop}
use Rattle.rtk_tracking.specs.Epochs.{observed_in}
use Rattle.rtk_tracking.proofs.observations.observed_in.Given as goal

abbrev pub invariant-loop-row : goal.invariant-loop-row
invariant-loop-row l = observed_in l.satellite l.rows ≡ observed_in l.satellite (drop l.row-index l.rows)

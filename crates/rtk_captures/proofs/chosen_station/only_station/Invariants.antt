use Rattle.rtk_captures.specs.Steps.OnlyBelow.{IsOnlyBelow}
use Rattle.rtk_captures.proofs.chosen_station.only_station.Given as goal

abbrev pub invariant-loop-station : goal.invariant-loop-station
invariant-loop-station l = IsOnlyBelow l.surveys l.station l.found

use Rattle.std.proofs.Common.{◌≤◌, ◌-◌, length}
use Rattle.rtk_collect.specs.Steps.OrderedPlaces.{leading}
use Rattle.rtk_collect.proofs.window.place_of_epoch.Given as goal

-- the place is between the two
abbrev pub invariant-loop-low : goal.invariant-loop-low
invariant-loop-low g l = record {
  low : l.low ≤ leading l.epoch l.sets.items;
  high : leading l.epoch l.sets.items ≤ l.high;
  within : l.high ≤ length l.sets.items;
}

abbrev pub decreases-loop-low : goal.decreases-loop-low
decreases-loop-low g l = l.high - l.low

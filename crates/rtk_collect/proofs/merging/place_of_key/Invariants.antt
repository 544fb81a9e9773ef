use Rattle.std.proofs.Common.{◌≤◌, ◌-◌, length}
use Rattle.rtk_collect.specs.Steps.OrderedPlaces.{lower}
use Rattle.rtk_collect.proofs.merging.place_of_key.Given as goal

abbrev pub invariant-loop-at : goal.invariant-loop-at
invariant-loop-at g l = l.at ≤ length l.kept

abbrev pub decreases-loop-at : goal.decreases-loop-at
decreases-loop-at g l = l.at

-- the places before `at` have lesser keys
abbrev pub invariant-loop-at-2 : goal.invariant-loop-at-2
invariant-loop-at-2 g l = l.at ≤ lower g.E.Entry.entries l.key l.kept

abbrev pub decreases-loop-at-2 : goal.decreases-loop-at-2
decreases-loop-at-2 g l = length l.kept - l.at

use Rattle.std.proofs.Common.{◌-◌, length}
use Rattle.rtk_obs.proofs.signal_rows.make_places.Given as goal

abbrev pub invariant-loop-list : goal.invariant-loop-list
invariant-loop-list l = record {}

abbrev pub decreases-loop-list : goal.decreases-loop-list
decreases-loop-list l = l.places - length l.list.items

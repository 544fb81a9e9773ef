use Rattle.std.proofs.Common.{◌≡◌, ◌++◌, take}
use Rattle.std.specs.Prelude.{flat_map}
use Rattle.rtk_quality.proofs.station.put_each.Given as goal

abbrev pub invariant-loop-thing : goal.invariant-loop-thing
invariant-loop-thing g l = l.text.items ≡ l.fn.text.items ++ flat_map (g.T.Listed.entry l.form) (take l.thing-index l.things)

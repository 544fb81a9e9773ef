use Rattle.std.proofs.Common.{◌≡◌, ◌++◌, take}
use Rattle.std.specs.Prelude.{flat_map}
use Rattle.rtk_systems.specs.SeveralChannels.{several_line}
use Rattle.rtk_systems.proofs.several_channels.put_several_among.Given as goal

abbrev pub invariant-loop-slot : goal.invariant-loop-slot
invariant-loop-slot l = l.lines.items ≡ l.fn.lines.items ++ flat_map (several_line l.surveys l.station l.taken l.own) (take l.slot-index l.slots)

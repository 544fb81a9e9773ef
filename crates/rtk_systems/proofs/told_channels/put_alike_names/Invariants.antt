use Rattle.std.proofs.Common.{◌≡◌, ◌++◌, take}
use Rattle.std.specs.Prelude.{flat_map}
use Rattle.rtk_systems.specs.ToldChannels.{alike_name}
use Rattle.rtk_systems.proofs.told_channels.put_alike_names.Given as goal

abbrev pub invariant-loop-slot : goal.invariant-loop-slot
invariant-loop-slot l = l.lines.items ≡ l.fn.lines.items ++ flat_map (alike_name l.own l.channel) (take l.slot-index l.slots)

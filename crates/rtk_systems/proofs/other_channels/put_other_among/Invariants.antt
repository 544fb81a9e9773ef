use Rattle.std.proofs.Common.{◌≡◌, ◌++◌, take}
use Rattle.std.specs.Prelude.{flat_map}
use Rattle.rtk_systems.specs.OtherChannels.{other_channel_line}
use Rattle.rtk_systems.proofs.other_channels.put_other_among.Given as goal

abbrev pub invariant-loop-slot : goal.invariant-loop-slot
invariant-loop-slot l =
    l.lines.items ≡ l.fn.lines.items ++ flat_map (other_channel_line l.surveys l.station l.taken l.own l.channels) (take l.slot-index l.slots)

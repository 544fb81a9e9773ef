use Rattle.std.proofs.Common.{◌≡◌, ◌++◌, take}
use Rattle.std.specs.Prelude.{flat_map}
use Rattle.rtk_systems.specs.OtherChannels.{own_channel}
use Rattle.rtk_systems.proofs.other_channels.put_own_channels.Given as goal

abbrev pub invariant-loop-field : goal.invariant-loop-field
invariant-loop-field l = l.lines.items ≡ l.fn.lines.items ++ flat_map (own_channel l.surveys l.station l.slot) (take l.field-index l.fields)

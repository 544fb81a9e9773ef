use Rattle.std.proofs.Common.{◌≡◌, ◌++◌, take}
use Rattle.std.specs.Prelude.{flat_map}
use Rattle.rtk_systems.specs.SeveralChannels.{told_channel}
use Rattle.rtk_systems.proofs.several_channels.put_told_channels.Given as goal

abbrev pub invariant-loop-field : goal.invariant-loop-field
invariant-loop-field l = l.lines.items ≡ l.fn.lines.items ++ flat_map (told_channel l.surveys l.station l.own l.slot) (take l.field-index l.fields)

use Rattle.std.proofs.Common.{◌≡◌, ◌++◌, take}
use Rattle.std.specs.Prelude.{flat_map}
use Rattle.rtk_systems.specs.ToldChannels.{alike_line_of}
use Rattle.rtk_systems.proofs.told_channels.put_alike_among.Given as goal

abbrev pub invariant-loop-field : goal.invariant-loop-field
invariant-loop-field l = l.lines.items ≡ l.fn.lines.items ++ flat_map (alike_line_of l.own) (take l.field-index l.fields)

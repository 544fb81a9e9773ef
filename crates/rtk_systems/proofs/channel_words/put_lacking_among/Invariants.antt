use Rattle.std.proofs.Common.{◌≡◌, ◌++◌, take}
use Rattle.std.specs.Prelude.{flat_map}
use Rattle.rtk_systems.specs.ChannelWords.{lacking_name}
use Rattle.rtk_systems.proofs.channel_words.put_lacking_among.Given as goal

abbrev pub invariant-loop-slot : goal.invariant-loop-slot
invariant-loop-slot l =
    l.lines.items ≡ l.fn.lines.items ++ flat_map (lacking_name l.surveys l.station l.taken l.channels) (take l.slot-index l.slots)

use Rattle.std.proofs.Common.{◌≡◌, ◌++◌, drop}
use Rattle.rtk_systems.specs.ChannelWords.{said_slots}
use Rattle.rtk_systems.proofs.channel_words.put_slots.Given as goal

-- the entries so far and those of the slots that are left are the entries of all
abbrev pub invariant-loop-slot : goal.invariant-loop-slot
invariant-loop-slot l =
    l.line.items ++ said_slots l.separator l.channels (drop l.slot-index l.slots) ≡ l.fn.line.items ++ said_slots 32 l.channels l.slots

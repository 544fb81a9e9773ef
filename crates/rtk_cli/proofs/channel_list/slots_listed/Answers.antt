use Rattle.std.proofs.Common.{ℕ, List, map, ap}
use Rattle.rtk_cli.specs.Steps.Parts.{marked_parts, marked_parts_after}
use Rattle.rtk_cli.specs.Steps.ChannelList.{IsSlotChannel, slot_parts}
use Rattle.rtk_cli.proofs.PartLemmas.{no-word}
use Rattle.rtk_cli.proofs.channel_list.slots_listed.Goals as goal

pub returns-in_default : goal.returns-in_default
returns-in_default c = λ slots lists.
    no-word IsSlotChannel slot_parts (map (marked_parts 58) (marked_parts 44 c.args.text.now)) c.loop-slot.slots.items slots (marked_parts 58 c.first_part.result.0.now)
    (map (marked_parts 58) (marked_parts 44 c.loop-slot.rest.now)) (map (marked_parts 58) (marked_parts_after 44 c.first_part.result.1))
    c.loop-slot.invariant.so_far (ap (λ (t : List (List ℕ)). map (marked_parts 58) t) c.first_part.ensures.parts) c.in_default.ensures lists.0 lists.1

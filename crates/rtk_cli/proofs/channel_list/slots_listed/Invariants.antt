use Rattle.std.proofs.Common.{◌≡◌, ◌++◌, map, length}
use Rattle.std.specs.Prelude.{All}
use Rattle.rtk_cli.specs.Steps.Parts.{marked_parts}
use Rattle.rtk_cli.specs.Steps.ChannelList.{IsSlotChannel, slot_parts}
use Rattle.rtk_cli.proofs.channel_list.slots_listed.Given as goal

abbrev pub invariant-loop-slot : goal.invariant-loop-slot
invariant-loop-slot l = record {
  good : All IsSlotChannel l.slots.items;
  so_far : map (marked_parts 58) (marked_parts 44 l.fn.text) ≡ map slot_parts l.slots.items ++ map (marked_parts 58) (marked_parts 44 l.rest);
}

abbrev pub decreases-loop-slot : goal.decreases-loop-slot
decreases-loop-slot l = length l.rest

use Rattle.std.proofs.Common.{◌≡◌, ◌-◌, ◌+◌, ◌≤◌, ℕ, List, [], ap, ◌∙◌, arith}
use Rattle.std.specs.Prelude.{flat_map}
use Rattle.std.specs.List.{range_with_len}
use Rattle.rtk_survey.specs.NextCommand.{slot_item, slot_items}
use Rattle.rtk_survey.specs.Steps.OtherSystems.{slots_held, fields_held}
use Rattle.rtk_survey.proofs.ListLemmas.{put-more}
use Rattle.rtk_survey.proofs.next_command.slot_items.Goals as goal

pub loop-slot-preserved : goal.loop-slot-preserved
loop-slot-preserved c =
    let items : ℕ → List ℕ = slot_item (slots_held c.args.legacy c.args.station.now) (fields_held c.args.station.now) in
    let from : 1 ≤ c.loop-slot.slot = c.loop-slot.auto.slot in
    let at : c.loop-slot.slot ≡ 1 + (c.loop-slot.slot - 1) = omega arith in
    let next : (c.loop-slot.slot - 1) + 1 ≡ (c.loop-slot.slot + 1) - 1 = omega arith in
    put-more items 1 (c.loop-slot.slot - 1) c.loop-slot.slot [] c.loop-slot.items.items c.put_slot_item.new.items.items
    at c.loop-slot.invariant c.in_ok-put_slot_item.ensures
    ∙ ap (λ (k : ℕ). flat_map items (range_with_len 1 k)) next

pub returns : goal.returns
unfolding slot_items
returns c =
    let end : c.loop-slot.slot - 1 ≡ 27 = omega (arith, c.loop-slot-test.false) in
    c.loop-slot.invariant ∙ ap (λ (k : ℕ). flat_map (slot_item (slots_held c.args.legacy c.args.station.now) (fields_held c.args.station.now)) (range_with_len 1 k)) end

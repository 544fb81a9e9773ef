use Rattle.std.proofs.Common.{ap, refl, sym, ◌∙◌, ◌==◌, Bool}
use Rattle.std.specs.Prelude.{◌&&◌, ◌||◌}
use Rattle.rtk_obs.specs.GlonassCells.{glonass_channel}
use Rattle.rtk_convert.specs.Slots.{has_slot, is_without_channel, is_of_other_channel, holds_in_1012}
use Rattle.rtk_convert.proofs.SlotsLemmas.{no-slot, slot-of}
use Rattle.rtk_convert.proofs.remarks.put_satellite_1012.Goals as goal

pub is_of_other_in_1012-is_other-requires : goal.is_of_other_in_1012-is_other-requires
is_of_other_in_1012-is_other-requires c = slot-of c.args.satellite.now.slot (sym c.has_slot_number.ensures ∙ c.if-not-has_slot_number.false)

pub is_without_channel-is_without-requires : goal.is_without_channel-is_without-requires
is_without_channel-is_without-requires c = slot-of c.args.satellite.now.slot (sym c.has_slot_number.ensures ∙ c.if-not-has_slot_number.false)

pub put_slot-requires : goal.put_slot-requires
put_slot-requires c = slot-of c.args.satellite.now.slot (sym c.has_slot_number.ensures ∙ c.if-not-has_slot_number.false)

pub returns-then-not-has_slot_number : goal.returns-then-not-has_slot_number
returns-then-not-has_slot_number c =
    let s = c.args.satellite.now in
    let channels = c.args.channels.now in
    let old = c.args.remarks.now in
    let none = sym c.has_slot_number.ensures ∙ c.if-not-has_slot_number.true in
    record {
      systems = refl;
      other_channels = λ k is. no-slot s.slot k (holds_in_1012 is_of_other_channel channels s) (has_slot old.other_channels k) none is;
      no_channels = λ k is. no-slot s.slot k (holds_in_1012 is_without_channel channels s) (has_slot old.no_channels k) none is;
    }

pub returns : goal.returns
returns c =
    let s = c.args.satellite.now in
    let channels = c.args.channels.now in
    let old = c.args.remarks.now in
    record {
      systems = c.put_slot.ensures.systems;
      other_channels = λ k is. c.put_slot.ensures.other_channels k is
          ∙ ap (λ (b : Bool). ((s.slot == k) && b) || has_slot old.other_channels k) c.is_of_other_in_1012-is_other.ensures;
      no_channels = λ k is. c.put_slot.ensures.no_channels k is
          ∙ ap (λ (b : Bool). ((s.slot == k) && b) || has_slot old.no_channels k) (c.is_without_channel-is_without.ensures (glonass_channel channels s));
    }

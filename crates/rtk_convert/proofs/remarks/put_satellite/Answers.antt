use Rattle.std.proofs.Common.{◌==◌, ◌∙◌, ℕ, ℤ, Bool, Option, refl, sym, ap}
use Rattle.std.specs.Prelude.{◌&&◌, ◌||◌, not, is_some}
use Rattle.rtk_convert.specs.Slots.{has_slot, is_without_channel, is_of_other_channel, holds_in_msm}
use Rattle.rtk_convert.proofs.SlotsLemmas.{other-some, other-none, put-none, put-some, same-slot}
use Rattle.rtk_convert.proofs.remarks.put_satellite.Goals as goal

pub returns-in-Some : goal.returns-in-Some
returns-in-Some c =
    let channels = c.args.channels.now in
    let old = c.args.remarks.now in
    let slot = c.args.slot in
    let field = c.args.field in
    let some = sym c.channel.ensures ∙ c.in-Some.is in
    let other = ap (λ (b : Bool). not b) c.agrees_with.ensures ∙ other-some channels slot field c.in-Some.channel c.requires some in
    record {
      systems = refl;
      other_channels = λ k is. c.put_if.ensures k is
          ∙ ap (λ (b : Bool). b || has_slot old.other_channels k)
          (ap (λ (b : Bool). (slot == k) && b) other ∙ same-slot (λ n. holds_in_msm is_of_other_channel channels n field) slot k);
      no_channels = λ k is. put-none (slot == k) (holds_in_msm is_without_channel channels slot field) (has_slot old.no_channels k) (ap (λ (o : Option ℤ). not (is_some o)) some)
          ∙ ap (λ (b : Bool). b || has_slot old.no_channels k) (same-slot (λ n. holds_in_msm is_without_channel channels n field) slot k);
    }

pub returns-in-None : goal.returns-in-None
returns-in-None c =
    let channels = c.args.channels.now in
    let old = c.args.remarks.now in
    let slot = c.args.slot in
    let field = c.args.field in
    let none = sym c.channel.ensures ∙ c.in-None.is in
    record {
      systems = refl;
      other_channels = λ k is. put-none (slot == k) (holds_in_msm is_of_other_channel channels slot field) (has_slot old.other_channels k) (sym (other-none channels slot field none))
          ∙ ap (λ (b : Bool). b || has_slot old.other_channels k) (same-slot (λ n. holds_in_msm is_of_other_channel channels n field) slot k);
      no_channels = λ k is. put-some slot k (holds_in_msm is_without_channel channels slot field) (has_slot old.no_channels k) (has_slot c.put.new.self k)
          (ap (λ (o : Option ℤ). not (is_some o)) none)
          (λ e. ap (λ (n : ℕ). has_slot c.put.new.self n) (sym e) ∙ c.put.ensures.set) (λ unlike. c.put.ensures.others k is (λ e. unlike (sym e)))
          ∙ ap (λ (b : Bool). b || has_slot old.no_channels k) (same-slot (λ n. holds_in_msm is_without_channel channels n field) slot k);
    }

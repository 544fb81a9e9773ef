use Rattle.std.proofs.Common.{Option, ℤ, ap, ◌∙◌}
use Rattle.rtk_obs.specs.Carriers.{channel_at}
use Rattle.rtk_compare.specs.declared.difference.Class.TheVariants.{Lost, Changed}
use Rattle.rtk_compare.specs.declared.difference.What.TheVariants.{Channel}
use Rattle.rtk_compare.specs.Cells.{is_gone, is_other_number}
use Rattle.rtk_compare.proofs.FindingLemmas.{told, told-at, adds-more}
use Rattle.rtk_compare.proofs.headers.compare_slots.Goals as goal

pub returns : goal.returns
returns c =
    let place = c.of_slot-place.result in
    let old = channel_at c.args.old.now.channels c.args.slot in
    let was = c.channel_of-was.ensures in
    let is = c.channel_of-is.ensures in
    let gone = c.channel_is_gone-is_gone.ensures ∙ ap (λ (o : Option ℤ). is_gone o c.channel_of-is.result) was ∙ ap (λ (o : Option ℤ). is_gone old o) is in
    let other = c.is_other_channel-has_changed.ensures ∙ ap (λ (o : Option ℤ). is_other_number o c.channel_of-is.result) was ∙ ap (λ (o : Option ℤ). is_other_number old o) is in
    adds-more (told-at Lost Channel _ c.of_slot-place.ensures (told Lost Channel place gone c.push_if.ensures)) (told-at Changed Channel _ c.of_slot-place.ensures (told Changed Channel place other c.push_if-2.ensures))

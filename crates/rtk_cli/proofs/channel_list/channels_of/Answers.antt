use Rattle.std.proofs.Common.{◌≡◌, ℤ, length, slice_index_or, Option, is_some, arith, sym, ap, ◌∙◌, subst}
use Rattle.std.proofs.lemmas.List.{get_or_default}
use Rattle.rtk_cli.specs.declared.channel_list.SlotChannel.{SlotChannel}
use Rattle.rtk_cli.specs.Steps.ChannelList.{IsSlotChannel}
use Rattle.rtk_cli.proofs.ChannelLemmas.{sets-none, sets-more, sets-all, set-twice, not-some}
use Rattle.rtk_cli.proofs.channel_list.channels_of.Goals as goal

pub loop-place-init : goal.loop-place-init
loop-place-init c = sets-none c.args.slots.now c.new-channels.result c.new-channels.ensures

pub loop-place-preserved : goal.loop-place-preserved
loop-place-preserved c =
    let l = c.loop-place in
    let p = c.index-slots-place.result in
    let within = c.loop-place-test.true in
    let at : (d : SlotChannel) → slice_index_or c.args.slots.now l.place d ≡ p = λ d. get_or_default c.args.slots.now l.place d p within ∙ sym c.index-slots-place.is in
    sets-more c.args.slots.now l.place p l.channels c.set.new.self l.invariant at
    (sym c.channel.ensures ∙ not-some c.channel.result (sym c.is_some.ensures ∙ c.if-is_some.false)) c.set.ensures.set c.set.ensures.others
    (λ k d lt. (c.requires k d (omega (arith, lt, within))).0)

pub returns-then-is_some : goal.returns-then-is_some
returns-then-is_some c =
    let l = c.loop-place in
    let p = c.index-slots-place.result in
    let within = c.loop-place-test.true in
    let at : (d : SlotChannel) → slice_index_or c.args.slots.now l.place d ≡ p = λ d. get_or_default c.args.slots.now l.place d p within ∙ sym c.index-slots-place.is in
    let good : IsSlotChannel p = subst (λ (q : SlotChannel). IsSlotChannel q) (at p) (c.requires l.place p within) in
    set-twice c.args.slots.now l.place p l.channels l.invariant at within good.0
    (ap (λ (o : Option ℤ). is_some o) (sym c.channel.ensures) ∙ sym c.is_some.ensures ∙ c.if-is_some.true)

pub returns : goal.returns
returns c =
    let end : c.loop-place.place ≡ length c.args.slots.now = omega arith in
    sets-all c.args.slots.now c.loop-place.place c.loop-place.channels c.loop-place.invariant end

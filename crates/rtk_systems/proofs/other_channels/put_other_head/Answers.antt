use Rattle.std.proofs.Common.{◌++◌, List, ℕ, ap, ◌∙◌, codes}
use Rattle.rtk_systems.specs.ChannelWords.{said_channel}
use Rattle.rtk_systems.specs.OtherChannels.{other_head}
use Rattle.rtk_systems.specs.SeveralChannels.{satellite_of_slot}
use Rattle.rtk_survey.proofs.PublicLaws.{four-parts}
use Rattle.rtk_systems.proofs.other_channels.put_other_head.Goals as goal

pub returns : goal.returns
unfolding other_head
returns c =
    let name : List ℕ = satellite_of_slot c.args.slot in
    let blank : List ℕ = codes " " in
    let channel : List ℕ = said_channel c.args.channel in
    c.in_ok-put_channel.ensures
    ∙ ap (λ l. l ++ channel) (c.in_ok-extend_from_slice-2.ensures.items
    ∙ ap (λ l. l ++ blank) (c.in_ok-put_slot_name.ensures ∙ ap (λ l. l ++ name) c.in_ok-extend_from_slice.ensures.items))
    ∙ four-parts c.args.lines.now.items (codes " other-channel") name blank channel

use Rattle.std.proofs.Common.{◌++◌, List, ℕ, Some, ap, ◌∙◌, codes}
use Rattle.std.specs.Prelude.{flat_map}
use Rattle.rtk_systems.specs.AlikeChannels.{constellation_slots}
use Rattle.rtk_systems.specs.ChannelWords.{said_channel}
use Rattle.rtk_systems.specs.ToldChannels.{alike_name, alike_words}
use Rattle.rtk_survey.proofs.PublicLaws.{four-parts}
use Rattle.rtk_systems.proofs.told_channels.put_alike_words.Goals as goal

pub returns : goal.returns
unfolding alike_words
returns c =
    let channel : List ℕ = said_channel c.args.channel in
    let names : List ℕ = flat_map (alike_name c.args.own.now (Some c.args.channel)) constellation_slots in
    let last : List ℕ = codes "\n" in
    c.in_ok-extend_from_slice-2.ensures.items
    ∙ ap (λ l. l ++ last) (c.in_ok-put_alike_slots.ensures
    ∙ ap (λ l. l ++ names) (c.in_ok-put_channel.ensures ∙ ap (λ l. l ++ channel) c.in_ok-extend_from_slice.ensures.items))
    ∙ four-parts c.args.lines.now.items (codes " channels-alike ") channel names last

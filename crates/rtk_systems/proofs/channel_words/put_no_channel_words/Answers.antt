use Rattle.std.proofs.Common.{◌++◌, List, ℕ, ap, ◌∙◌, codes}
use Rattle.std.specs.Prelude.{flat_map}
use Rattle.rtk_systems.specs.ChannelWords.{all_slots, lacking_name, no_channel_words}
use Rattle.rtk_survey.proofs.PublicLaws.{three-parts}
use Rattle.rtk_systems.proofs.channel_words.put_no_channel_words.Goals as goal

pub returns : goal.returns
unfolding no_channel_words
returns c =
    let names : List ℕ = flat_map (lacking_name c.args.surveys.now c.args.station c.args.taken c.args.channels.now) all_slots in
    let last : List ℕ = codes ": give --channels, as a header's GLONASS SLOT / FRQ # of the same days has them\n" in
    c.in_ok-extend_from_slice-2.ensures.items
    ∙ ap (λ l. l ++ last) (c.in_ok-put_lacking_among.ensures ∙ ap (λ l. l ++ names) c.in_ok-extend_from_slice.ensures.items)
    ∙ three-parts c.args.lines.now.items (codes " no-channel") names last

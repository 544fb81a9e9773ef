use Rattle.std.proofs.Common.{◌++◌, List, ℕ, ap, ◌∙◌, codes}
use Rattle.std.specs.Prelude.{flat_map}
use Rattle.rtk_systems.specs.OtherChannels.{own_channel, own_channels_words}
use Rattle.rtk_systems.specs.SeveralChannels.{told_fields}
use Rattle.rtk_survey.proofs.PublicLaws.{three-parts}
use Rattle.rtk_systems.proofs.other_channels.put_own_words.Goals as goal

pub returns : goal.returns
unfolding own_channels_words
returns c =
    let channels : List ℕ = flat_map (own_channel c.args.surveys.now c.args.station c.args.slot) told_fields in
    let last : List ℕ = codes "\n" in
    c.in_ok-extend_from_slice-2.ensures.items
    ∙ ap (λ l. l ++ last) (c.in_ok-put_own_channels.ensures ∙ ap (λ l. l ++ channels) c.in_ok-extend_from_slice.ensures.items)
    ∙ three-parts c.args.lines.now.items (codes ": messages tell") channels last

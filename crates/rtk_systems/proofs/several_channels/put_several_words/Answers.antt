use Rattle.std.proofs.Common.{◌++◌, List, ℕ, ap, ◌∙◌, codes}
use Rattle.std.specs.Prelude.{flat_map}
use Rattle.rtk_systems.specs.SeveralChannels.{satellite_of_slot, told_fields, told_channel, several_words}
use Rattle.rtk_survey.proofs.PublicLaws.{four-parts}
use Rattle.rtk_systems.proofs.several_channels.put_several_words.Goals as goal

pub returns : goal.returns
unfolding several_words
returns c =
    let name : List ℕ = satellite_of_slot c.args.slot in
    let channels : List ℕ = flat_map (told_channel c.args.surveys.now c.args.station c.args.own.now c.args.slot) told_fields in
    let last : List ℕ = codes "\n" in
    c.in_ok-extend_from_slice-2.ensures.items
    ∙ ap (λ l. l ++ last) (c.in_ok-put_told_channels.ensures
    ∙ ap (λ l. l ++ channels) (c.in_ok-put_slot_name.ensures ∙ ap (λ l. l ++ name) c.in_ok-extend_from_slice.ensures.items))
    ∙ four-parts c.args.lines.now.items (codes " several-channels") name channels last

use Rattle.std.proofs.Common.{◌++◌, List, ℕ, ap, ◌∙◌, append_assoc}
use Rattle.rtk_systems.specs.OtherChannels.{other_head, own_channels_words}
use Rattle.rtk_systems.proofs.other_channels.put_other_words.Goals as goal

pub returns : goal.returns
returns c =
    let head : List ℕ = other_head c.args.slot c.args.channel in
    let told : List ℕ = own_channels_words c.args.surveys.now c.args.station c.args.slot in
    c.in_ok-put_own_words.ensures
    ∙ ap (λ (l : List ℕ). l ++ told) c.in_ok-put_other_head.ensures
    ∙ append_assoc c.args.lines.now.items head told

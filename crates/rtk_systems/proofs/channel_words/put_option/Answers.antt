use Rattle.std.proofs.Common.{◌++◌, List, ℕ, ap, ◌∙◌, append_assoc, codes}
use Rattle.rtk_systems.specs.ChannelWords.{said_channels}
use Rattle.rtk_systems.proofs.channel_words.put_option.Goals as goal

pub returns : goal.returns
returns c =
    let channels : List ℕ = said_channels c.args.channels.now in
    c.in_ok-put_channels.ensures
    ∙ ap (λ (l : List ℕ). l ++ channels) c.in_ok-extend_from_slice.ensures.items
    ∙ append_assoc c.args.line.now.items (codes " --channels") channels

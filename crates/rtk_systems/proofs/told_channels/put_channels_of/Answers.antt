use Rattle.std.proofs.Common.{◌++◌, List, ℕ, ℤ, Option, ap, ◌∙◌}
use Rattle.rtk_systems.specs.ChannelWords.{no_channel_line}
use Rattle.rtk_systems.specs.OtherChannels.{other_channel_lines}
use Rattle.rtk_systems.specs.SeveralChannels.{several_lines}
use Rattle.rtk_systems.specs.ToldChannels.{alike_lines}
use Rattle.rtk_survey.proofs.PublicLaws.{four-parts}
use Rattle.rtk_systems.proofs.told_channels.put_channels_of.Goals as goal

pub returns : goal.returns
returns c =
    let ss = c.args.surveys.now in
    let own = c.args.own.now in
    let mid : List ℕ = c.put_several_among.new.lines.items in
    let late : List ℕ = c.put_no_channel_line.new.lines.items in
    let a : List ℕ = alike_lines own in
    let b : List ℕ = several_lines ss c.args.station c.args.taken own in
    let d : List ℕ = no_channel_line ss c.args.station c.args.taken c.args.glonass.channels in
    let e : List ℕ = other_channel_lines ss c.args.station c.args.taken own c.args.glonass.channels in
    c.in_ok-put_other_among.ensures
    ∙ ap (λ (cs : List (Option ℤ)). late ++ other_channel_lines ss c.args.station c.args.taken own cs) c.channels-chosen.ensures
    ∙ ap (λ (l : List ℕ). l ++ e) (c.in_ok-put_no_channel_line.ensures
    ∙ ap (λ (cs : List (Option ℤ)). mid ++ no_channel_line ss c.args.station c.args.taken cs) c.channels-chosen.ensures
    ∙ ap (λ (l : List ℕ). l ++ d) (c.in_ok-put_several_among.ensures ∙ ap (λ (l : List ℕ). l ++ b) c.in_ok-put_alike_among.ensures))
    ∙ four-parts c.args.lines.now.items a b d e

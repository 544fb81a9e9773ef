use Rattle.std.proofs.Common.{rules, ◌∙◌, Option, Some, ℕ, pos, sym, ap}
use Rattle.std.specs.Prelude.{◌-ℤ◌}
use Rattle.rtk_obs.specs.Carriers.{AreChannels}
use Rattle.rtk_survey.specs.PhaseChannels.{phase_field}
use Rattle.rtk_survey.proofs.ChannelLemmas.{untold}
use Rattle.rtk_survey.proofs.PhaseChannelLemmas.{channels-are}
use Rattle.rtk_survey.proofs.phase_channels.phase_channels.Goals as goal

pub returns-then-tells_channels : goal.returns-then-tells_channels
returns-then-tells_channels c =
    let good : AreChannels c.on_told_channels.result = search rules in
    channels-are c.on_told_channels.result c.args.message.now good c.on_told_channels.ensures

pub returns-else-tells_channels : goal.returns-else-tells_channels
returns-else-tells_channels c =
    let m = c.args.message.now in
    let good : AreChannels c.on_channel_0.result = search rules in
    channels-are c.on_channel_0.result m good (λ slot is.
    c.on_channel_0.ensures slot is
    ∙ sym (ap (λ (field : Option ℕ). Some (pos (phase_field field) -ℤ pos 7)) (untold m slot (sym c.tells_channels.ensures ∙ c.if-tells_channels.false))))

use Rattle.std.proofs.Common.{◌++◌, ℕ, List, Option, ap, ◌∙◌}
use Rattle.rtk_rinex.specs.MixedHead.{GlonassView, MixedHeadView}
use Rattle.rtk_plan.specs.Plan.{taken_messages}
use Rattle.rtk_systems.specs.ToldChannels.{told_channel_lines}
use Rattle.rtk_systems.specs.declared.values.TakenMessages.{TakenMessages}
use Rattle.rtk_plan.proofs.known_lines.put_channels_in.Goals as goal

pub returns : goal.returns
returns c =
    let old : List ℕ = c.args.lines.now.items in
    let ss = c.args.surveys.now in
    let plan = c.args.plan.now in
    let setup = plan.setup in
    c.in_ok-put_channel_lines.ensures
    ∙ ap (λ (n : ℕ). old ++ told_channel_lines ss n c.taken_by_setup-taken.result plan.own_channels c.glonass.result) c.station.ensures.value
    ∙ ap (λ (m : TakenMessages). old ++ told_channel_lines ss setup.station m plan.own_channels c.glonass.result) c.taken_by_setup-taken.ensures
    ∙ ap (λ (g : Option GlonassView). old ++ told_channel_lines ss setup.station (taken_messages setup) plan.own_channels g) (c.glonass.ensures.value ∙ ap (λ (h : MixedHeadView). h.glonass) c.head.ensures.value)

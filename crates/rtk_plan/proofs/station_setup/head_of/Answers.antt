use Rattle.std.proofs.Common.{ap, ◌∙◌}
use Rattle.rtk_rinex.specs.MixedHead.{MixedHeadView}
use Rattle.rtk_plan.proofs.CodeLemmas.{no-head-fault}
use Rattle.rtk_plan.proofs.station_setup.head_of.Goals as goal

-- parts that are good make a head
pub unreachable-requires : goal.unreachable-requires
unreachable-requires c = no-head-fault c.args.codes.now c.args.glonass c.in_default.field-0 c.requires.good c.requires.due c.in_default.ensures.fault

pub returns : goal.returns
returns c = c.with_doppler_if.ensures ∙ ap (λ (h : MixedHeadView). record h { doppler = c.args.doppler }) c.in-Ok.ensures.head

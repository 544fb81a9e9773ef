use Rattle.std.proofs.Common.{ap, ◌∙◌}
use Rattle.rtk_rinex.specs.MixedHead.{MixedHeadView}
use Rattle.rtk_cut.specs.KeptSystems.{first_absent}
use Rattle.rtk_cut.proofs.kept_head.first_absent.Goals as goal

pub returns : goal.returns
returns c = λ t good text.
    c.first_absent_of.ensures ∙ ap (first_absent c.args.kept) (c.codes.ensures.value ∙ ap (λ (h : MixedHeadView). h.listed) (c.heading.ensures.parts t good text).0)

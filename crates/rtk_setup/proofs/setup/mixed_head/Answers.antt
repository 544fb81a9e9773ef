use Rattle.std.proofs.Common.{subst, List, None, ◌∙◌}
use Rattle.rtk_obs.specs.declared.any_code.AnyCode.{AnyCode}
use Rattle.rtk_rinex.specs.MixedHead.{IsMixedHeadFault}
use Rattle.rtk_setup.proofs.SetupLemmas.{no-fault}
use Rattle.rtk_setup.proofs.setup.mixed_head.Goals as goal

pub unreachable-requires-in_default-new : goal.unreachable-requires-in_default-new
unreachable-requires-in_default-new c =
    no-fault c.codes.result.now c.in_default-new.field-0 c.codes.ensures.good
    (subst (λ (cs : List AnyCode). IsMixedHeadFault cs None c.in_default-new.field-0) (c.as_slice.ensures.value ∙ c.any_codes-listed.ensures) c.in_default-new.ensures.fault)

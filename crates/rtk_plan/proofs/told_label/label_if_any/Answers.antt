use Rattle.rtk_plan.proofs.ToldLabelLemmas.{told-fits}
use Rattle.rtk_plan.proofs.told_label.label_if_any.Goals as goal

pub unreachable-requires : goal.unreachable-requires
unreachable-requires c =
    told-fits c.args.told.now c.in_default.field-0 (rw (← c.parts_told-parts.ensures) (c.in_default.ensures.fault))

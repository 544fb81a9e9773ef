use Rattle.std.proofs.Common.{ap, ◌∙◌}
use Rattle.rtk_convert.specs.declared.systems.Systems.{Systems}
use Rattle.rtk_convert.specs.Systems.{has_system}
use Rattle.rtk_convert.specs.Steps.OfferLines.{class_named}
use Rattle.rtk_convert.proofs.BringsLemmas.{sbas-none, sbas-put}
use Rattle.rtk_convert.proofs.conversion.put_sbas.Goals as goal

pub returns-then-not-sbas : goal.returns-then-not-sbas
returns-then-not-sbas c = λ system. sbas-none c.args.systems.now c.args.sbas (class_named c.args.class) system c.if-not-sbas.true

pub returns-in-Taken : goal.returns-in-Taken
returns-in-Taken c = λ system.
    ap (λ (y : Systems). has_system y system) c.put.ensures
    ∙ sbas-put c.args.systems.now c.args.sbas (class_named c.args.class) system c.if-not-sbas.false (ap class_named c.in-Taken.is)

use Rattle.std.proofs.Common.{ap, ◌∙◌}
use Rattle.rtk_convert.specs.declared.systems.Systems.{Systems}
use Rattle.rtk_convert.specs.Systems.{has_system}
use Rattle.rtk_convert.specs.Steps.OfferLines.{class_named}
use Rattle.rtk_convert.proofs.BringsLemmas.{systems-put, systems-untimed}
use Rattle.rtk_convert.proofs.conversion.put_system.Goals as goal

pub returns-then-is_none : goal.returns-then-is_none
returns-then-is_none c = λ system. systems-untimed c.args.systems.now c.args.number c.args.epoch c.is_none.result (class_named c.args.class) system c.is_none.ensures c.if-is_none.true

pub returns-in-Taken : goal.returns-in-Taken
returns-in-Taken c = λ system.
    ap (λ (y : Systems). has_system y system) c.put.ensures
    ∙ systems-put c.args.systems.now c.args.number c.args.epoch c.is_none.result (class_named c.args.class) system c.system_of.result c.is_none.ensures c.if-is_none.false (ap class_named c.in-Taken.is) c.system_of.ensures

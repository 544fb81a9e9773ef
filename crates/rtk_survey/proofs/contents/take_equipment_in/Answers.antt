use Rattle.std.proofs.Common.{Option, sym, subst, ◌∙◌}
use Rattle.std.specs.List.{cons_option}
use Rattle.rtk_survey.specs.Contents.{AreStations}
use Rattle.rtk_survey.specs.declared.equipment_message.EquipmentMessage.{EquipmentMessage}
use Rattle.rtk_survey.proofs.ResultLemmas.{on-ok}
use Rattle.rtk_survey.proofs.contents.take_equipment_in.Goals as goal

pub returns-in-Some : goal.returns-in-Some
returns-in-Some c = on-ok c.take_equipment.result
    (λ took ms ds es all. subst (λ (o : Option EquipmentMessage). AreStations ms ds (cons_option o es) c.take_equipment.new.stations) (sym c.in-Some.is ∙ c.equipment_in.ensures) (took ms ds es all))
    c.take_equipment.ensures

pub returns-in-None : goal.returns-in-None
returns-in-None c = λ ms ds es all.
    subst (λ (o : Option EquipmentMessage). AreStations ms ds (cons_option o es) c.args.stations.now) (sym c.in-None.is ∙ c.equipment_in.ensures) all

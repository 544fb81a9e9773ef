use Rattle.rtk_plan.specs.OtherEquipment.{antenna_notes, receiver_notes}
use Rattle.rtk_survey.proofs.PublicLaws.{then-put}
use Rattle.rtk_plan.proofs.other_equipment.put_told.Goals as goal

pub returns : goal.returns
returns c =
    let name = c.args.name.now in
    let counts = c.args.counts.now in
    let told = c.args.told.now in
    then-put c.args.lines.now.items c.put_antenna_notes.new.lines.items c.put_receiver_notes.new.lines.items
    (antenna_notes name counts told) (receiver_notes name counts told) c.in_ok-put_antenna_notes.ensures c.in_ok-put_receiver_notes.ensures

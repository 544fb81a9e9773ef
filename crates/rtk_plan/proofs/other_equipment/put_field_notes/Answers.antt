use Rattle.rtk_plan.specs.OtherEquipment.{other_told_line, changes_line}
use Rattle.rtk_survey.proofs.PublicLaws.{then-put}
use Rattle.rtk_plan.proofs.other_equipment.put_field_notes.Goals as goal

pub returns : goal.returns
returns c =
    let field = c.args.field.now in
    let name = c.args.name.now in
    then-put c.args.lines.now.items c.put_other_told.new.lines.items c.put_changes.new.lines.items
    (other_told_line field name c.args.counts.now.last c.args.told.now.last) (changes_line field name c.args.told.now.changes)
    c.in_ok-put_other_told.ensures c.in_ok-put_changes.ensures

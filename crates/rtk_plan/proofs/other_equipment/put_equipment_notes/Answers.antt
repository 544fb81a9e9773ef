use Rattle.std.proofs.Common.{◌++◌, ℕ, List, ap, ◌∙◌}
use Rattle.rtk_plan.specs.OtherEquipment.{all_other_equipment}
use Rattle.rtk_plan.specs.TextsLeftOut.{texts_left_out}
use Rattle.rtk_survey.proofs.PublicLaws.{then-put}
use Rattle.rtk_plan.proofs.other_equipment.put_equipment_notes.Goals as goal

pub returns : goal.returns
returns c =
    let names = c.args.captures.now.names.now in
    let ss = c.args.captures.now.surveys.now in
    let counts = c.args.counts.now in
    let mid : List ℕ = c.put_texts_left_out.new.lines.items in
    then-put c.args.lines.now.items mid c.put_all_other.new.lines.items
    (texts_left_out counts) (all_other_equipment names c.args.setup.now.station counts ss)
    c.in_ok-put_texts_left_out.ensures
    (c.in_ok-put_all_other.ensures ∙ ap (λ (n : ℕ). mid ++ all_other_equipment names n counts ss) c.station.ensures.value)

use Rattle.std.proofs.Common.{◌++◌, ℕ, List, ap, ◌∙◌, codes, decimal, ne_eqb}
use Rattle.rtk_captures.specs.Lists.{name_line}
use Rattle.rtk_plan.specs.OtherEquipment.{field_after}
use Rattle.rtk_survey.proofs.PublicLaws.{three-parts}
use Rattle.rtk_plan.proofs.other_equipment.put_changes.Goals as goal

pub returns : goal.returns
returns c =
    let words : List ℕ = field_after (codes " changes-of-") c.args.field.now in
    let line : List ℕ = name_line (codes " in ") c.args.name.now in
    rw (ne_eqb c.args.changes 0 c.if-changes-eq0.false) (
    c.in_ok-put_name_line.ensures
    ∙ ap (λ (l : List ℕ). l ++ line) (c.in_ok-put_number.ensures ∙ ap (λ (l : List ℕ). l ++ decimal c.args.changes) c.in_ok-put_field.ensures)
    ∙ three-parts c.args.lines.now.items words (decimal c.args.changes) line)

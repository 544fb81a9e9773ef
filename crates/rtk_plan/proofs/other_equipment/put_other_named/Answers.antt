use Rattle.std.proofs.Common.{◌++◌, ℕ, List, [], Bool, sym, ap, ◌∙◌, codes}
use Rattle.std.specs.Prelude.{flat_map, if◌then◌else◌}
use Rattle.rtk_captures.specs.Lists.{name_line}
use Rattle.rtk_plan.specs.OtherEquipment.{field_after}
use Rattle.rtk_survey.proofs.PublicLaws.{three-parts}
use Rattle.rtk_survey.specs.EquipmentText.{shown_byte}
use Rattle.rtk_plan.proofs.other_equipment.put_other_named.Goals as goal

pub returns : goal.returns
returns c =
    let old : List ℕ = c.args.lines.now.items in
    let words : List ℕ = field_after (codes " other-") c.args.field.now in
    let text : List ℕ = flat_map shown_byte c.args.text.now.items in
    let line : List ℕ = name_line (codes " in ") c.args.name.now in
    c.in_ok-put_name_line.ensures
    ∙ ap (λ (l : List ℕ). l ++ line) (c.in_ok-put_shown.ensures
    ∙ ap (λ (t : List ℕ). c.put_field.new.lines.items ++ flat_map shown_byte t) c.as_slice.ensures.value
    ∙ ap (λ (l : List ℕ). l ++ text) c.in_ok-put_field.ensures)
    ∙ three-parts old words text line
    ∙ ap (λ (b : Bool). old ++ (if b then (words ++ text) ++ line else [])) (sym (sym c.is_other_named.ensures ∙ c.if-not-is_other_named.false))

use Rattle.std.proofs.Common.{◌∙◌, refl, length}
use Rattle.rtk_label.proofs.ChoiceLemmas.{clash}
use Rattle.rtk_label.proofs.FieldLemmas.{field-none, field-some}
use Rattle.rtk_label.proofs.fields.read_field.Goals as goal

pub returns-then-not-is_field : goal.returns-then-not-is_field
returns-then-not-is_field c =
    let shown = c.split_at.ensures.front ∙ c.trimmed_len.ensures.value in
    rw c.new.ensures (field-none (length c.args.columns.now) c.args.columns.now (λ is. clash c.is_field.result c.if-not-is_field.true (c.is_field.ensures.1 (rw shown is))))

pub returns : goal.returns
returns c =
    let shown = c.split_at.ensures.front ∙ c.trimmed_len.ensures.value in
    field-some (length c.args.columns.now) c.args.columns.now c.field_of.result.items refl (c.field_of.ensures ∙ shown) (rw shown at (c.is_field.ensures.0 c.if-not-is_field.false))

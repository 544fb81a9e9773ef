use Rattle.std.proofs.Common.{◌≡◌, ◌∙◌, take, arith, sym, refl}
use Rattle.rtk_label.specs.Fields.{marker_number_line}
use Rattle.rtk_label.specs.Steps.Shown.{IsFieldIn}
use Rattle.rtk_label.proofs.ChoiceLemmas.{clash}
use Rattle.rtk_label.proofs.FieldLemmas.{field_at}
use Rattle.rtk_label.proofs.NumberLemmas.{number-none, number-some}
use Rattle.rtk_label.proofs.unlabelled.read_number.Goals as goal

pub returns-then-not-is_same : goal.returns-then-not-is_same
returns-then-not-is_same c =
    let read : IsFieldIn 20 (take 20 c.args.line.now) c.read_field-number.result.items =
    field_at 20 _ _ _ c.columns_at.ensures.value (c.columns_at.ensures.whole (omega arith)) c.read_field-number.ensures in
    let written : c.put_number_line.new.out.items ≡ marker_number_line c.read_field-number.result.items =
    rw (c.put_number_line.ensures.items, c.new-written.ensures, c.as_slice.ensures.value) refl in
    rw c.new.ensures (number-none c.args.line.now c.read_field-number.result.items read
    (λ e. clash c.is_same.result c.if-not-is_same.true (c.is_same.ensures.1 (c.as_slice-2.ensures.value ∙ written ∙ sym e))))

pub returns : goal.returns
returns c =
    let read : IsFieldIn 20 (take 20 c.args.line.now) c.read_field-number.result.items =
    field_at 20 _ _ _ c.columns_at.ensures.value (c.columns_at.ensures.whole (omega arith)) c.read_field-number.ensures in
    let written : c.put_number_line.new.out.items ≡ marker_number_line c.read_field-number.result.items =
    rw (c.put_number_line.ensures.items, c.new-written.ensures, c.as_slice.ensures.value) refl in
    number-some c.args.line.now c.read_field-number.result.items read (sym (c.is_same.ensures.0 c.if-not-is_same.false) ∙ c.as_slice-2.ensures.value ∙ written)

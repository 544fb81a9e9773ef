use Rattle.rtk_label.proofs.ChoiceLemmas.{clash}
use Rattle.rtk_label.proofs.label.LabelParts.fault.Goals as goal

pub returns-then-not-is_offset-3 : goal.returns-then-not-is_offset-3
returns-then-not-is_offset-3 c =
    rw (← c.self.view_is) (((((c.is_field.ensures.0 c.if-not-is_field.false, c.is_field-2.ensures.0 c.if-not-is_field-2.false, c.is_field-3.ensures.0 c.if-not-is_field-3.false, c.is_field-4.ensures.0 c.if-not-is_field-4.false), c.is_field-5.ensures.0 c.if-not-is_field-5.false, c.is_field-6.ensures.0 c.if-not-is_field-6.false, c.is_field-7.ensures.0 c.if-not-is_field-7.false), c.is_field-8.ensures.0 c.if-not-is_field-8.false, c.is_field-9.ensures.0 c.if-not-is_field-9.false), c.is_offset.ensures.0 c.if-not-is_offset.false, c.is_offset-2.ensures.0 c.if-not-is_offset-2.false), λ is. clash c.is_offset-3.result c.if-not-is_offset-3.true (c.is_offset-3.ensures.1 is))

pub returns : goal.returns
returns c = rw (← c.self.view_is) (record {
  run_by = c.is_field.ensures.0 c.if-not-is_field.false;
  marker_number = c.is_field-2.ensures.0 c.if-not-is_field-2.false;
  observer = c.is_field-3.ensures.0 c.if-not-is_field-3.false;
  agency = c.is_field-4.ensures.0 c.if-not-is_field-4.false;
  receiver_number = c.is_field-5.ensures.0 c.if-not-is_field-5.false;
  receiver_type = c.is_field-6.ensures.0 c.if-not-is_field-6.false;
  receiver_version = c.is_field-7.ensures.0 c.if-not-is_field-7.false;
  antenna_number = c.is_field-8.ensures.0 c.if-not-is_field-8.false;
  antenna_type = c.is_field-9.ensures.0 c.if-not-is_field-9.false;
  height = c.is_offset.ensures.0 c.if-not-is_offset.false;
  east = c.is_offset-2.ensures.0 c.if-not-is_offset-2.false;
  north = c.is_offset-3.ensures.0 c.if-not-is_offset-3.false;
})

use Rattle.std.proofs.Common.{arith, refl}
use Rattle.rtk_label.proofs.FieldLemmas.{field_at}
use Rattle.rtk_label.proofs.OffsetLemmas.{offset_at}
use Rattle.rtk_label.proofs.unlabelled.read_label.Goals as goal

pub returns : goal.returns
returns c = record {
  run_by = field_at 20 _ _ _ c.columns_at.ensures.value (c.columns_at.ensures.whole (omega arith)) c.read_field.ensures;
  marker_number = refl;
  observer = field_at 20 _ _ _ c.columns_at-2.ensures.value (c.columns_at-2.ensures.whole (omega arith)) c.read_field-2.ensures;
  agency = field_at 40 _ _ _ c.columns_at-3.ensures.value (c.columns_at-3.ensures.whole (omega arith)) c.read_field-3.ensures;
  receiver_number = field_at 20 _ _ _ c.columns_at-4.ensures.value (c.columns_at-4.ensures.whole (omega arith)) c.read_field-4.ensures;
  receiver_type = field_at 20 _ _ _ c.columns_at-5.ensures.value (c.columns_at-5.ensures.whole (omega arith)) c.read_field-5.ensures;
  receiver_version = field_at 20 _ _ _ c.columns_at-6.ensures.value (c.columns_at-6.ensures.whole (omega arith)) c.read_field-6.ensures;
  antenna_number = field_at 20 _ _ _ c.columns_at-7.ensures.value (c.columns_at-7.ensures.whole (omega arith)) c.read_field-7.ensures;
  antenna_type = field_at 20 _ _ _ c.columns_at-8.ensures.value (c.columns_at-8.ensures.whole (omega arith)) c.read_field-8.ensures;
  height = offset_at _ _ _ c.columns_at-9.ensures.value c.read_offset.ensures;
  east = offset_at _ _ _ c.columns_at-10.ensures.value c.read_offset-2.ensures;
  north = offset_at _ _ _ c.columns_at-11.ensures.value c.read_offset-3.ensures;
}

use Rattle.std.proofs.Common.{append_assoc}
use Rattle.rtk_plan.proofs.other_equipment.put_field.Goals as goal

pub returns : goal.returns
returns c = rw (c.in_ok-extend_from_slice-3.ensures.items, c.in_ok-extend_from_slice-2.ensures.items, c.in_ok-extend_from_slice.ensures.items) (simp append_assoc)

use Rattle.std.proofs.Common.{append_assoc}
use Rattle.rtk_plan.specs.OtherEquipment.{antenna_notes}
use Rattle.rtk_plan.proofs.other_equipment.put_antenna_notes.Goals as goal

pub returns : goal.returns
unfolding antenna_notes
returns c = rw (c.in_ok-put_field_notes-2.ensures, c.in_ok-put_field_notes.ensures) (simp append_assoc)

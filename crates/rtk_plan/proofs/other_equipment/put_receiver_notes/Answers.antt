use Rattle.std.proofs.Common.{append_assoc}
use Rattle.rtk_plan.specs.OtherEquipment.{receiver_notes}
use Rattle.rtk_plan.proofs.other_equipment.put_receiver_notes.Goals as goal

pub returns : goal.returns
unfolding receiver_notes
returns c = rw (c.in_ok-put_field_notes-3.ensures, c.in_ok-put_field_notes-2.ensures, c.in_ok-put_field_notes.ensures) (simp append_assoc)

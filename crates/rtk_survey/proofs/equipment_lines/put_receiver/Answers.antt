use Rattle.std.proofs.Common.{append_assoc}
use Rattle.rtk_survey.specs.EquipmentText.{receiver_lines}
use Rattle.rtk_survey.proofs.equipment_lines.put_receiver.Goals as goal

pub returns : goal.returns
unfolding receiver_lines
returns c = rw (c.in_ok-put_text_told-3.ensures, c.in_ok-put_text_told-2.ensures, c.in_ok-put_text_told.ensures) (simp append_assoc)

use Rattle.std.proofs.Common.{append_assoc}
use Rattle.rtk_survey.specs.EquipmentText.{antenna_lines}
use Rattle.rtk_survey.proofs.equipment_lines.put_antenna.Goals as goal

pub returns : goal.returns
unfolding antenna_lines
returns c = rw (c.in_ok-put_setup_told.ensures, c.in_ok-put_text_told-2.ensures, c.in_ok-put_text_told.ensures) (simp append_assoc)

use Rattle.rtk_frame.proofs.FinalLaw.{are_final, final_unique}
use Rattle.rtk_frame.proofs.laws.final_frames_of_a_text.Goals as goal

pub returns : goal.returns
returns c = record { are = are_final; only = final_unique }

use Rattle.rtk_frame.proofs.FirstFrame.{after_found}
use Rattle.rtk_frame.proofs.laws.final_frames_after_found.Goals as goal

pub returns : goal.returns
returns c = after_found

use Rattle.rtk_frame.proofs.FirstFrame.{final_after, first_final_payloads}
use Rattle.rtk_frame.proofs.laws.final_frames_after_the_first.Goals as goal

pub returns : goal.returns
returns c = record { placed = final_after; payloads = first_final_payloads }

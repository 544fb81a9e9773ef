use Rattle.rtk_frame.proofs.Pieces.{final_cut}
use Rattle.rtk_frame.proofs.FirstFrame.{final_payloads_cut}
use Rattle.rtk_frame.proofs.laws.final_frames_in_any_cut.Goals as goal

pub returns : goal.returns
returns c = record { placed = final_cut; payloads = final_payloads_cut }

use Rattle.rtk_frame.proofs.Pieces.{frames_cut}
use Rattle.rtk_frame.proofs.FirstFrame.{payloads_cut}
use Rattle.rtk_frame.proofs.laws.frames_in_any_cut.Goals as goal

pub returns : goal.returns
returns c = record { placed = frames_cut; payloads = payloads_cut }

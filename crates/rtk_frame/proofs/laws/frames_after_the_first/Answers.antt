use Rattle.rtk_frame.proofs.FirstFrame.{frames_after, first_payloads}
use Rattle.rtk_frame.proofs.laws.frames_after_the_first.Goals as goal

pub returns : goal.returns
returns c = record { placed = frames_after; payloads = first_payloads }

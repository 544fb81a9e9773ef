use Rattle.rtk_frame.proofs.Framed.{framed_is, framed_payload, framed_length}
use Rattle.rtk_frame.proofs.laws.frame_of_a_payload.Goals as goal

pub returns : goal.returns
returns c = record { is = framed_is; payload = framed_payload; length = framed_length }

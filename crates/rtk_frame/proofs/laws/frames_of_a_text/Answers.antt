use Rattle.rtk_frame.specs.Frames.{frames}
use Rattle.rtk_frame.proofs.FramesLaw.{frames_are, frames_unique}
use Rattle.rtk_frame.proofs.laws.frames_of_a_text.Goals as goal

pub returns : goal.returns
returns c = record { are = frames_are; only = λ b fs h. frames_unique b 0 fs (frames b) h (frames_are b) }

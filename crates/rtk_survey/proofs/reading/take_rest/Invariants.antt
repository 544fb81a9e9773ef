use Rattle.std.proofs.Common.{length}
use Rattle.rtk_frame.specs.Frames.{frames, payloads}
use Rattle.rtk_survey.proofs.FrameLemmas.{HoldsOn}
use Rattle.rtk_survey.proofs.reading.take_rest.Given as goal

-- with the frames of what is left all are held
abbrev pub invariant-frames : goal.invariant-frames
invariant-frames l = HoldsOn l.contents (payloads (frames l.scanner.pending)) l.fn.contents (payloads (frames l.fn.scanner.pending))

abbrev pub decreases-frames : goal.decreases-frames
decreases-frames l = length l.scanner.pending

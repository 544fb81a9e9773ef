use Rattle.std.proofs.Common.{◌≡◌, ◌≤◌, ◌+◌, ◌-◌, false, ◌++◌, length, drop}
use Rattle.rtk_frame.specs.Frames.{final_frames, payloads, pending}
use Rattle.rtk_survey.proofs.FrameLemmas.{HoldsOn}
use Rattle.rtk_survey.proofs.reading.take_piece.Given as goal

-- with the frames of what is left all are held
abbrev pub invariant-frames : goal.invariant-frames
invariant-frames l = record {
  within : l.at ≤ length l.piece;
  is_open : l.scanner.ended ≡ false;
  waiting : pending (l.fn.scanner.pending ++ l.piece) ≡ pending (l.scanner.pending ++ drop l.at l.piece);
  held : HoldsOn l.contents (payloads (final_frames (l.scanner.pending ++ drop l.at l.piece))) l.fn.contents (payloads (final_frames (l.fn.scanner.pending ++ l.piece)));
}

abbrev pub decreases-frames : goal.decreases-frames
decreases-frames l = length l.scanner.pending + (length l.piece - l.at)

use Rattle.std.proofs.Common.{◌≡◌, ◌≤◌, ◌+◌, ◌-◌, false, ◌++◌, map, length, drop}
use Rattle.rtk_frame.specs.Frames.{final_frames, pending, shifted}
use Rattle.rtk_survey.specs.FramePlaces.{place_after}
use Rattle.rtk_survey.proofs.frame_place.Looking.take_piece.Given as goal

-- the frame that is looked for is where it was, among the frames of what is left
abbrev pub invariant-frames : goal.invariant-frames
invariant-frames l = record {
  within : l.at ≤ length l.piece;
  is_open : l.scanner.ended ≡ false;
  fits : length l.scanner.pending ≤ l.self.fed;
  fed : l.self.fed ≡ l.fn.self.fed + l.at;
  waiting : pending (l.fn.scanner.pending ++ l.piece) ≡ pending (l.scanner.pending ++ drop l.at l.piece);
  count : l.self.before + length (final_frames (l.fn.scanner.pending ++ l.piece)) ≡ l.fn.self.before + length (final_frames (l.scanner.pending ++ drop l.at l.piece));
  place : place_after l.fn.self.before (map (shifted (l.fn.self.fed - length l.fn.scanner.pending)) (final_frames (l.fn.scanner.pending ++ l.piece)))
      ≡ place_after l.self.before (map (shifted (l.self.fed - length l.scanner.pending)) (final_frames (l.scanner.pending ++ drop l.at l.piece)));
}

abbrev pub decreases-frames : goal.decreases-frames
decreases-frames l = length l.scanner.pending + (length l.piece - l.at)

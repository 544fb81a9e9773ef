use Rattle.std.proofs.Common.{◌≡◌, ◌≤◌, ◌-◌, map, length}
use Rattle.rtk_frame.specs.Frames.{frames, shifted}
use Rattle.rtk_survey.specs.FramePlaces.{place_after}
use Rattle.rtk_survey.proofs.frame_place.Looking.take_rest.Given as goal

-- the frame that is looked for is where it was, among the frames of what is left
abbrev pub invariant-frames : goal.invariant-frames
invariant-frames l = record {
  fits : length l.scanner.pending ≤ l.self.fed;
  place : place_after l.fn.self.before (map (shifted (l.fn.self.fed - length l.fn.scanner.pending)) (frames l.fn.scanner.pending))
      ≡ place_after l.self.before (map (shifted (l.self.fed - length l.scanner.pending)) (frames l.scanner.pending));
}

abbrev pub decreases-frames : goal.decreases-frames
decreases-frames l = length l.scanner.pending

use Rattle.std.proofs.Common.{◌≡◌, ◌≤◌, ◌+◌, ◌-◌, ℕ, false, List, ◌++◌, length, drop}
use Rattle.rtk_frame.specs.Frames.{final_frames, payloads, pending}
use Rattle.rtk_convert.specs.Outcome.{KeepsWindow}
use Rattle.rtk_convert.specs.Steps.LinkFrames.{AddsFrames}
use Rattle.rtk_convert.specs.Writing.{written}
use Rattle.rtk_convert.proofs.link_state.LinkState.feed.Given as goal

-- some frames were taken, and the others stand in what is left
abbrev pub invariant-frames : goal.invariant-frames
invariant-frames g l = record {
  within : l.at ≤ length l.piece;
  is_open : l.self.scanner.ended ≡ false;
  going : l.conversion.stopped ≡ false;
  keeps : KeepsWindow l.fn.conversion l.conversion;
  out_same : g.O.Sink.failures l.out ≡ g.O.Sink.failures l.fn.out;
  log_same : g.L.Sink.failures l.log ≡ g.L.Sink.failures l.fn.log;
  waiting : pending (l.fn.self.scanner.pending ++ l.piece) ≡ pending (l.self.scanner.pending ++ drop l.at l.piece);
  taken : (done : List (List ℕ)) × (payloads (final_frames (l.fn.self.scanner.pending ++ l.piece)) ≡ done ++ payloads (final_frames (l.self.scanner.pending ++ drop l.at l.piece)))
      × AddsFrames l.fn.conversion l.number done l.conversion l.fn.self.newest l.self.newest (written (g.O.Sink.taken l.fn.out) (g.L.Sink.taken l.fn.log)) (written (g.O.Sink.taken l.out) (g.L.Sink.taken l.log));
}

abbrev pub decreases-frames : goal.decreases-frames
decreases-frames g l = length l.self.scanner.pending + (length l.piece - l.at)

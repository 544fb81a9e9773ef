use Rattle.std.proofs.Common.{◌≡◌, ◌≤◌, ◌-◌, length, take}
use Rattle.rtk_frame.specs.Stream.{with_more}
use Rattle.rtk_frame.proofs.stream.write_all.Given as goal

-- the bytes before `at` were taken, and no call failed
abbrev pub invariant-loop-at : goal.invariant-loop-at
invariant-loop-at g l = record {
  within : l.at ≤ length l.bytes;
  taken : g.W.Sink.taken l.sink ≡ with_more (g.W.Sink.taken l.fn.sink) (take l.at l.bytes);
  failures : g.W.Sink.failures l.sink ≡ g.W.Sink.failures l.fn.sink;
}

abbrev pub decreases-loop-at : goal.decreases-loop-at
decreases-loop-at g l = length l.bytes - l.at

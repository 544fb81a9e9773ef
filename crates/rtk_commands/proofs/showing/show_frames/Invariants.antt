use Rattle.std.proofs.Common.{◌≡◌, ◌-◌, ◌≤◌, length}
use Rattle.rtk_commands.specs.ShownBySet.{IsLineBy}
use Rattle.rtk_commands.proofs.ShownLemmas.{Progress}
use Rattle.rtk_commands.proofs.showing.show_frames.Given as goal

abbrev pub invariant-loop-found : goal.invariant-loop-found
invariant-loop-found g l = record {
  text : l.rest.text ≡ l.capture;
  within : l.rest.from ≤ length l.capture;
  few : l.count ≤ l.rest.from;
  shown : Progress (IsLineBy l.accepted) l.capture l.rest.from (g.W.Sink.taken l.fn.out) (g.W.Sink.taken l.out) l.lines.items l.count;
  failures : g.W.Sink.failures l.out ≡ g.W.Sink.failures l.fn.out;
}

abbrev pub decreases-loop-found : goal.decreases-loop-found
decreases-loop-found g l = length l.capture - l.rest.from

use Rattle.std.proofs.Common.{◌-◌, ◌≤◌}
use Rattle.std.specs.Io.KnownBytes.{Keeps}
use Rattle.rtk_commands.specs.Steps.Interrupts.{most_interruptions}
use Rattle.rtk_commands.proofs.resuming.ResumedWrite.flush.Given as goal

abbrev pub invariant-loop-error : goal.invariant-loop-error
invariant-loop-error g l = (l.interruptions ≤ most_interruptions) × Keeps (g.W.Write.contents l.fn.self.inner) (g.W.Write.contents l.self-inside.inner)

abbrev pub decreases-loop-error : goal.decreases-loop-error
decreases-loop-error g l = most_interruptions - l.interruptions

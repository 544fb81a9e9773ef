use Rattle.std.proofs.Common.{◌-◌, ◌≤◌}
use Rattle.std.specs.Io.KnownBytes.{Keeps}
use Rattle.rtk_commands.specs.Steps.Interrupts.{most_interruptions}
use Rattle.rtk_commands.proofs.resuming.ResumedWrite.write.Given as goal

abbrev pub invariant-loop-count : goal.invariant-loop-count
invariant-loop-count g l = (l.interruptions ≤ most_interruptions) × Keeps (g.W.Write.contents l.fn.self.inner) (g.W.Write.contents l.self-inside.inner)

abbrev pub decreases-loop-count : goal.decreases-loop-count
decreases-loop-count g l = most_interruptions - l.interruptions

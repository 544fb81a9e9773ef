use Rattle.std.proofs.Common.{◌≡◌, ◌-◌, ◌≤◌, length}
use Rattle.std.specs.Io.KnownBytes.{Keeps}
use Rattle.rtk_commands.specs.Steps.Interrupts.{most_interruptions}
use Rattle.rtk_commands.proofs.resuming.ResumedRead.read.Given as goal

abbrev pub invariant-loop-count : goal.invariant-loop-count
invariant-loop-count g l = (l.interruptions ≤ most_interruptions) × Keeps (g.R.Read.remaining l.fn.self.inner) (g.R.Read.remaining l.self-inside.inner) × (length l.buf ≡ length l.fn.buf)

abbrev pub decreases-loop-count : goal.decreases-loop-count
decreases-loop-count g l = most_interruptions - l.interruptions

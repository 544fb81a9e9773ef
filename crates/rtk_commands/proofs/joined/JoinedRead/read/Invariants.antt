use Rattle.std.proofs.Common.{◌≡◌, ◌-◌, length}
use Rattle.std.specs.Io.KnownBytes.{Keeps}
use Rattle.rtk_commands.specs.Joined.{joined_remaining}
use Rattle.rtk_commands.proofs.joined.JoinedRead.read.Given as goal

-- the parts before the one that is read have nothing left
abbrev pub invariant-loop-self : goal.invariant-loop-self
invariant-loop-self g l = record {
  left : Keeps (joined_remaining g.R.Read.remaining l.fn.self) (joined_remaining g.R.Read.remaining l.self);
  room : length l.buf ≡ length l.fn.buf;
}

abbrev pub decreases-loop-self : goal.decreases-loop-self
decreases-loop-self g l = length l.self.parts.items - l.self.at

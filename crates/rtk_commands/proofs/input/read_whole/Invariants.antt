use Rattle.std.proofs.Common.{◌≡◌, ◌+◌, ◌-◌, ◌≤◌, length}
use Rattle.rtk_frame.specs.Stream.{with_more}
use Rattle.rtk_commands.proofs.input.read_whole.Given as goal

abbrev pub invariant-loop-piece : goal.invariant-loop-piece
invariant-loop-piece g l = record {
  within : length l.bytes.items ≤ l.limit + 1;
  given : g.R.Source.given l.reader ≡ with_more (g.R.Source.given l.fn.reader) l.bytes.items;
  failures : g.R.Source.failures l.reader ≡ g.R.Source.failures l.fn.reader;
}

abbrev pub decreases-loop-piece : goal.decreases-loop-piece
decreases-loop-piece g l = l.limit + 1 - length l.bytes.items

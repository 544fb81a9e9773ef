use Rattle.std.proofs.Common.{◌≡◌, length}
use Rattle.rtk_commands.proofs.links.open_links.Given as goal

abbrev pub invariant-loop-name : goal.invariant-loop-name
invariant-loop-name g l = length l.links.items ≡ l.name-index

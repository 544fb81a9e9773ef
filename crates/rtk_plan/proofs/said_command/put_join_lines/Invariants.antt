use Rattle.std.proofs.Common.{◌≡◌, ◌+◌, ◌++◌, drop}
use Rattle.rtk_plan.specs.SaidCommand.{join_lines}
use Rattle.rtk_plan.proofs.said_command.put_join_lines.Given as goal

-- the text so far and that of the links that are left are the text of all
abbrev pub invariant-loop-link : goal.invariant-loop-link
invariant-loop-link l = record {
  text : l.line.items ++ join_lines l.number (drop l.link-index l.links) ≡ l.fn.line.items ++ join_lines 1 l.links;
  number : l.number ≡ l.link-index + 1;
}

use Rattle.std.proofs.Common.{◌≡◌, ◌++◌, ◌+◌, ◌-◌}
use Rattle.rtk_systems.specs.MessageLines.{unread_lines_from}
use Rattle.rtk_systems.proofs.message_lines.put_numbered.Given as goal

-- the lines so far and those of the numbers that are left are all
abbrev pub invariant-loop-at : goal.invariant-loop-at
invariant-loop-at l =
    l.lines.items ++ unread_lines_from l.words l.taken l.surveys (l.first + l.at) (l.count - l.at) ≡ l.fn.lines.items ++ unread_lines_from l.words l.taken l.surveys l.first l.count

use Rattle.std.proofs.Common.{◌≡◌, ◌++◌}
use Rattle.std.specs.Prelude.{flat_map}
use Rattle.std.specs.List.{range_with_len}
use Rattle.rtk_systems.specs.MessageLines.{held_line}
use Rattle.rtk_systems.proofs.message_lines.put_held.Given as goal

abbrev pub invariant-loop-number : goal.invariant-loop-number
invariant-loop-number l = l.lines.items ≡ l.fn.lines.items ++ flat_map (held_line l.surveys) (range_with_len 0 l.number)

use Rattle.std.proofs.Common.{◌≡◌, ◌++◌, take}
use Rattle.std.specs.Prelude.{flat_map}
use Rattle.rtk_plan.specs.KnownLines.{other_date_line}
use Rattle.rtk_plan.proofs.capture_lines.put_those_of.Given as goal

abbrev pub invariant-loop-told : goal.invariant-loop-told
invariant-loop-told l = l.lines.items ≡ l.fn.lines.items ++ flat_map (other_date_line l.near l.span l.name) (take l.told-index l.dates)

use Rattle.std.proofs.Common.{◌≡◌, ◌++◌, take}
use Rattle.std.specs.Prelude.{flat_map}
use Rattle.rtk_plan.specs.KnownLines.{few_phases_line}
use Rattle.rtk_plan.proofs.phase_lines.put_few_phases.Given as goal

abbrev pub invariant-loop-code : goal.invariant-loop-code
invariant-loop-code l = l.lines.items ≡ l.fn.lines.items ++ flat_map (few_phases_line l.surveys l.station l.taken) (take l.code-index l.codes)

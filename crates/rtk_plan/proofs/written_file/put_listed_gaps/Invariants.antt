use Rattle.std.proofs.Common.{◌≡◌, ◌++◌, take}
use Rattle.std.specs.Prelude.{flat_map}
use Rattle.rtk_plan.specs.WrittenFile.{written_gap_line_if}
use Rattle.rtk_plan.proofs.written_file.put_listed_gaps.Given as goal

abbrev pub invariant-loop-step : goal.invariant-loop-step
invariant-loop-step l = l.lines.items ≡ l.fn.lines.items ++ flat_map (written_gap_line_if l.greatest) (take l.step-index l.longest)

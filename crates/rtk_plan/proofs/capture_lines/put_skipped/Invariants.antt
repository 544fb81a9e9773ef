use Rattle.std.proofs.Common.{◌≡◌, ◌++◌, take}
use Rattle.std.specs.Prelude.{flat_map}
use Rattle.rtk_plan.specs.KnownLines.{skipped_line}
use Rattle.rtk_plan.proofs.capture_lines.put_skipped.Given as goal

abbrev pub invariant-loop-place : goal.invariant-loop-place
invariant-loop-place l = l.lines.items ≡ l.fn.lines.items ++ flat_map (skipped_line l.captures.names.now l.told) (take l.place-index l.places)

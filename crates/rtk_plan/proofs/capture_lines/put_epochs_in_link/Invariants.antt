use Rattle.std.proofs.Common.{◌≡◌, ◌++◌, take}
use Rattle.std.specs.Prelude.{flat_map}
use Rattle.rtk_plan.specs.KnownLines.{epochs_line_at}
use Rattle.rtk_plan.proofs.capture_lines.put_epochs_in_link.Given as goal

abbrev pub invariant-loop-place : goal.invariant-loop-place
invariant-loop-place l = l.lines.items ≡ l.fn.lines.items ++ flat_map (epochs_line_at l.captures.names.now l.told) (take l.place-index l.link)

use Rattle.std.proofs.Common.{◌≡◌, ◌++◌, take}
use Rattle.std.specs.Prelude.{flat_map}
use Rattle.rtk_captures.specs.CaptureNames.{capture_name}
use Rattle.rtk_captures.specs.Lists.{stray_line}
use Rattle.rtk_plan.proofs.capture_lines.put_strays.Given as goal

abbrev pub invariant-loop-place : goal.invariant-loop-place
invariant-loop-place l = l.lines.items ≡ l.fn.lines.items ++ flat_map (λ place. stray_line l.epoch (capture_name l.captures.names.now place)) (take l.place-index l.places)

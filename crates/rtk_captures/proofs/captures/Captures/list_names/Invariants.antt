use Rattle.std.proofs.Common.{◌≡◌, take}
use Rattle.std.specs.Prelude.{codes, flat_map}
use Rattle.rtk_captures.specs.CaptureNames.{capture_name}
use Rattle.rtk_captures.specs.Lists.{name_line}
use Rattle.rtk_captures.proofs.captures.Captures.list_names.Given as goal

abbrev pub invariant-loop-place : goal.invariant-loop-place
invariant-loop-place l =
    l.lines.items ≡ flat_map (λ place. name_line (codes " ") (capture_name l.self.names.now place)) (take l.place-index l.places)

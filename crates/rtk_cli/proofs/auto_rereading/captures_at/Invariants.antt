use Rattle.std.proofs.Common.{◌≡◌, map, take}
use Rattle.rtk_captures.specs.CaptureNames.{capture_name}
use Rattle.rtk_cli.specs.Said.{read_names}
use Rattle.rtk_cli.proofs.auto_rereading.captures_at.Given as goal

abbrev pub invariant-loop-place : goal.invariant-loop-place
invariant-loop-place l = read_names l.captures.items ≡ map (capture_name l.names) (take l.place-index l.places)

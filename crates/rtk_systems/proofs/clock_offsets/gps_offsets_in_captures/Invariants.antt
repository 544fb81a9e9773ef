use Rattle.std.proofs.Common.{◌≡◌, take}
use Rattle.std.specs.Prelude.{flat_map}
use Rattle.rtk_systems.specs.ClockOffsets.{gps_offsets_in_capture}
use Rattle.rtk_systems.proofs.clock_offsets.gps_offsets_in_captures.Given as goal

abbrev pub invariant-loop-survey : goal.invariant-loop-survey
invariant-loop-survey l = l.list.items ≡ flat_map (gps_offsets_in_capture l.seconds l.station l.system) (take l.survey-index l.surveys)

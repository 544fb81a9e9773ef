use Rattle.std.proofs.Common.{◌≡◌, map, take}
use Rattle.rtk_captures.specs.StationCaptures.{capture_of}
use Rattle.rtk_captures.proofs.station_capture.captures_of.Given as goal

abbrev pub invariant-loop-survey : goal.invariant-loop-survey
invariant-loop-survey l = l.all.items ≡ map (capture_of l.station) (take l.survey-index l.surveys)

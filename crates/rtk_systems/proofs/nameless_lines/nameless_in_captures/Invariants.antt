use Rattle.std.proofs.Common.{◌≡◌, take}
use Rattle.std.specs.List.{sum_by}
use Rattle.rtk_survey.specs.Counting.{shown_count}
use Rattle.rtk_survey.specs.Contents.{station_in}
use Rattle.rtk_systems.specs.NamelessLines.{nameless_of_station}
use Rattle.rtk_systems.proofs.nameless_lines.nameless_in_captures.Given as goal

abbrev pub invariant-loop-survey : goal.invariant-loop-survey
invariant-loop-survey l = l.count ≡ shown_count (sum_by (λ s. nameless_of_station l.system l.has_gps l.taken (station_in l.station s)) (take l.survey-index l.surveys))

use Rattle.std.proofs.Common.{◌≡◌, take, true}
use Rattle.std.specs.List.{list_all}
use Rattle.rtk_systems.specs.FoundSeconds.{is_ahead_in_capture}
use Rattle.rtk_systems.proofs.found_seconds.are_all_ahead.Given as goal

abbrev pub invariant-loop-survey : goal.invariant-loop-survey
invariant-loop-survey l = list_all (is_ahead_in_capture l.station l.days l.ahead) (take l.survey-index l.surveys) ≡ true

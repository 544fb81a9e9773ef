use Rattle.std.proofs.Common.{◌≡◌, None, drop}
use Rattle.rtk_survey.specs.CaptureDates.{earliest_after}
use Rattle.rtk_survey.proofs.capture_dates.earliest_telling.Given as goal

abbrev pub invariant-loop-told : goal.invariant-loop-told
invariant-loop-told l = earliest_after l.earliest (drop l.told-index l.named) ≡ earliest_after None l.named

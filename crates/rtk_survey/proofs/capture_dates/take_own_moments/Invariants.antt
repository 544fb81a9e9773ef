use Rattle.std.proofs.Common.{◌≡◌, drop}
use Rattle.rtk_survey.specs.CaptureDates.{with_own_moments}
use Rattle.rtk_survey.proofs.capture_dates.take_own_moments.Given as goal

abbrev pub invariant-loop-message : goal.invariant-loop-message
invariant-loop-message l =
    with_own_moments l.now l.station (drop l.message-index l.messages) l.named ≡ with_own_moments l.now l.station l.messages l.fn.named

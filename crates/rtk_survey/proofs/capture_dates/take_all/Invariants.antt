use Rattle.std.proofs.Common.{◌≡◌, drop}
use Rattle.rtk_survey.specs.CaptureDates.{with_tellings}
use Rattle.rtk_survey.proofs.capture_dates.take_all.Given as goal

abbrev pub invariant-loop-message : goal.invariant-loop-message
invariant-loop-message l =
    with_tellings l.now l.station l.span (drop l.message-index l.messages) l.told ≡ with_tellings l.now l.station l.span l.messages l.fn.told

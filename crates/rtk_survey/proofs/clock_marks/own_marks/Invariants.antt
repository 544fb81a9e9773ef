use Rattle.std.proofs.Common.{◌≡◌, None, drop}
use Rattle.rtk_survey.specs.ClockMarks.{marks_after}
use Rattle.rtk_survey.proofs.clock_marks.own_marks.Given as goal

abbrev pub invariant-loop-message : goal.invariant-loop-message
invariant-loop-message l = marks_after l.now l.station l.marks (drop l.message-index l.messages) ≡ marks_after l.now l.station None l.messages

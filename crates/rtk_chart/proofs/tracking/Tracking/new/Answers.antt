use Rattle.std.proofs.Common.{false, replicate, ap}
use Rattle.rtk_chart.specs.declared.code_marks.CodeMarks.{CodeMarks}
use Rattle.rtk_chart.specs.declared.tracking.Tracking.{Tracking}
use Rattle.rtk_chart.proofs.tracking.Tracking.new.Goals as goal

-- the same code 16 times
abbrev all_alike : CodeMarks → Tracking
all_alike marks = record { codes = replicate 16 marks; seen = false }

pub returns : goal.returns
returns c = ap all_alike c.new.ensures

use Rattle.rtk_tracking.proofs.AbsenceLemmas.{changes-less, keeps-verdicts, clock-changes-none}
use Rattle.rtk_tracking.proofs.laws.absences_stay.Goals as goal

pub returns : goal.returns
returns c = record { less = changes-less; verdicts = keeps-verdicts; clocks = clock-changes-none }

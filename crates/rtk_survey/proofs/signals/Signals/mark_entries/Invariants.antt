use Rattle.std.proofs.Common.{List, ◌++◌, take}
use Rattle.rtk_obs.specs.declared.cell.CellEntry.{CellEntry}
use Rattle.rtk_survey.specs.Contents.{HasSignals}
use Rattle.rtk_survey.proofs.signals.Signals.mark_entries.Given as goal

abbrev pub invariant-loop-entry : goal.invariant-loop-entry
invariant-loop-entry l = (es : List CellEntry) → HasSignals l.fn.self es → HasSignals l.self (take l.entry-index l.entries ++ es)

use Rattle.std.proofs.Common.{List, ◌++◌, take}
use Rattle.rtk_obs.specs.declared.signal_cells.SignalEntry.{SignalEntry}
use Rattle.rtk_survey.specs.Contents.{HasSystemSignals}
use Rattle.rtk_survey.proofs.system_signals.SystemSignals.mark_entries.Given as goal

abbrev pub invariant-loop-entry : goal.invariant-loop-entry
invariant-loop-entry l = (es : List SignalEntry) → HasSystemSignals l.fn.self es → HasSystemSignals l.self (take l.entry-index l.entries ++ es)

use Rattle.std.proofs.Common.{List, ◌++◌, take}
use Rattle.rtk_obs.specs.declared.signal_cells.SignalEntry.{SignalEntry}
use Rattle.rtk_survey.specs.SystemPhases.{CountsSignalPlaces}
use Rattle.rtk_survey.proofs.system_phases.take_entries.Given as goal

abbrev pub invariant-loop-entry : goal.invariant-loop-entry
invariant-loop-entry l = (es : List SignalEntry) → CountsSignalPlaces l.fn.table.items es → CountsSignalPlaces l.table.items (take l.entry-index l.entries ++ es)

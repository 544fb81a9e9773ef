use Rattle.std.proofs.Common.{List, ◌++◌, take}
use Rattle.rtk_obs.specs.declared.cell.CellEntry.{CellEntry}
use Rattle.rtk_survey.specs.Phases.{CountsPlaces}
use Rattle.rtk_survey.proofs.phases.take_entries.Given as goal

abbrev pub invariant-loop-entry : goal.invariant-loop-entry
invariant-loop-entry l = (es : List CellEntry) → CountsPlaces l.fn.table.items es → CountsPlaces l.table.items (take l.entry-index l.entries ++ es)

use Rattle.std.proofs.Common.{◌||◌, List, subst, ◌∙◌, ap}
use Rattle.std.specs.List.{list_any}
use Rattle.rtk_rinex.specs.declared.epoch_table.SatelliteRow.{SatelliteRow}
use Rattle.rtk_rinex.specs.Record.{EpochTableView}
use Rattle.rtk_cut.specs.Steps.Pending.{mark_of, MarksBecome, row_has_slip}
use Rattle.rtk_cut.proofs.PendingLemmas.{noted}
use Rattle.rtk_cut.proofs.gps_file.GpsFileEpochFile.note.Goals as goal

pub returns-clause-slips : goal.returns-clause-slips
returns-clause-slips c = λ e is step earlier off stands.
    let marks = c.args.self.now.marks in
    noted marks c.note_rows.new.marks step earlier e off stands c.note_rows.ensures.size
    (subst (λ (xs : List SatelliteRow). MarksBecome c.note_rows.new.marks (λ s code. list_any (row_has_slip s code) xs || mark_of marks s code))
    (c.rows.ensures.value ∙ ap (λ (x : EpochTableView). x.rows) (c.deref.ensures ∙ is.0)) c.note_rows.ensures.marks)

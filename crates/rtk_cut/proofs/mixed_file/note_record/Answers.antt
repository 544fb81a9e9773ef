use Rattle.std.proofs.Common.{ℕ, refl, sym, subst, ◌∙◌}
use Rattle.rtk_rinex.specs.declared.epoch_table.SatelliteRow.{SatelliteRow}
use Rattle.rtk_rinex.specs.MixedRecords.{MixedRowsView, AreRowsLeft, IsNextRowOf}
use Rattle.rtk_cut.proofs.MixedFileLemmas.{noted-none, noted-more, noted-all}
use Rattle.rtk_cut.proofs.mixed_file.note_record.Goals as goal

pub loop-satellite-init : goal.loop-satellite-init
loop-satellite-init c = record {
  size = refl;
  so_far = λ e is. noted-none c.args.marks.now e.rows c.again-rows.result (subst (λ (r : MixedRowsView). AreRowsLeft r e.rows) (sym c.again-rows.ensures.value) is.0.rows);
}

pub loop-satellite-preserved : goal.loop-satellite-preserved
loop-satellite-preserved c =
    let l = c.loop-satellite in
    let row : SatelliteRow = record { satellite = c.index.result; observed = c.next_row.new.observed } in
    record {
      size = c.note_row.ensures.size ∙ l.invariant.size;
      so_far = λ e is.
          noted-more c.args.marks.now l.marks c.note_row.new.marks e.rows l.rows c.next_row.new.self row (l.invariant.so_far e is)
          (λ xs left. subst (λ (k : ℕ). IsNextRowOf xs (record { satellite = k; observed = c.next_row.new.observed }) c.next_row.new.self) (sym c.index.ensures.value) (c.in-Some.ensures.next xs left))
          c.note_row.ensures.size c.note_row.ensures.marks;
    }

pub returns-clause-marks : goal.returns-clause-marks
returns-clause-marks c = λ e is.
    noted-all c.args.marks.now c.loop-satellite.marks e.rows c.loop-satellite.rows (c.loop-satellite.invariant.so_far e is) c.in_default.ensures.next

use Rattle.std.proofs.Common.{rules, ◌≡◌, ◌&&◌, not, ltb, Bool, List, length, map, sym, ap, subst, ◌∙◌}
use Rattle.std.specs.List.{list_any}
use Rattle.rtk_rinex.specs.declared.epoch_table.SatelliteRow.{SatelliteRow}
use Rattle.rtk_rinex.specs.Record.{EpochTableView, IsEpochTableView, HasWidth}
use Rattle.rtk_cut.specs.Steps.Pending.{mark_of, MarksBecome, row_has_phase, row_with_marks}
use Rattle.rtk_cut.proofs.GpsFileLemmas.{IsMade, gps-have_marks, made-width, made-shown, made-same, made-clears}
use Rattle.rtk_cut.proofs.gps_file.GpsFileEpochFile.show.Goals as goal

-- what was made of the epoch
made : (c : goal.After-self-2-1) → IsMade (length c.codes-code_count.result.now) (length c.args.self.now.heading.head.listed) c.args.self.now.marks c.show_in_rows.new.marks c.args.self.now.epoch.value c.show_in_rows.new.shown c.show_in_rows.result
made c =
    let f = c.args.self.now in
    let epoch : EpochTableView = f.epoch.value in
    let marks : List Bool = f.marks in
    let rows : c.rows.result.now ≡ epoch.rows = c.rows.ensures.value ∙ ap (λ (x : EpochTableView). x.rows) c.deref-2.ensures in
    let size : length marks ≡ 528 = search rules in
    record {
      wide = ap (λ xs. length xs) c.codes-code_count.ensures.value;
      few = c.codes-code_count.ensures.good.0.1;
      has = gps-have_marks marks epoch.rows size (subst (λ (x : EpochTableView). IsEpochTableView x) c.deref-2.ensures c.rows.ensures.good).rows;
      size = c.show_in_rows.ensures.size;
      time = c.show_in_rows.ensures.time ∙ ap (λ (x : EpochTableView). x.time) c.deref_mut-2.ensures.value ∙ ap (λ (x : EpochTableView). x.time) c.restart.ensures ∙ c.time.ensures ∙ ap (λ (x : EpochTableView). x.time) c.deref.ensures;
      rows = c.show_in_rows.ensures.rows ∙ ap (λ xs. map (row_with_marks marks (length c.codes-code_count.result.now)) xs) rows;
      marked = subst (λ (xs : List SatelliteRow). MarksBecome c.show_in_rows.new.marks (λ s code. not (list_any (row_has_phase s code) xs && ltb code (length c.codes-code_count.result.now)) && mark_of marks s code)) rows c.show_in_rows.ensures.marks;
      same = λ unchanged wide. c.show_in_rows.ensures.same unchanged (subst (λ (xs : List SatelliteRow). HasWidth (length c.codes-code_count.result.now) xs) (sym rows) wide) ∙ rows;
    }

pub returns-clause-slips : goal.returns-clause-slips
returns-clause-slips c = λ e is. made-clears _ _ _ _ _ _ _ c.args._read.now.now e (made c) is

pub returns-clause-shown : goal.returns-clause-shown
returns-clause-shown c = λ e is step earlier stands. made-shown _ _ _ _ _ _ _ c.args._read.now.now e (made c) is step earlier stands

pub returns-clause-same : goal.returns-clause-same
returns-clause-same c = λ unchanged e is step earlier stands. made-same _ _ _ _ _ _ _ c.args._read.now.now e (made c) unchanged is step earlier stands

pub returns-clause-has_shown : goal.returns-clause-has_shown
returns-clause-has_shown c = made-width _ _ _ _ _ _ _ (made c)

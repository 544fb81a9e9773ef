use Rattle.std.proofs.Common.{◌≡◌, ◌<◌, ◌++◌, ◌&&◌, not, ltb, ℕ, Bool, List, [], ◌∷◌, length, map, get_or, take, sym, ap, subst, ◌∙◌, arith}
use Rattle.std.proofs.lemmas.Bool.{both_ways}
use Rattle.rtk_rinex.specs.declared.epoch_table.Observed.{Observed}
use Rattle.rtk_rinex.specs.declared.epoch_table.SatelliteRow.{SatelliteRow}
use Rattle.rtk_rinex.specs.Record.{EpochTableView, IsSatelliteRow}
use Rattle.rtk_cut.specs.Steps.Pending.{mark_of, HasMarks, row_has_phase, codes_with_marks, row_with_marks}
use Rattle.rtk_cut.proofs.MarkLemmas.{marks-good, rows-cleared, map-more, mapped-below, row-made, row-kept, rows-kept}
use Rattle.rtk_cut.proofs.slips.show_in_rows.Goals as goal
use Rattle.rtk_cut.proofs.slips.show_in_rows.Goals.{then-is_changed, else-is_changed}

pub push_row-requires-clause-good : goal.push_row-requires-clause-good
push_row-requires-clause-good c =
    let r = c.row-item.result in
    let rows = c.args.rows.now in
    let k = c.loop-row.row-index in
    let good : IsSatelliteRow r = subst (λ (x : SatelliteRow). IsSatelliteRow x) (sym c.row-item.is) (c.requires.good k r c.loop-row-test.true) in
    subst (λ (xs : List Observed). IsSatelliteRow (record { satellite = r.satellite; observed = record { items = xs } }))
    (sym (c.show_in_row-is_row_changed.ensures.shown)) (marks-good c.loop-row.marks (length c.loop-row.observed) r good)

pub push_row-requires-clause-later : goal.push_row-requires-clause-later
push_row-requires-clause-later c =
    let r = c.row-item.result in
    mapped-below c.args.marks.now c.args.code_count c.args.rows.now c.loop-row.row-index r c.loop-row.shown.rows c.requires.rise c.loop-row-test.true c.row-item.is c.loop-row.invariant.rows

pub loop-row-preserved : goal.loop-row-preserved
loop-row-preserved c =
    let r : SatelliteRow = c.row-item.result in
    let rows : List SatelliteRow = c.args.rows.now in
    let k : ℕ = c.loop-row.row-index in
    let i = c.loop-row.invariant in
    let marks : List Bool = c.args.marks.now in
    let lt : k < length rows = c.loop-row-test.true in
    let is : r ≡ get_or rows k r = c.row-item.is in
    let row : SatelliteRow = record { satellite = r.satellite; observed = record { items = c.show_in_row-is_row_changed.new.shown } } in
    let has : HasMarks c.loop-row.marks r.satellite =
    subst (λ (x : SatelliteRow). HasMarks c.loop-row.marks x.satellite) (sym is) (let wide = c.requires.satellites k r lt in let size = i.size in omega (arith, wide, size)) in
    let here : row ≡ row_with_marks marks c.args.code_count (get_or rows k r) =
    row-made c.args.marks.now c.loop-row.marks c.args.code_count rows k r c.show_in_row-is_row_changed.new.shown c.requires.few_codes c.requires.rise lt has is i.marks
    (c.show_in_row-is_row_changed.ensures.shown ∙ ap (λ (n : ℕ). codes_with_marks c.loop-row.marks n r) i.width) in
    let pushed : c.push_row.new.self.rows ≡ c.loop-row.shown.rows ++ row ∷ [] = ap (λ (e : EpochTableView). e.rows) c.push_row.ensures in
    record {
      size = c.show_in_row-is_row_changed.ensures.size ∙ i.size;
      width = c.show_in_row-is_row_changed.auto.shown ∙ i.width;
      time = ap (λ (e : EpochTableView). e.time) c.push_row.ensures ∙ i.time;
      rows = pushed ∙ ap (λ xs. xs ++ row ∷ []) i.rows ∙ ap (λ x. map (row_with_marks marks c.args.code_count) (take k rows) ++ x ∷ []) here
          ∙ sym (map-more (row_with_marks marks c.args.code_count) rows k r lt);
      marks = rows-cleared c.args.code_count rows k r marks c.loop-row.marks c.show_in_row-is_row_changed.new.marks lt c.show_in_row-is_row_changed.ensures.size i.marks (λ s code satellite within.
          c.show_in_row-is_row_changed.ensures.marks s code satellite within
          ∙ ap (λ (x : SatelliteRow). not (row_has_phase s code x && ltb code (length c.loop-row.observed)) && mark_of c.loop-row.marks s code) is
          ∙ ap (λ (n : ℕ). not (row_has_phase s code (get_or rows k r) && ltb code n) && mark_of c.loop-row.marks s code) i.width);
      same = λ unchanged wide.
          let long : length c.show_in_row-is_row_changed.new.shown ≡ c.args.code_count = c.show_in_row-is_row_changed.auto.shown ∙ i.width in
          let own : length r.observed.items ≡ c.args.code_count = ap (λ (x : SatelliteRow). length x.observed.items) is ∙ wide k r lt in
          elim c.if-is_changed.branch [
            | then-is_changed w ↦ absurd (both_ways c.if-is_changed.is_changed unchanged (w.is_changed-is ∙ w.if-is_changed.true))
            | else-is_changed w ↦
                rows-kept rows k r row c.loop-row.shown.rows c.push_row.new.self.rows lt is (i.same w.if-is_changed.false wide) pushed
                (row-kept c.args.code_count r c.show_in_row-is_row_changed.new.shown long own
                (λ code within. c.show_in_row-is_row_changed.ensures.same (sym w.is_changed-is ∙ unchanged) code (omega (arith, within, i.width))))
          ];
    }

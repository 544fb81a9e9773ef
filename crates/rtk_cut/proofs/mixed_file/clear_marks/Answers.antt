use Rattle.std.proofs.Common.{◌≡◌, ◌≤◌, ℕ, length, take, drop, length-append, length-drop, refl, sym, subst, ◌∙◌, arith}
use Rattle.std.proofs.lemmas.List.{length-take-le}
use Rattle.rtk_rinex.specs.declared.epoch_table.SatelliteRow.{SatelliteRow}
use Rattle.rtk_rinex.specs.MixedRecords.{MixedRowsView, AreRowsLeft, IsNextRowOf}
use Rattle.rtk_cut.specs.Steps.Pending.{HasMarks}
use Rattle.rtk_cut.proofs.MixedFileLemmas.{cleared-none, cleared-more, cleared-all, own-cleared}
use Rattle.rtk_cut.proofs.mixed_file.clear_marks.Goals as goal

pub loop-satellite-init : goal.loop-satellite-init
loop-satellite-init c = record {
  size = refl;
  room = refl;
  so_far = λ e is. cleared-none c.args.marks.now e.rows c.again-rows.result (subst (λ (r : MixedRowsView). AreRowsLeft r e.rows) (sym c.again-rows.ensures.value) is.0.rows);
}

pub loop-satellite-preserved : goal.loop-satellite-preserved
loop-satellite-preserved c =
    let l = c.loop-satellite in
    let i = l.invariant in
    let s = c.show_in_row-is_row_changed in
    let n : ℕ = c.len.result in
    let row : SatelliteRow = record { satellite = c.index.result; observed = c.next_row.new.observed } in
    let few : n ≤ 16 = c.len.ensures.fits in
    let room : length l.shown ≡ 16 = i.room in
    let wide : length (take n l.shown) ≡ n = length-take-le n l.shown (omega (arith, few, room)) in
    let has : HasMarks l.marks row.satellite = (let bound = c.index.ensures.bound.1 in let size = i.size in let all = c.requires in omega (arith, bound, size, all)) in
    record {
      size = s.ensures.size ∙ i.size;
      room = (let a = length-append s.new.shown (drop n l.shown) in let b = length-drop n l.shown in let long = s.auto.shown in omega (arith, a, b, long, wide, few, room));
      so_far = λ e is.
          cleared-more c.args.marks.now l.marks s.new.marks l.is_changed s.result e.rows l.rows c.next_row.new.self row (length (take n l.shown)) s.new.shown is.1.1.rise (i.so_far e is)
          (λ xs left. subst (λ (k : ℕ). IsNextRowOf xs (record { satellite = k; observed = c.next_row.new.observed }) c.next_row.new.self) (sym c.index.ensures.value) (c.in-Some.ensures.next xs left))
          (record {
            wide = wide ∙ c.len.ensures.value;
            few = omega (arith, wide, few);
            has = has;
            size = s.ensures.size;
            shown_is = s.ensures.shown;
            long = s.auto.shown;
            cleared = s.ensures.marks;
            same = s.ensures.same;
          });
    }

pub returns-clause-marks : goal.returns-clause-marks
returns-clause-marks c = λ e is.
    let l = c.loop-satellite in
    (cleared-all c.args.marks.now l.marks l.is_changed e.rows l.rows (l.invariant.so_far e is) c.in_default.ensures.next).1

pub returns-clause-same : goal.returns-clause-same
returns-clause-same c = λ unchanged e is.
    let l = c.loop-satellite in
    own-cleared c.args.marks.now e ((cleared-all c.args.marks.now l.marks l.is_changed e.rows l.rows (l.invariant.so_far e is) c.in_default.ensures.next).2 unchanged)

pub returns-clause-few : goal.returns-clause-few
returns-clause-few c = λ e is.
    let l = c.loop-satellite in
    (cleared-all c.args.marks.now l.marks l.is_changed e.rows l.rows (l.invariant.so_far e is) c.in_default.ensures.next).0

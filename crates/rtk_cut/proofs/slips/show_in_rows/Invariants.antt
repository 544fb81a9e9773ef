use Rattle.std.proofs.Common.{◌≡◌, false, not, ◌&&◌, ltb, length, map, take}
use Rattle.std.specs.List.{list_any}
use Rattle.rtk_rinex.specs.Record.{HasWidth}
use Rattle.rtk_cut.specs.Steps.Pending.{mark_of, MarksBecome, row_has_phase, row_with_marks}
use Rattle.rtk_cut.proofs.slips.show_in_rows.Given as goal

abbrev pub invariant-loop-row : goal.invariant-loop-row
invariant-loop-row l = record {
  size : length l.marks ≡ length l.fn.marks;
  width : length l.observed ≡ l.code_count;
  time : l.shown.time ≡ l.fn.shown.time;
  rows : l.shown.rows ≡ map (row_with_marks l.fn.marks l.code_count) (take l.row-index l.rows);
  marks : MarksBecome l.marks (λ s c. not (list_any (row_has_phase s c) (take l.row-index l.rows) && ltb c l.code_count) && mark_of l.fn.marks s c);
  same : l.is_changed ≡ false → HasWidth l.code_count l.rows → l.shown.rows ≡ take l.row-index l.rows;
}

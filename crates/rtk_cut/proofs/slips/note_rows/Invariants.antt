use Rattle.std.proofs.Common.{◌≡◌, ◌||◌, length, take}
use Rattle.std.specs.List.{list_any}
use Rattle.rtk_cut.specs.Steps.Pending.{mark_of, MarksBecome, row_has_slip}
use Rattle.rtk_cut.proofs.slips.note_rows.Given as goal

abbrev pub invariant-loop-row : goal.invariant-loop-row
invariant-loop-row l = record {
  size : length l.marks ≡ length l.fn.marks;
  marks : MarksBecome l.marks (λ s c. list_any (row_has_slip s c) (take l.row-index l.rows) || mark_of l.fn.marks s c);
}

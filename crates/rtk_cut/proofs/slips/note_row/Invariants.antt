use Rattle.std.proofs.Common.{◌≡◌, ◌&&◌, ◌||◌, eqb, ltb, length}
use Rattle.rtk_cut.specs.Cut.{code_at}
use Rattle.rtk_cut.specs.Steps.Pending.{mark_of, MarksBecome}
use Rattle.rtk_cut.proofs.slips.note_row.Given as goal

abbrev pub invariant-loop-code : goal.invariant-loop-code
invariant-loop-code l = record {
  size : length l.marks ≡ length l.fn.marks;
  marks : MarksBecome l.marks (λ s c. (eqb l.row.satellite s && (ltb c l.code && (code_at c l.row).slip)) || mark_of l.fn.marks s c);
}

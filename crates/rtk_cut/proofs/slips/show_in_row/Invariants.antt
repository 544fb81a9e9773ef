use Rattle.std.proofs.Common.{◌≡◌, ◌<◌, ℕ, false, not, ◌&&◌, ◌||◌, ltb, length, get_or}
use Rattle.rtk_rinex.specs.Record.{no_observation}
use Rattle.rtk_cut.specs.Cut.{code_at, with_slip}
use Rattle.rtk_cut.specs.Steps.Pending.{mark_of, MarksBecome, row_has_phase}
use Rattle.rtk_cut.proofs.slips.show_in_row.Given as goal

abbrev pub invariant-loop-code : goal.invariant-loop-code
invariant-loop-code l = record {
  size : length l.marks ≡ length l.fn.marks;
  width : length l.shown ≡ length l.fn.shown;
  shown : (k : ℕ) → k < l.code → get_or l.shown k no_observation ≡ with_slip ((code_at k l.row).slip || mark_of l.fn.marks l.row.satellite k) (code_at k l.row);
  marks : MarksBecome l.marks (λ s c. not (row_has_phase s c l.row && ltb c l.code) && mark_of l.fn.marks s c);
  same : l.is_changed ≡ false → (k : ℕ) → k < l.code → get_or l.shown k no_observation ≡ code_at k l.row;
}

use Rattle.std.proofs.Common.{◌≡◌, ◌<◌, ℕ, cond, ltb, length, get_or}
use Rattle.rtk_chart.specs.Grid.{no_marks}
use Rattle.rtk_chart.specs.Steps.Shown.{both_codes}
use Rattle.rtk_chart.proofs.tracking.add_codes.Given as goal

abbrev pub invariant-loop-code : goal.invariant-loop-code
invariant-loop-code l = record {
  size : length l.codes ≡ 16;
  added : (k : ℕ) → k < 16 → get_or l.codes k no_marks ≡ cond (ltb k l.code) (both_codes l.more l.fn.codes k) (get_or l.fn.codes k no_marks);
}

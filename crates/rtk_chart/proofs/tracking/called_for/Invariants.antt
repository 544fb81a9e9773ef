use Rattle.std.proofs.Common.{◌≡◌, ◌<◌, ℕ, false, cond, ltb, length, get_or}
use Rattle.rtk_rinex.specs.Record.{no_observation}
use Rattle.rtk_tracking.specs.Passes.{has_phase}
use Rattle.rtk_chart.specs.Grid.{no_marks}
use Rattle.rtk_chart.specs.Steps.Shown.{called_for, called_at}
use Rattle.rtk_chart.proofs.tracking.called_for.Given as goal

abbrev pub invariant-loop-code : goal.invariant-loop-code
invariant-loop-code l = record {
  size : length l.codes ≡ 16;
  filled : (k : ℕ) → k < 16
      → get_or l.codes k no_marks ≡ cond (ltb k l.code) (called_at l.observed l.known.had l.known.kept k) (called_for no_observation (has_phase l.observed) false false);
}

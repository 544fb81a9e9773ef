use Rattle.std.proofs.Common.{◌≡◌, ◌<◌, ℕ, cond, ltb, length, get_or}
use Rattle.rtk_chart.specs.Grid.{no_tracking}
use Rattle.rtk_chart.specs.Steps.Shown.{both_satellites}
use Rattle.rtk_chart.proofs.time_bin.add_satellites.Given as goal

abbrev pub invariant-loop-place : goal.invariant-loop-place
invariant-loop-place l = record {
  size : length l.satellites ≡ 32;
  added : (k : ℕ) → k < 32 → get_or l.satellites k no_tracking ≡ cond (ltb k l.place) (both_satellites l.more l.fn.satellites k) (get_or l.fn.satellites k no_tracking);
}

use Rattle.std.proofs.Common.{◌≡◌, ◌≤◌, count_by, take}
use Rattle.rtk_chart.specs.Signs.{is_tracked}
use Rattle.rtk_chart.proofs.svg_steps.tracked_in.Given as goal

abbrev pub invariant-loop-tracking : goal.invariant-loop-tracking
invariant-loop-tracking l = record {
  few : l.count ≤ l.tracking-index;
  sum : l.count ≡ count_by is_tracked (take l.tracking-index l.bin.satellites);
}

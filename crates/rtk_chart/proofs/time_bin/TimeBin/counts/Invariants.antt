use Rattle.std.proofs.Common.{◌≡◌, ◌≤◌, ◌*◌, take}
use Rattle.std.specs.List.{sum_by}
use Rattle.rtk_chart.specs.Steps.Shown.{codes_with}
use Rattle.rtk_chart.proofs.time_bin.TimeBin.counts.Given as goal

abbrev pub invariant-loop-tracking : goal.invariant-loop-tracking
invariant-loop-tracking l = record {
  few-slips : l.slips ≤ 16 * l.tracking-index;
  few-returns : l.returns ≤ 16 * l.tracking-index;
  few-rises : l.rises ≤ 16 * l.tracking-index;
  slips : l.slips ≡ sum_by (codes_with (λ m. m.slip)) (take l.tracking-index l.self.satellites);
  returns : l.returns ≡ sum_by (codes_with (λ m. m.returned)) (take l.tracking-index l.self.satellites);
  rises : l.rises ≡ sum_by (codes_with (λ m. m.rise)) (take l.tracking-index l.self.satellites);
}

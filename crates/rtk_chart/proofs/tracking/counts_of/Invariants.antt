use Rattle.std.proofs.Common.{◌≡◌, ◌≤◌, count_by, take}
use Rattle.rtk_chart.proofs.tracking.counts_of.Given as goal

abbrev pub invariant-loop-marks : goal.invariant-loop-marks
invariant-loop-marks l = record {
  few-slips : l.slips ≤ l.marks-index;
  few-returns : l.returns ≤ l.marks-index;
  few-rises : l.rises ≤ l.marks-index;
  slips : l.slips ≡ count_by (λ m. m.slip) (take l.marks-index l.codes);
  returns : l.returns ≡ count_by (λ m. m.returned) (take l.marks-index l.codes);
  rises : l.rises ≡ count_by (λ m. m.rise) (take l.marks-index l.codes);
}

use Rattle.std.proofs.Common.{◌≡◌, ◌-◌, ◌≤◌, drop, length}
use Rattle.rtk_plan.specs.ToldLabel.{without_leading}
use Rattle.rtk_plan.proofs.told_label.without_leading.Given as goal

-- the rest of the text has its leading blanks left
abbrev pub invariant-loop-at : goal.invariant-loop-at
invariant-loop-at l = record {
  within : l.at ≤ length l.text;
  rest : without_leading (drop l.at l.text) ≡ without_leading l.text;
}

abbrev pub decreases-loop-at : goal.decreases-loop-at
decreases-loop-at l = length l.text - l.at

use Rattle.std.proofs.Common.{◌≡◌, ◌+◌, ◌≤◌, take, length}
use Rattle.std.specs.List.{suffix_len}
use Rattle.rtk_plan.specs.ToldLabel.{is_blank}
use Rattle.rtk_plan.proofs.told_label.trailing_place.Given as goal

-- all behind the place are blanks
abbrev pub invariant-loop-place : goal.invariant-loop-place
invariant-loop-place l = record {
  within : l.place ≤ length l.text;
  rest : suffix_len is_blank l.text + l.place ≡ length l.text + suffix_len is_blank (take l.place l.text);
}

abbrev pub decreases-loop-place : goal.decreases-loop-place
decreases-loop-place l = l.place

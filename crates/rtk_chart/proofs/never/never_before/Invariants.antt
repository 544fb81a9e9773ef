use Rattle.std.proofs.Common.{◌≡◌, count_by}
use Rattle.std.specs.List.{range_with_len}
use Rattle.rtk_chart.specs.Signs.{is_never}
use Rattle.rtk_chart.proofs.never.never_before.Given as goal

abbrev pub invariant-loop-before : goal.invariant-loop-before
invariant-loop-before l = l.count ≡ count_by (is_never l.bins l.at) (range_with_len 0 l.before)

use Rattle.std.proofs.Common.{◌≡◌, count_by}
use Rattle.std.specs.List.{range_with_len}
use Rattle.rtk_chart.specs.Signs.{is_drawn}
use Rattle.rtk_chart.proofs.text_picture.drawn_before.Given as goal

abbrev pub invariant-loop-before : goal.invariant-loop-before
invariant-loop-before l = l.count ≡ count_by (is_drawn l.bins) (range_with_len 0 l.before)

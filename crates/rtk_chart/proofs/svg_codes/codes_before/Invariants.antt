use Rattle.std.proofs.Common.{◌≡◌, count_by}
use Rattle.std.specs.List.{range_with_len}
use Rattle.rtk_chart.specs.Signs.{has_code}
use Rattle.rtk_chart.proofs.svg_codes.codes_before.Given as goal

abbrev pub invariant-loop-before : goal.invariant-loop-before
invariant-loop-before l = l.count ≡ count_by (has_code l.bins l.place) (range_with_len 0 l.before)

use Rattle.std.proofs.Common.{◌≡◌, ◌++◌, map}
use Rattle.std.specs.List.{range_with_len}
use Rattle.rtk_chart.specs.TextPicture.{gap_mark_at}
use Rattle.rtk_chart.proofs.text_picture.put_gap_row.Given as goal

abbrev pub invariant-loop-bin : goal.invariant-loop-bin
invariant-loop-bin l = l.text.items ≡ l.initial.text.items ++ map (gap_mark_at l.recorded l.gaps) (range_with_len 0 l.bin)

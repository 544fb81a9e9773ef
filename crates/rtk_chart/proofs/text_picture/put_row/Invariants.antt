use Rattle.std.proofs.Common.{◌≡◌, ◌++◌, map}
use Rattle.std.specs.List.{range_with_len}
use Rattle.rtk_chart.specs.TextPicture.{character_at}
use Rattle.rtk_chart.proofs.text_picture.put_row.Given as goal

abbrev pub invariant-loop-bin : goal.invariant-loop-bin
invariant-loop-bin l = l.text.items ≡ l.initial.text.items ++ map (character_at l.bins l.outages l.place) (range_with_len 0 l.bin)

use Rattle.std.proofs.Common.{◌≡◌, ◌++◌}
use Rattle.std.specs.Prelude.{flat_map}
use Rattle.std.specs.List.{range_with_len}
use Rattle.rtk_chart.specs.TextPicture.{label_part}
use Rattle.rtk_chart.proofs.text_time.put_labels.Given as goal

abbrev pub invariant-loop-bin : goal.invariant-loop-bin
invariant-loop-bin l = l.text.items ≡ l.initial.text.items ++ flat_map (label_part l.scale l.width l.step) (range_with_len 0 l.bin)

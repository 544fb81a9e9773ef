use Rattle.std.proofs.Common.{◌≡◌, ◌++◌, map}
use Rattle.std.specs.List.{range_with_len}
use Rattle.rtk_chart.specs.TextPicture.{axis_mark}
use Rattle.rtk_chart.specs.Ticks.{tick_at}
use Rattle.rtk_chart.proofs.text_time.put_axis.Given as goal

abbrev pub invariant-loop-bin : goal.invariant-loop-bin
invariant-loop-bin l = l.text.items ≡ l.initial.text.items ++ map (λ c. axis_mark (tick_at l.scale l.step c)) (range_with_len 0 l.bin)

use Rattle.std.proofs.Common.{◌≡◌, ◌++◌, ◌+◌}
use Rattle.std.specs.Prelude.{flat_map}
use Rattle.std.specs.List.{range_with_len}
use Rattle.rtk_chart.specs.SvgPath.{edge_of}
use Rattle.rtk_chart.specs.SvgPicture.{tick_text}
use Rattle.rtk_chart.specs.Ticks.{tick_at}
use Rattle.rtk_chart.proofs.svg_axis.put_ticks.Given as goal

abbrev pub invariant-loop-bin : goal.invariant-loop-bin
invariant-loop-bin l =
    l.text.items ≡ l.fn.text.items ++ flat_map (λ c. tick_text l.top l.step (110 + edge_of l.scale.bins c) (tick_at l.scale l.step c)) (range_with_len 0 l.bin)

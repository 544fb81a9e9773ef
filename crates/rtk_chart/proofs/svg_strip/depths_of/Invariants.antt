use Rattle.std.proofs.Common.{◌≡◌, map}
use Rattle.std.specs.List.{range_with_len}
use Rattle.rtk_chart.specs.SvgStrip.{depth_at}
use Rattle.rtk_chart.proofs.svg_strip.depths_of.Given as goal

abbrev pub invariant-loop-bin : goal.invariant-loop-bin
invariant-loop-bin l = l.depths.items ≡ map (depth_at l.band l.columns l.reach l.each) (range_with_len 0 l.bin)

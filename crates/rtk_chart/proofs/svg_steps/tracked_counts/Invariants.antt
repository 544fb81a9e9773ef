use Rattle.std.proofs.Common.{◌≡◌, map, take}
use Rattle.rtk_chart.specs.SvgPath.{tracked_in}
use Rattle.rtk_chart.proofs.svg_steps.tracked_counts.Given as goal

abbrev pub invariant-loop-bin : goal.invariant-loop-bin
invariant-loop-bin l = l.counts.items ≡ map tracked_in (take l.bin-index l.bins)

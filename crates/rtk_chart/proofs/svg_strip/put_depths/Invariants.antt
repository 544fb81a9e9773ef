use Rattle.std.proofs.Common.{◌≡◌, ◌++◌, None, drop, length}
use Rattle.rtk_chart.specs.SvgStrip.{depths_from}
use Rattle.rtk_chart.proofs.svg_strip.put_depths.Given as goal

abbrev pub invariant-loop-bin : goal.invariant-loop-bin
invariant-loop-bin l =
    l.fn.text.items ++ depths_from (length l.depths) 0 None l.depths
    ≡ l.text.items ++ depths_from (length l.depths) l.bin l.was (drop l.bin l.depths)

use Rattle.std.proofs.Common.{◌≡◌, ◌++◌, drop, length}
use Rattle.rtk_chart.specs.SvgPath.{steps_from}
use Rattle.rtk_chart.proofs.svg_steps.put_steps.Given as goal

abbrev pub invariant-loop-bin : goal.invariant-loop-bin
invariant-loop-bin l =
    l.fn.text.items ++ steps_from l.most (length l.counts) 0 0 l.counts
    ≡ l.text.items ++ steps_from l.most (length l.counts) l.bin l.was (drop l.bin l.counts)

use Rattle.std.proofs.Common.{◌≡◌, ◌++◌, false, drop, length}
use Rattle.rtk_chart.specs.SvgPath.{runs_from}
use Rattle.rtk_chart.proofs.svg_path.put_runs.Given as goal

abbrev pub invariant-loop-bin : goal.invariant-loop-bin
invariant-loop-bin l =
    l.fn.text.items ++ runs_from l.begin l.end (length l.flags) 0 false l.flags
    ≡ l.text.items ++ runs_from l.begin l.end (length l.flags) l.bin l.was (drop l.bin l.flags)

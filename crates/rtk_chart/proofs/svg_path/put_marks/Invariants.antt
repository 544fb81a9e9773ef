use Rattle.std.proofs.Common.{◌≡◌, ◌++◌, drop, length}
use Rattle.rtk_chart.specs.SvgPath.{marks_from}
use Rattle.rtk_chart.proofs.svg_path.put_marks.Given as goal

abbrev pub invariant-loop-bin : goal.invariant-loop-bin
invariant-loop-bin l =
    l.fn.text.items ++ marks_from l.form (length l.flags) 0 l.flags
    ≡ l.text.items ++ marks_from l.form (length l.flags) l.bin (drop l.bin l.flags)

use Rattle.std.proofs.Common.{◌≡◌, ◌++◌, drop}
use Rattle.rtk_chart.specs.SvgPicture.{code_lines}
use Rattle.rtk_chart.proofs.svg_codes.put_code_lines.Given as goal

abbrev pub invariant-loop-at : goal.invariant-loop-at
invariant-loop-at l = l.fn.text.items ++ code_lines l.names l.spacing l.bins l.place 0 l.codes ≡ l.text.items ++ code_lines l.names l.spacing l.bins l.place l.at (drop l.at l.codes)

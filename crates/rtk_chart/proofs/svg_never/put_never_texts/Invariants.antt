use Rattle.std.proofs.Common.{◌≡◌, ◌++◌, drop}
use Rattle.rtk_chart.specs.SvgPicture.{never_texts}
use Rattle.rtk_chart.proofs.svg_never.put_never_texts.Given as goal

abbrev pub invariant-loop-at : goal.invariant-loop-at
invariant-loop-at l = l.fn.text.items ++ never_texts l.names l.bins l.top 0 l.codes ≡ l.text.items ++ never_texts l.names l.bins l.top l.at (drop l.at l.codes)

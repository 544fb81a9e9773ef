use Rattle.std.proofs.Common.{◌≡◌, ◌++◌, drop}
use Rattle.rtk_obs.specs.Code.{name_of}
use Rattle.rtk_chart.specs.TextPicture.{all_never_lines}
use Rattle.rtk_chart.proofs.never.put_never.Given as goal

abbrev pub invariant-loop-at : goal.invariant-loop-at
invariant-loop-at l =
    l.fn.text.items ++ all_never_lines name_of l.names l.bins l.in_line 0 l.codes ≡ l.text.items ++ all_never_lines name_of l.names l.bins l.in_line l.at (drop l.at l.codes)

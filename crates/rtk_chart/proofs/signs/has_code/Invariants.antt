use Rattle.std.proofs.Common.{◌≡◌, false, take}
use Rattle.std.specs.List.{list_any}
use Rattle.rtk_chart.specs.Grid.{tracking_at, marks_at}
use Rattle.rtk_chart.proofs.signs.has_code.Given as goal

abbrev pub invariant-loop-bin : goal.invariant-loop-bin
invariant-loop-bin l = list_any (λ bin. (marks_at l.code (tracking_at l.place bin)).phase) (take l.bin-index l.bins) ≡ false

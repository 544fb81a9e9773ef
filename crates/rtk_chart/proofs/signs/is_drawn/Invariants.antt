use Rattle.std.proofs.Common.{◌≡◌, false, take}
use Rattle.std.specs.List.{list_any}
use Rattle.rtk_chart.specs.Grid.{tracking_at}
use Rattle.rtk_chart.proofs.signs.is_drawn.Given as goal

abbrev pub invariant-loop-bin : goal.invariant-loop-bin
invariant-loop-bin l = list_any (λ bin. (tracking_at l.place bin).seen) (take l.bin-index l.bins) ≡ false

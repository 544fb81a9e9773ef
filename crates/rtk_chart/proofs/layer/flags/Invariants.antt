use Rattle.std.proofs.Common.{◌≡◌, take, map}
use Rattle.rtk_chart.specs.Layers.{shows}
use Rattle.rtk_chart.specs.Grid.{tracking_at, marks_at}
use Rattle.rtk_chart.proofs.layer.flags.Given as goal

abbrev pub invariant-loop-bin : goal.invariant-loop-bin
invariant-loop-bin l = l.flags.items ≡ map (λ bin. shows l.layer (marks_at l.code (tracking_at l.place bin))) (take l.bin-index l.bins)

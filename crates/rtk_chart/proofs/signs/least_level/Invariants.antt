use Rattle.std.proofs.Common.{◌≡◌, None, take}
use Rattle.std.specs.List.{fold}
use Rattle.rtk_tracking.specs.Extremes.{lesser}
use Rattle.rtk_chart.proofs.signs.least_level.Given as goal

abbrev pub invariant-loop-marks : goal.invariant-loop-marks
invariant-loop-marks l = l.least ≡ fold (λ least m. lesser least m.least) None (take l.marks-index l.tracking.codes)

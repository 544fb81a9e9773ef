use Rattle.std.proofs.Common.{◌≡◌, take}
use Rattle.std.specs.Prelude.{max}
use Rattle.std.specs.List.{fold}
use Rattle.rtk_chart.proofs.svg_steps.most_tracked.Given as goal

abbrev pub invariant-loop-count : goal.invariant-loop-count
invariant-loop-count l = l.most ≡ fold (λ most n. max most n) 0 (take l.count-index l.counts)

use Rattle.std.proofs.Common.{◌≡◌, List, take, refl, sym, ap, ◌∙◌, arith}
use Rattle.std.proofs.lemmas.Grind.{common_steps}
use Rattle.std.proofs.lemmas.List.Folds.{list_any_at}
use Rattle.std.specs.List.{list_any}
use Rattle.rtk_chart.specs.Grid.{no_tracking, tracking_at}
use Rattle.rtk_chart.specs.Signs.{is_drawn}
use Rattle.rtk_chart.specs.declared.time_bin.TimeBin.{TimeBin}
use Rattle.rtk_chart.proofs.GridLemmas.{seen-same}
use Rattle.rtk_chart.proofs.signs.is_drawn.Goals as goal

pub returns-then-bin-place : goal.returns-then-bin-place
unfolding is_drawn
returns-then-bin-place c =
    sym (list_any_at (λ bin. (tracking_at c.args.place bin).seen) c.args.bins.now c.loop-bin.bin-index _ c.loop-bin-test.true
    (seen-same _ c.args.place no_tracking _ refl ∙ c.if-bin-place.true))

pub returns : goal.returns
unfolding is_drawn
returns c =
    let xs : List TimeBin = c.args.bins.now in
    let all : take c.loop-bin.bin-index xs ≡ xs = grind (arith, common_steps) in
    sym (ap (λ (ys : List TimeBin). list_any (λ bin. (tracking_at c.args.place bin).seen) ys) (sym all) ∙ c.loop-bin.invariant)

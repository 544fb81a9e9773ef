use Rattle.std.proofs.Common.{◌≡◌, List, take, sym, ap, ◌∙◌, arith}
use Rattle.std.proofs.lemmas.Grind.{common_steps}
use Rattle.std.proofs.lemmas.List.Folds.{list_any_at}
use Rattle.std.specs.List.{list_any}
use Rattle.rtk_chart.specs.Grid.{tracking_at, marks_at}
use Rattle.rtk_chart.specs.Signs.{has_code}
use Rattle.rtk_chart.specs.declared.time_bin.TimeBin.{TimeBin}
use Rattle.rtk_chart.proofs.signs.has_code.Goals as goal

pub returns-then-has_phase_in : goal.returns-then-has_phase_in
unfolding has_code
returns-then-has_phase_in c =
    sym (list_any_at (λ bin. (marks_at c.args.code (tracking_at c.args.place bin)).phase) c.args.bins.now c.loop-bin.bin-index _ c.loop-bin-test.true
    (sym c.has_phase_in.ensures ∙ c.if-has_phase_in.true))

pub returns : goal.returns
unfolding has_code
returns c =
    let xs : List TimeBin = c.args.bins.now in
    let all : take c.loop-bin.bin-index xs ≡ xs = grind (arith, common_steps) in
    sym (ap (λ (ys : List TimeBin). list_any (λ bin. (marks_at c.args.code (tracking_at c.args.place bin)).phase) ys) (sym all) ∙ c.loop-bin.invariant)

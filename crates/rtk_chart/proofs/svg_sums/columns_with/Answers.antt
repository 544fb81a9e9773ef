use Rattle.std.proofs.Common.{◌≡◌, ◌++◌, ◌∷◌, [], ℕ, map, ap, ◌∙◌, arith}
use Rattle.std.specs.List.{range_with_len}
use Rattle.rtk_chart.specs.SvgSystems.{both_columns}
use Rattle.rtk_chart.specs.declared.strengths.Strengths.{Strengths}
use Rattle.rtk_chart.proofs.MixedLemmas.{grow-more}
use Rattle.rtk_chart.proofs.svg_sums.columns_with.Goals as goal

pub loop-column-preserved : goal.loop-column-preserved
loop-column-preserved c =
    grow-more (both_columns c.args.these.now c.args.more.now) c.loop-column.column c.loop-column.columns.items c.push.new.self.items c.loop-column.invariant
    (c.in_ok-push.ensures.items ∙ ap (λ (s : Strengths). c.loop-column.columns.items ++ s ∷ []) c.both_columns.ensures)

pub returns : goal.returns
returns c =
    let end : c.loop-column.column ≡ 144 = omega (arith, c.loop-column.auto.column-end, c.loop-column-test.false) in
    c.loop-column.invariant ∙ ap (λ (n : ℕ). map (both_columns c.args.these.now c.args.more.now) (range_with_len 0 n)) end

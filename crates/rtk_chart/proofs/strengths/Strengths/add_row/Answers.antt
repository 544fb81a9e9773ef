use Rattle.std.proofs.Common.{◌<◌, ◌+◌, inl, inr, ℕ, length, drop, None, sym, ap, ◌∙◌, arith}
use Rattle.std.proofs.lemmas.Bool.{cases_lt}
use Rattle.rtk_rinex.specs.Record.{no_observation}
use Rattle.rtk_chart.specs.Steps.Added.{with_row}
use Rattle.rtk_chart.specs.declared.strengths.Strengths.{Strengths}
use Rattle.rtk_chart.proofs.StrengthLemmas.{code-more, row-end}
use Rattle.rtk_chart.proofs.strengths.Strengths.add_row.Goals as goal

pub loop-place-preserved : goal.loop-place-preserved
loop-place-preserved c =
    let i : ℕ = c.loop-place.place in
    let one : i < length c.args.bands.now = omega (arith, c.loop-place-test.true, c.min-place-end.ensures) in
    let other : i < length c.args.observed.now = omega (arith, c.loop-place-test.true, c.min-place-end.ensures) in
    c.loop-place.invariant ∙ code-more c.args.bands.now c.args.observed.now i None no_observation c.loop-place.self one other
    ∙ ap (λ (s : Strengths). with_row (drop (i + 1) c.args.bands.now) (drop (i + 1) c.args.observed.now) s) (sym c.add_if.ensures)

pub returns : goal.returns
returns c =
    let i : ℕ = c.loop-place.place in
    sym (c.loop-place.invariant ∙ row-end c.args.bands.now c.args.observed.now i c.loop-place.self (elim (cases_lt i (length c.args.bands.now)) [
      | inl within ↦ inr (omega (arith, c.loop-place-test.false, within))
      | inr past ↦ inl past
    ]))

use Rattle.std.proofs.Common.{◌<◌, ◌+◌, inl, inr, ℕ, length, drop, get_or, Option, sym, ap, ◌∙◌, arith}
use Rattle.std.proofs.lemmas.Bool.{cases_lt}
use Rattle.rtk_quality.specs.declared.strengths.CodeBand.{CodeBand}
use Rattle.rtk_obs.specs.declared.any_code.AnyCode.TheVariants.{G1C}
use Rattle.rtk_rinex.specs.Record.{no_observation}
use Rattle.rtk_quality.specs.Steps.Noted.{with_strength, with_row}
use Rattle.rtk_quality.specs.declared.strengths.Strengths.{Strengths}
use Rattle.rtk_quality.proofs.StrengthLemmas.{code-more, row-end}
use Rattle.rtk_quality.proofs.strengths.Strengths.add_row.Goals as goal

pub loop-place-preserved : goal.loop-place-preserved
loop-place-preserved c =
    let i : ℕ = c.loop-place.place in
    let one : i < length c.args.codes.now = omega (arith, c.loop-place-test.true, c.min-place-end.ensures) in
    let other : i < length c.args.observed.now = omega (arith, c.loop-place-test.true, c.min-place-end.ensures) in
    let own : Option ℕ = (get_or c.args.observed.now i no_observation).strength_millidbhz in
    c.loop-place.invariant ∙ code-more c.args.codes.now c.args.observed.now i G1C no_observation c.loop-place.self one other
    ∙ ap (λ (b : CodeBand). with_row (drop (i + 1) c.args.codes.now) (drop (i + 1) c.args.observed.now) (with_strength b own c.loop-place.self)) (sym c.band_of-band.ensures)
    ∙ ap (λ (s : Strengths). with_row (drop (i + 1) c.args.codes.now) (drop (i + 1) c.args.observed.now) s) (sym c.add.ensures)

pub returns : goal.returns
returns c =
    let i : ℕ = c.loop-place.place in
    sym (c.loop-place.invariant ∙ row-end c.args.codes.now c.args.observed.now i c.loop-place.self (elim (cases_lt i (length c.args.codes.now)) [
      | inl within ↦ inr (omega (arith, c.loop-place-test.false, within))
      | inr past ↦ inl past
    ]))

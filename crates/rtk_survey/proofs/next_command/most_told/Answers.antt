use Rattle.std.proofs.Common.{◌≡◌, ◌+◌, ◌∙◌, ℕ, suc, Option, ap, arith}
use Rattle.rtk_survey.specs.NextCommand.{more_told, most_told, told_of_slot}
use Rattle.rtk_survey.specs.Steps.OtherSystems.{fields_held}
use Rattle.rtk_survey.proofs.next_command.most_told.Goals as goal

pub loop-field-preserved : goal.loop-field-preserved
loop-field-preserved c =
    let counts : ℕ → ℕ = fields_held c.args.station.now c.args.slot in
    let field : ℕ = c.loop-field.field in
    let next : suc field ≡ field + 1 = omega arith in
    record {
      value = c.more_told-told.ensures.value ∙ ap (λ (o : Option ℕ). more_told counts o field) c.loop-field.invariant.value ∙ ap (λ (n : ℕ). most_told counts n) next;
      bound = c.more_told-told.ensures.bound;
    }

pub returns-clause-value : goal.returns-clause-value
unfolding told_of_slot
returns-clause-value c =
    let counts : ℕ → ℕ = fields_held c.args.station.now c.args.slot in
    let end : c.loop-field.field ≡ 14 = omega (arith, c.loop-field-test.false) in
    c.loop-field.invariant.value ∙ ap (λ (n : ℕ). most_told counts n) end

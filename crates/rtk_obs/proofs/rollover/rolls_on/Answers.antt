use Rattle.std.proofs.Common.{◌≡◌, ℤ, to_z, of_z, w64, sym, subst, arith}
use Rattle.std.proofs.lemmas.Int.{ints}
use Rattle.rtk_obs.specs.Carriers.{roll_frequency}
use Rattle.rtk_obs.specs.Steps.RollLimits.{IsRollLimit}
use Rattle.rtk_obs.proofs.RolloverLemmas.{rolls_between-some}
use Rattle.rtk_obs.proofs.rollover.rolls_on.Goals as goal

pub returns-in-Some-Some-clause-value : goal.returns-in-Some-Some-clause-value
returns-in-Some-Some-clause-value c =
    let whole : to_z w64 (of_z w64 c.roll_limit.result) ≡ c.roll_limit.result = omega (arith, ints) in
    let limit = subst (λ (z : ℤ). IsRollLimit (roll_frequency c.args.carrier) z) (sym whole) c.roll_limit.ensures.value in
    rolls_between-some (roll_frequency c.args.carrier) c.args.rolls c.in-Some-Some.last c.in-Some-Some.offset _ c.roll_beyond.result _ c.args.last c.args.offset
    c.in-Some-Some.is-0 c.in-Some-Some.is-1 (omega (arith, ints)) (c.roll_beyond.ensures.value (roll_frequency c.args.carrier) limit) (omega (arith, ints))

use Rattle.std.proofs.Common.{◌≡◌, ◌∙◌, ap, arith, pos, ◌+ℤ◌, ◌*ℤ◌, to_z, of_z}
use mir.Syntax.{w128}
use Rattle.std.proofs.lemmas.Int.{ints}
use Rattle.rtk_obs.specs.Rollover.{within_limits}
use Rattle.rtk_obs.proofs.rollover.with_rolls.Goals as goal

pub returns : goal.returns
returns c =
    let sum : to_z w128 (of_z w128 (to_z w128 (of_z w128 c.from.result) +ℤ to_z w128 (of_z w128 (pos 1_500_000 *ℤ to_z w128 (of_z w128 c.from-2.result))))) ≡ c.args.phase +ℤ pos 1_500_000 *ℤ c.args.rolls = omega (arith, ints) in
    c.within_limits.ensures ∙ ap within_limits sum

use Rattle.std.proofs.Common.{◌≡◌, ◌∙◌, ap, arith, pos, ◌+ℤ◌, ◌*ℤ◌, to_z, of_z, w64}
use Rattle.std.proofs.lemmas.Int.{ints}
use Rattle.rtk_obs.specs.Rollover.{within_limits}
use Rattle.rtk_obs.proofs.rollover.rolled.Goals as goal

pub returns-then-rolls-eq0 : goal.returns-then-rolls-eq0
returns-then-rolls-eq0 c =
    let same : to_z w64 (of_z w64 c.args.phase) ≡ c.args.phase +ℤ pos 1_500_000 *ℤ c.args.rolls = omega (arith, ints) in
    c.without_rolls.ensures ∙ ap within_limits same

use Rattle.std.proofs.Common.{ℕ, Option, arith, sym, subst}
use Rattle.rtk_systems.specs.SlotChannels.{AreSecondsChosen}
use Rattle.rtk_plan.proofs.setup_seconds.seconds_chosen.Goals as goal

pub returns-in-Some-clause-said : goal.returns-in-Some-clause-said
returns-in-Some-clause-said c =
    subst (λ (o : Option ℕ). AreSecondsChosen o c.args.near c.number.result) (sym c.in-Some.is) c.number.ensures.value

pub returns-in-None-clause-said : goal.returns-in-None-clause-said
returns-in-None-clause-said c =
    subst (λ (o : Option ℕ). AreSecondsChosen o c.args.near c.leap_seconds_at.result) (sym c.in-None.is) c.leap_seconds_at.ensures

-- the table has 18 rows
pub returns-in-None-clause-bound : goal.returns-in-None-clause-bound
returns-in-None-clause-bound c = omega (arith, c.leap_seconds_at.ensures.known)

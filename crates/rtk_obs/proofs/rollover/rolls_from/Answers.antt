use Rattle.std.proofs.Common.{arith}
use Rattle.std.proofs.lemmas.Int.{ints}
use Rattle.rtk_obs.specs.Code.{frequency_of}
use Rattle.rtk_obs.proofs.RolloverLemmas.{rolls_between-some}
use Rattle.rtk_obs.proofs.rollover.rolls_from.Goals as goal

pub returns-in-Some-Some-clause-value : goal.returns-in-Some-Some-clause-value
returns-in-Some-Some-clause-value c =
    rolls_between-some (frequency_of c.args.band) c.args.rolls c.in-Some-Some.last c.in-Some-Some.offset _ c.roll.result _ c.args.last c.args.offset
    c.in-Some-Some.is-0 c.in-Some-Some.is-1 (omega (arith, ints)) c.roll.ensures.value (omega (arith, ints))

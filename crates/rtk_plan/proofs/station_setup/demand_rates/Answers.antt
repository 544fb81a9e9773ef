use Rattle.std.proofs.Common.{sym, ◌∙◌}
use Rattle.rtk_plan.specs.Causes.{IsRatesCause}
use Rattle.rtk_plan.proofs.RefusedLemmas.{is-refused}
use Rattle.rtk_plan.proofs.station_setup.demand_rates.Goals as goal

-- the first system without rates
pub returns-in-Some-clause-refused : goal.returns-in-Some-clause-refused
returns-in-Some-clause-refused c =
    is-refused (IsRatesCause c.args.is_asked c.args.kinds c.args.listed.now) _ c.refused.result c.refused.ensures
    (c.in-Some.system, sym c.without_rates.ensures ∙ c.in-Some.is, c.from-letter.ensures ∙ c.letter_of-byte.ensures)

-- there is none
pub returns-in-None-clause-rates : goal.returns-in-None-clause-rates
returns-in-None-clause-rates c = sym c.without_rates.ensures ∙ c.in-None.is

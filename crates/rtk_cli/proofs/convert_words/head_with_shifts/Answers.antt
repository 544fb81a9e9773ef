use Rattle.std.proofs.Common.{List, sym, ap, ◌∙◌}
use Rattle.rtk_obs.specs.declared.any_code.AnyCode.{AnyCode}
use Rattle.rtk_setup.specs.Rates.{without_rates}
use Rattle.rtk_cli.proofs.convert_words.head_with_shifts.Goals as goal

-- the first system without rates
pub returns-in-Some-clause-cause : goal.returns-in-Some-clause-cause
returns-in-Some-clause-cause c =
    sym (c.without_rates.ensures ∙ ap (λ (cs : List AnyCode). without_rates c.args.is_asked c.args.kinds cs) c.codes.ensures.value) ∙ c.in-Some.is

-- there is none
pub returns-in-None-clause-rates : goal.returns-in-None-clause-rates
returns-in-None-clause-rates c =
    sym (c.without_rates.ensures ∙ ap (λ (cs : List AnyCode). without_rates c.args.is_asked c.args.kinds cs) c.codes.ensures.value) ∙ c.in-None.is

use Rattle.std.proofs.Common.{Bool, sym, ap, ◌∙◌}
use Rattle.rtk_setup.specs.Rates.{without_rates}
use Rattle.rtk_setup.proofs.rates.without_rates.Goals as goal

pub returns-then-is_asked : goal.returns-then-is_asked
returns-then-is_asked c = c.first_without_rates.ensures ∙ ap (λ (b : Bool). without_rates b c.args.kinds c.args.listed.now) (sym c.if-is_asked.true)

pub returns-else-is_asked : goal.returns-else-is_asked
returns-else-is_asked c = ap (λ (b : Bool). without_rates b c.args.kinds c.args.listed.now) (sym c.if-is_asked.false)

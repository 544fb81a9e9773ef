use Rattle.std.proofs.Common.{ℕ, Option, ap, sym, ◌∙◌}
use Rattle.rtk_plan.proofs.station_setup.with_seconds.Goals as goal

pub returns-in-None : goal.returns-in-None
returns-in-None c = ap (λ (o : Option ℕ). record c.args.setup { leap_seconds = o }) (c.requires ∙ sym c.in-None.is)

use Rattle.std.proofs.Common.{refl}
use Rattle.rtk_plan.proofs.planning.station_to_convert.Goals as goal

pub returns-in-One-clause-bound : goal.returns-in-One-clause-bound
returns-in-One-clause-bound c = let only = c.in-One.ensures.one c.in-One.station refl in only.observed.0

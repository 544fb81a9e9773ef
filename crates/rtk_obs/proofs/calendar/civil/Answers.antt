use Rattle.std.proofs.Common.{rules, arith, ◌/◌}
use Rattle.jiff_core.proofs.SignedLemmas.{signed_arith}
use Rattle.rtk_obs.proofs.YearLemmas.{year_bounds, within}
use Rattle.rtk_obs.proofs.calendar.civil.Goals as goal

pub year_of-requires : goal.year_of-requires
year_of-requires c =
    let years = year_bounds c.from_days_since_min-date.result (c.ms-ms.result / 86_400_000) c.from_days_since_min-date.ensures (omega arith) in
    omega (arith, signed_arith)

pub returns-clause-reading : goal.returns-clause-reading
returns-clause-reading c = rw c.year_of.ensures (search rules)

pub returns-clause-years : goal.returns-clause-years
returns-clause-years c =
    within _ _ c.year_of.ensures (year_bounds c.from_days_since_min-date.result (c.ms-ms.result / 86_400_000) c.from_days_since_min-date.ensures (omega arith))

use Rattle.rtk_obs.proofs.ClockLemmas.{one_date-day}
use Rattle.rtk_obs.proofs.laws.date_in_day_is_unique.Goals as goal

pub returns : goal.returns
returns c = one_date-day

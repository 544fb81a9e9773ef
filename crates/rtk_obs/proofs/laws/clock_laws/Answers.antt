use Rattle.rtk_obs.proofs.ClockLemmas.{one_clock, is_clock, clock-of-1012, no-day}
use Rattle.rtk_obs.proofs.laws.clock_laws.Goals as goal

pub returns : goal.returns
returns c = record { one_moment = one_clock; time = is_clock; legacy = clock-of-1012; no_day = no-day }

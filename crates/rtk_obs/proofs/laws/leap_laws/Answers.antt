use Rattle.std.proofs.Common.{ℕ, ◌≤◌}
use Rattle.rtk_obs.specs.LeapSeconds.{leap_start}
use Rattle.rtk_obs.proofs.LeapLemmas.{one_row}
use Rattle.rtk_obs.proofs.ClockLemmas.{one_number, at_moment, at_time_of_day}
use Rattle.rtk_obs.proofs.laws.leap_laws.Goals as goal

pub returns : goal.returns
returns c = record { moment = λ t m n p q. one_row (λ (k : ℕ). leap_start k ≤ t) m n p q; clock = one_number; at_moment = at_moment; at_time_of_day = at_time_of_day }

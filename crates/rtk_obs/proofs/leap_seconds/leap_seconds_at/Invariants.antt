use Rattle.std.proofs.Common.{ℕ, ◌<◌, ◌≤◌}
use Rattle.rtk_obs.specs.LeapSeconds.{leap_start}
use Rattle.rtk_obs.proofs.leap_seconds.leap_seconds_at.Given as goal

-- none of the later rows has begun
abbrev pub invariant-loop-leap_seconds : goal.invariant-loop-leap_seconds
invariant-loop-leap_seconds l = record {
  known : l.leap_seconds ≤ 18;
  last : (k : ℕ) → l.leap_seconds < k → k ≤ 18 → ¬ (leap_start k ≤ l.ms);
}

abbrev pub decreases-loop-leap_seconds : goal.decreases-loop-leap_seconds
decreases-loop-leap_seconds l = l.leap_seconds

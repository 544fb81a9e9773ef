use Rattle.std.proofs.Common.{ℕ, ◌<◌, ◌≤◌}
use Rattle.rtk_obs.specs.GlonassTime.{HasBegunBy}
use Rattle.rtk_obs.proofs.glonass_time.GlonassTime.leap_seconds.Given as goal

-- none of the later rows has begun
abbrev pub invariant-loop-leap_seconds : goal.invariant-loop-leap_seconds
invariant-loop-leap_seconds l = record {
  known : l.leap_seconds ≤ 18;
  last : (k : ℕ) → l.leap_seconds < k → k ≤ 18 → ¬ (HasBegunBy l.near l.self k);
}

abbrev pub decreases-loop-leap_seconds : goal.decreases-loop-leap_seconds
decreases-loop-leap_seconds l = l.leap_seconds

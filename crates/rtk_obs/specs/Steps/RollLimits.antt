-- The change of an offset beyond which it has rolled.
use Rattle.std.specs.Prelude.{ℕ, ◌+◌, ◌*◌, ◌<◌, ◌≤◌, ℤ, unsigned_abs}
use Rattle.rtk_obs.specs.Rollover.{half_roll}

-- the greatest change that is at most 750 cycles of this frequency
pub record IsRollLimit (frequency : ℕ) (limit : ℤ) : Type 0 where
  pub within : unsigned_abs limit * frequency ≤ half_roll
  pub beyond : half_roll < (unsigned_abs limit + 1) * frequency

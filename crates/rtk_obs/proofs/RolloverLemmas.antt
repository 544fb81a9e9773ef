-- Roll counts.
use Rattle.std.proofs.Common.{◌≡◌, ℕ, ◌+◌, ◌*◌, ◌<◌, ◌≤◌, ℤ, pos, negsuc, neg_ℤ, ◌+ℤ◌, ◌-ℤ◌, ◌*ℤ◌, unsigned_abs, Option, Some, true, false, refl, arith}
use Rattle.std.specs.Prelude.{int_lt}
use Rattle.std.proofs.lemmas.Int.{ints}
use Rattle.std.proofs.Math.Nat.{mul-le-mul_right}
use Rattle.rtk_obs.specs.Rollover.{half_roll, roll_of, rolls_between}
use Rattle.rtk_obs.specs.Steps.RollLimits.{IsRollLimit}

pub rolls_between-some : (frequency : ℕ) (rolls a b change turn sum : ℤ) (last offset : Option ℤ) → last ≡ Some a → offset ≡ Some b
    → change ≡ b -ℤ a → turn ≡ roll_of frequency change → sum ≡ rolls +ℤ turn → sum ≡ rolls_between frequency rolls last offset
rolls_between-some frequency rolls a b change turn sum last offset e f g h k = rw (e, f, k, h, g) refl

-- ---- a change and a limit

not_above : (f : ℕ) (d : ℤ) (l : ℕ) → unsigned_abs d ≤ l → l * f ≤ half_roll → int_lt (pos half_roll) (d *ℤ pos f) ≡ false
not_above f (pos n) l h k = let m = mul-le-mul_right f h in grind (arith, ints)
not_above f (negsuc n) l h k = let m = mul-le-mul_right f h in grind (arith, ints)

not_below : (f : ℕ) (d : ℤ) (l : ℕ) → unsigned_abs d ≤ l → l * f ≤ half_roll → int_lt (d *ℤ pos f) (neg_ℤ (pos half_roll)) ≡ false
not_below f (pos n) l h k = let m = mul-le-mul_right f h in grind (arith, ints)
not_below f (negsuc n) l h k = let m = mul-le-mul_right f h in grind (arith, ints)

pub roll-within : (frequency : ℕ) (limit d : ℤ) → IsRollLimit frequency limit → unsigned_abs d ≤ unsigned_abs limit → pos 0 ≡ roll_of frequency d
roll-within frequency limit d is h = rw (not_above frequency d (unsigned_abs limit) h is.within, not_below frequency d (unsigned_abs limit) h is.within) refl

-- a greater change is one
above : (f n : ℕ) (l : ℕ) → l + 1 ≤ n → half_roll < (l + 1) * f → int_lt (pos half_roll) (pos n *ℤ pos f) ≡ true
above f n l h k = let m = mul-le-mul_right f h in grind (arith, ints)

below : (f n : ℕ) (l : ℕ) → l ≤ n → half_roll < (l + 1) * f → int_lt (negsuc n *ℤ pos f) (neg_ℤ (pos half_roll)) ≡ true
below f n l h k = grind (arith, ints)

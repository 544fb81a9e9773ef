use Rattle.std.proofs.Common.{ℕ, ◌<◌, slice_index_or}
use Rattle.rtk_obs.specs.declared.any_code.AnyCode.{AnyCode}
use Rattle.rtk_rinex.specs.MixedHead.{AreInOrder}
use Rattle.rtk_rinex.proofs.mixed_head.follows.Given as goal

abbrev pub invariant-loop-i : goal.invariant-loop-i
invariant-loop-i l = (k : ℕ) (d : AnyCode) → k < l.i → AreInOrder (slice_index_or l.listed k d) (slice_index_or l.listed l.at d)

use Rattle.std.proofs.Common.{◌≡◌, ℕ, ◌<◌, ◌≤◌, ◌-◌, length, drop, false}
use Rattle.rtk_frame.specs.Frame.{begins_frame}
use Rattle.rtk_frame.specs.Prefixes.{ArePrefixChecksums}
use Rattle.rtk_frame.proofs.search.search.Given as goal

abbrev pub invariant-loop-place : goal.invariant-loop-place
invariant-loop-place l = record {
  from : l.from ≤ l.place;
  within : l.place ≤ length l.bytes;
  none : (p : ℕ) → l.from ≤ p → p < l.place → begins_frame (drop p l.bytes) ≡ false;
  start : l.start ≤ l.place;
  prefixes : ArePrefixChecksums l.prefixes.items (drop l.start l.bytes);
}

abbrev pub decreases-loop-place : goal.decreases-loop-place
decreases-loop-place l = length l.bytes - l.place

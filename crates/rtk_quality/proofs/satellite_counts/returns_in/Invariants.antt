use Rattle.std.proofs.Common.{◌≡◌, ◌≤◌, ℕ, List, count_by, Option}
use Rattle.std.specs.List.{range_with_len}
use Rattle.rtk_tracking.specs.Passes.{Sighting, is_return}
use Rattle.rtk_tracking.specs.Standing.{AreKnown}
use Rattle.rtk_quality.proofs.satellite_counts.returns_in.Given as goal

abbrev pub invariant-loop-place : goal.invariant-loop-place
invariant-loop-place l = record {
  few : l.returns ≤ l.place;
  many : (interval : Option ℕ) (before : List Sighting) (s : Sighting) → l.observed ≡ s.observed → AreKnown l.known interval before s
      → l.returns ≡ count_by (λ place. is_return interval place before s) (range_with_len 0 l.place);
}

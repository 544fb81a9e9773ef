use Rattle.std.proofs.Common.{◌≡◌, ◌≤◌, ℕ, List, count_by, Option}
use Rattle.std.specs.List.{range_with_len}
use Rattle.rtk_tracking.specs.Passes.{Sighting, is_kept, is_slip}
use Rattle.rtk_tracking.specs.Standing.{AreMarked}
use Rattle.rtk_quality.proofs.satellite_counts.slips_in.Given as goal

abbrev pub invariant-loop-place : goal.invariant-loop-place
invariant-loop-place l = record {
  few : l.slips ≤ l.place;
  many : (interval : Option ℕ) (before : List Sighting) (s : Sighting) → l.observed ≡ s.observed → AreMarked l.kept (λ place. is_kept interval place before s)
      → l.slips ≡ count_by (λ place. is_slip interval place before s) (range_with_len 0 l.place);
}

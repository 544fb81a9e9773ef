use Rattle.std.proofs.Common.{◌≡◌, ◌∷◌, ℕ, List, map, Option}
use Rattle.std.specs.List.{range_with_len}
use Rattle.rtk_tracking.specs.Passes.{Sighting}
use Rattle.rtk_tracking.specs.Standing.{AreKnown}
use Rattle.rtk_quality.specs.Counts.{noted_of, counts_of, code_counts_of}
use Rattle.rtk_quality.proofs.ListLemmas.{up_to}
use Rattle.rtk_quality.proofs.satellite_counts.note_codes.Given as goal

abbrev pub invariant-loop-place : goal.invariant-loop-place
invariant-loop-place l =
    (interval : Option ℕ) (before : List Sighting) (s : Sighting) → l.observed ≡ s.observed → AreKnown l.known interval before s
    → l.fn.codes ≡ code_counts_of interval before
    → l.codes ≡ map (up_to l.place (λ place. counts_of (noted_of interval place (s ∷ before))) (λ place. counts_of (noted_of interval place before))) (range_with_len 0 16)

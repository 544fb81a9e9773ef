use Rattle.std.proofs.Common.{◌≡◌, ◌++◌, ℕ, List, drop, Option}
use Rattle.rtk_tracking.specs.Passes.{Sighting}
use Rattle.rtk_quality.specs.Quality.{numbers_of}
use Rattle.rtk_quality.specs.QualityText.{code_in, each_code}
use Rattle.rtk_quality.specs.Standing.{StandsForSatellite}
use Rattle.rtk_quality.proofs.sections.put_codes_in.Given as goal

abbrev pub invariant-loop-at : goal.invariant-loop-at
invariant-loop-at l =
    (interval : Option ℕ) (before : List Sighting) → StandsForSatellite l.counts interval before
    → l.fn.text.items ++ each_code (λ place code. code_in l.form l.section l.satellite code (numbers_of interval before place)) 0 l.codes
    ≡ l.text.items ++ each_code (λ place code. code_in l.form l.section l.satellite code (numbers_of interval before place)) l.at (drop l.at l.codes)

use Rattle.std.proofs.Common.{◌≡◌, ◌++◌, ℕ, List, Option}
use Rattle.std.specs.Prelude.{flat_map}
use Rattle.std.specs.List.{range_with_len}
use Rattle.rtk_rinex.specs.Record.{EpochTableView}
use Rattle.rtk_tracking.specs.Passes.{sightings_of}
use Rattle.rtk_quality.specs.QualityText.{part_of}
use Rattle.rtk_quality.specs.Standing.{StandForSatellites, StandForEnded}
use Rattle.rtk_quality.proofs.sections.put_parts.Given as goal

abbrev pub invariant-loop-place : goal.invariant-loop-place
invariant-loop-place l =
    (most : ℕ) (interval : Option ℕ) (es : List EpochTableView) → StandForSatellites l.satellites most interval es → StandForEnded l.ended most interval es
    → l.text.items ≡ l.fn.text.items ++ flat_map (λ satellite. part_of l.form l.section l.codes interval (sightings_of satellite es) satellite) (range_with_len 1 l.place)

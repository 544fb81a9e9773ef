use Rattle.std.proofs.Common.{◌≡◌, ◌++◌, ℕ, List, Option, drop}
use Rattle.rtk_rinex.specs.Record.{EpochTableView}
use Rattle.rtk_quality.specs.Quality.{code_of_station, satellites_in}
use Rattle.rtk_quality.specs.QualityText.{each_code}
use Rattle.rtk_quality.specs.Entries.{code_entry}
use Rattle.rtk_quality.specs.Standing.{StandForSatellites}
use Rattle.rtk_quality.proofs.sections.put_each_code.Given as goal

abbrev pub invariant-loop-at : goal.invariant-loop-at
invariant-loop-at l =
    (most : ℕ) (interval : Option ℕ) (es : List EpochTableView) → StandForSatellites l.satellites most interval es
    → l.fn.text.items ++ each_code (λ place code. code_entry l.form code (satellites_in most interval es) (code_of_station most interval es place)) 0 l.codes
    ≡ l.text.items ++ each_code (λ place code. code_entry l.form code (satellites_in most interval es) (code_of_station most interval es place)) l.at (drop l.at l.codes)

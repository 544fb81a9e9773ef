use Rattle.std.proofs.Common.{◌≡◌, ◌++◌, ℕ, List, Option, drop}
use Rattle.rtk_rinex.specs.Record.{EpochTableView}
use Rattle.rtk_quality.specs.Quality.{totals_of}
use Rattle.rtk_quality.specs.QualityText.{each_code}
use Rattle.rtk_quality.specs.Shifts.{shift_entry}
use Rattle.rtk_quality.specs.Standing.{StandForSatellites}
use Rattle.rtk_quality.proofs.shifts.put_each_shift.Given as goal

abbrev pub invariant-loop-at : goal.invariant-loop-at
invariant-loop-at l =
    (most : ℕ) (interval : Option ℕ) (es : List EpochTableView) → StandForSatellites l.satellites most interval es
    → l.fn.text.items ++ each_code (λ place code. shift_entry l.form code (totals_of most interval es place).counts.shifts) 0 l.codes
    ≡ l.text.items ++ each_code (λ place code. shift_entry l.form code (totals_of most interval es place).counts.shifts) l.at (drop l.at l.codes)

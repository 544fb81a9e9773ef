-- What is wrong with a line of a record of any systems, in the order in which causes are looked for. A line
-- ends in its LF.
use Rattle.std.specs.Prelude.{◌≡◌, ◌≢◌, ◌≤◌, ◌<◌, ℕ, ◌+◌, ◌-◌, ◌*◌, List, take, length, slice_get, Option, Some}
use Rattle.std.specs.Int.{IsInRange}
use Rattle.rtk_obs.specs.SatelliteIndex.{IsSatelliteIndex, index_name}
use Rattle.rtk_obs.specs.Reading.{IsMoment, reading_of}
use Rattle.rtk_rinex.specs.Record.{epoch_line, code_width}
use Rattle.rtk_rinex.specs.MixedRecord.{mixed_satellite_line}
use Rattle.rtk_rinex.specs.MixedForm.{FormView, width_at, most_satellites}
use Rattle.rtk_rinex.specs.MixedTable.{IsMixedRow}
use Rattle.rtk_rinex.specs.CheckLine.{IsNextTime, IsNextSatellite}
use Rattle.rtk_rinex.specs.declared.epoch_table.SatelliteRow.{SatelliteRow}
use Rattle.rtk_rinex.specs.declared.check_fault.Cause.{Cause}
use Rattle.rtk_rinex.specs.declared.check_fault.Cause.TheVariants.{Columns, Value, Order}

-- formula
-- it is the epoch line of a moment and of a count, which is at most that of all satellites of the systems
-- with codes
abbrev pub IsMixedEpochLine : FormView → List ℕ → ℕ → ℕ → Type 0
IsMixedEpochLine f line t n = IsMoment t × IsInRange 1 (most_satellites f) n × (line ≡ epoch_line (reading_of t) n)

-- an epoch line out of form, or out of order
abbrev pub IsMixedEpochFault : FormView → ℕ → Option ℕ → List ℕ → Cause → Type 0
IsMixedEpochFault f first last line Columns = (t n : ℕ) → ¬ (IsMixedEpochLine f line t n)
IsMixedEpochFault f first last line Order = (t : ℕ) × (n : ℕ) × IsMixedEpochLine f line t n × ¬ (IsNextTime first last t)
IsMixedEpochFault f first last line _ = ⊥

-- formula
-- the form of a satellite line: the name of a satellite of a system with codes, at most 48 columns for each
-- of these codes, or 64 with Doppler shifts, and no blank at the end
abbrev pub IsMixedForm : FormView → List ℕ → ℕ → Type 0
IsMixedForm f line s =
    IsSatelliteIndex s × (take 3 line ≡ index_name s) × (0 < width_at f s) × (length line ≤ 4 + code_width f.doppler * width_at f s)
    × (slice_get line (length line - 2) ≢ Some 32)

-- a satellite line out of form; or out of order; or no row of a file has this line
abbrev pub IsMixedSatelliteFault : FormView → Option ℕ → List ℕ → Cause → Type 0
IsMixedSatelliteFault f last line Columns = (s : ℕ) → ¬ (IsMixedForm f line s)
IsMixedSatelliteFault f last line Order = (s : ℕ) × IsMixedForm f line s × ¬ (IsNextSatellite last s)
IsMixedSatelliteFault f last line Value =
    (s : ℕ) × IsMixedForm f line s × IsNextSatellite last s × ((r : SatelliteRow) → IsMixedRow f r → line ≢ mixed_satellite_line f.doppler r)
IsMixedSatelliteFault f last line _ = ⊥

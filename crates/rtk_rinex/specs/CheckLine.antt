-- What is wrong with a line of a record, in the order in which causes are looked for. A line ends
-- in its LF.
use Rattle.std.specs.Prelude.{◌≡◌, ◌≢◌, ◌≤◌, ◌<◌, ℕ, ◌+◌, ◌-◌, ◌*◌, List, ◌∷◌, take, length, slice_get, Option, Some, None}
use Rattle.std.specs.Int.{IsInRange}
use Rattle.rtk_obs.specs.CivilText.{last_digits}
use Rattle.rtk_obs.specs.Reading.{IsMoment, reading_of}
use Rattle.rtk_rinex.specs.Record.{epoch_line, satellite_line}
use Rattle.rtk_rinex.specs.Table.{IsTableRow}
use Rattle.rtk_rinex.specs.declared.epoch_table.SatelliteRow.{SatelliteRow}
use Rattle.rtk_rinex.specs.declared.check_fault.Cause.{Cause}
use Rattle.rtk_rinex.specs.declared.check_fault.Cause.TheVariants.{Columns, Value, Order}

-- formula
-- it is the epoch line of a moment and a count
abbrev pub IsEpochLine : List ℕ → ℕ → ℕ → Type 0
IsEpochLine line t n = IsMoment t × IsInRange 1 32 n × (line ≡ epoch_line (reading_of t) n)

-- the first epoch is at the first time, and each further one after the last one
abbrev pub IsNextTime : ℕ → Option ℕ → ℕ → Type 0
IsNextTime first None t = t ≡ first
IsNextTime first (Some last) t = last < t

-- an epoch line out of form, or out of order
abbrev pub IsEpochFault : ℕ → Option ℕ → List ℕ → Cause → Type 0
IsEpochFault first last line Columns = (t n : ℕ) → ¬ (IsEpochLine line t n)
IsEpochFault first last line Order = (t : ℕ) × (n : ℕ) × IsEpochLine line t n × ¬ (IsNextTime first last t)
IsEpochFault first last line _ = ⊥

-- formula
-- the form of a satellite line of n codes: G and the satellite in two digits, at most 48 columns
-- for each code, and no blank at the end
abbrev pub IsSatelliteForm : ℕ → List ℕ → ℕ → Type 0
IsSatelliteForm n line s =
    IsInRange 1 32 s × (take 3 line ≡ 71 ∷ last_digits 2 s) × (length line ≤ 4 + 48 * n) × (slice_get line (length line - 2) ≢ Some 32)

-- the satellites of an epoch rise
abbrev pub IsNextSatellite : Option ℕ → ℕ → Type 0
IsNextSatellite None s = Unit {0}
IsNextSatellite (Some last) s = last < s

-- a satellite line out of form; or out of order; or no row of a file has this line
abbrev pub IsSatelliteFault : ℕ → Option ℕ → List ℕ → Cause → Type 0
IsSatelliteFault n last line Columns = (s : ℕ) → ¬ (IsSatelliteForm n line s)
IsSatelliteFault n last line Order = (s : ℕ) × IsSatelliteForm n line s × ¬ (IsNextSatellite last s)
IsSatelliteFault n last line Value =
    (s : ℕ) × IsSatelliteForm n line s × IsNextSatellite last s × ((r : SatelliteRow) → IsTableRow n r → line ≢ satellite_line r)
IsSatelliteFault n last line _ = ⊥

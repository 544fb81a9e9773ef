-- A cell with its satellite and code, and the ranges that the cells of a message keep.
use Rattle.std.specs.Prelude.{◌≡◌, ◌≢◌, ℕ, ◌<◌, ◌≤◌, ◌%◌, Bool, ◌&&◌, ◌⊎◌, nat_le, List, IfSome}
use Rattle.std.specs.List.{AllPairs}
use Rattle.rtk_obs.specs.declared.code.Code.{Code}
use Rattle.rtk_obs.specs.declared.cell.Cell.{Cell}
use Rattle.rtk_obs.specs.declared.cell.CellEntry.{CellEntry}
use Rattle.rtk_obs.specs.Code.{place_of}

abbrev pub entry_of : ℕ → Code → Cell → CellEntry
entry_of satellite code cell = record { satellite = satellite; code = code; cell = cell }

-- constant
-- a satellite of GPS: 1 to 32; others give no cell
-- Source: RINEX 3.05, section 3.5
abbrev pub is_satellite : ℕ → Bool
is_satellite s = nat_le 1 s && nat_le s 32

-- constant
-- Source: RINEX 3.05, section 3.5
abbrev pub IsSatellite : ℕ → Type 0
IsSatellite s = (1 ≤ s) × (s ≤ 32)

-- constant
-- 250 to 63,750 thousandths of a dB-Hz, in steps of 250
-- Source: RTCM 10403.3, DF015 and DF020
pub record IsStrength (s : ℕ) : Type 0 where
  pub least : 250 ≤ s
  pub greatest : s ≤ 63_750
  pub step : s % 250 ≡ 0

-- a satellite from 1 to 32, and no strength or one that messages give
pub record IsInRange (e : CellEntry) : Type 0 where
  pub satellite : IsSatellite e.satellite
  pub strength : IfSome e.cell.strength_millidbhz IsStrength

-- two cells are of different satellites, or of one satellite and different codes
abbrev pub AreDifferentSignals : CellEntry → CellEntry → Type 0
AreDifferentSignals a b = a.satellite ≡ b.satellite → a.code ≢ b.code

-- no two of the cells are of one satellite and code
abbrev pub AreDistinct : List CellEntry → Type 0
AreDistinct cells = AllPairs AreDifferentSignals cells

-- the first cell is of a lesser satellite, or of the same satellite and a code with a lesser place (this
-- project's rule)
abbrev pub IsBefore : CellEntry → CellEntry → Type 0
IsBefore a b = (a.satellite < b.satellite) ⊎ ((a.satellite ≡ b.satellite) × (place_of a.code < place_of b.code))

-- each cell is before all later ones
abbrev pub AreRising : List CellEntry → Type 0
AreRising cells = AllPairs IsBefore cells

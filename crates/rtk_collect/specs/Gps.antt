-- The cells of GPS as cells of a window.
use Rattle.std.specs.Prelude.{ℕ, ◌+◌, ◌*◌, pos}
use Rattle.rtk_obs.specs.Code.{place_of}
use Rattle.rtk_obs.specs.declared.cell.CellEntry.{CellEntry}
use Rattle.rtk_obs.specs.declared.code.Code.{Code}
use Rattle.rtk_collect.specs.declared.conflicts.SatelliteCode.{SatelliteCode}
use Rattle.rtk_collect.specs.Entries.{Entries}

-- formula
-- the number of a satellite and code
abbrev pub gps_place : ℕ → Code → ℕ
gps_place satellite code = satellite * 16 + place_of code

-- what a window asks of the cells of GPS
abbrev pub gps : Entries CellEntry SatelliteCode
gps = record {
  place = λ c. gps_place c.satellite c.code;
  signal = λ c. record { satellite = c.satellite; code = c.code };
  cell = λ c. c.cell;
  doppler = λ c. pos 0;
}

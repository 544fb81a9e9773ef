-- The rows of the cell mask of an MSM, of which entries of any system are set one by one.
use Rattle.std.specs.Prelude.{◌≡◌, ℕ, ℤ, Bool, true, false, List, [], ◌∷◌, map, slice_index, Option, Some}
use Rattle.rtk_message.specs.declared.msm1074.Msm1074.{Msm1074}
use Rattle.rtk_message.specs.declared.msm.Msm.{Msm}
use Rattle.rtk_obs.specs.declared.signal_cells.SignalEntry.{SignalEntry}
use Rattle.rtk_obs.specs.declared.signal_rows.SignalRow.{SignalRow}
use Rattle.rtk_obs.specs.Cell.{is_satellite}
use Rattle.rtk_obs.specs.Doppler.{rough_rate_at}
use Rattle.rtk_obs.specs.MsmCells.{Slot, satellites_of, rough_at, slot_entry, cell_of_1074}
use Rattle.rtk_obs.specs.SatelliteIndex.{index_in}
use Rattle.rtk_obs.specs.SignalCells.{bit_of_row, field_of_row, channel_in, signal_of}

-- an entry is set to the one of these, if there is one
pub record SetsEntry (is_set : Bool) (entry : SignalEntry) (entries : List SignalEntry) : Type 0 where
  pub some : is_set ≡ true → entries ≡ entry ∷ []
  pub none : is_set ≡ false → entries ≡ []

-- the entry of the k-th cell of a 1074, as one of any system
abbrev pub entry_of_1074 : Msm1074 → ℕ → Slot → List SignalEntry
entry_of_1074 m k s = map signal_of (slot_entry m.header (cell_of_1074 m) k s)

-- what the cells of the satellite of a row of a 1074 have in common
pub record IsRowOf1074 (m : Msm1074) (place : ℕ) (row : SignalRow) : Type 0 where
  pub satellite : row.satellite ≡ slice_index (satellites_of m.header) place
  pub gps : is_satellite row.satellite ≡ true
  pub rough : row.rough ≡ rough_at m.rough_ms m.rough_fraction place

-- and of a row of another MSM
pub record IsRowOfMsm (channels : List (Option ℤ)) (m : Msm) (place : ℕ) (row : SignalRow) : Type 0 where
  pub satellite : index_in m.system (bit_of_row m place) ≡ Some row.satellite
  pub channel : row.channel ≡ channel_in m.system channels (bit_of_row m place) (field_of_row m place)
  pub rough : row.rough ≡ rough_at m.rough_ms m.rough_fraction place

-- and of a row whose cells have Doppler shifts
pub record IsDopplerRow (channels : List (Option ℤ)) (m : Msm) (place : ℕ) (row : SignalRow) : Type 0 where
  pub satellite : index_in m.system (bit_of_row m place) ≡ Some row.satellite
  pub channel : row.channel ≡ channel_in m.system channels (bit_of_row m place) (field_of_row m place)
  pub rough : row.rough ≡ rough_at m.rough_ms m.rough_fraction place
  pub rough_rate : row.rough_rate ≡ rough_rate_at m place

-- The cell mask of a message, and the satellite of one of its rows.
use Rattle.std.specs.Prelude.{◌≡◌, ℕ, ◌*◌, ◌^◌, ◌<◌, ◌≤◌, ℤ, List, Option, length, sum_by, count_ones, slice_index, IfSome, unsigned_abs}
use Rattle.std.specs.List.{AllByRecursion}
use Rattle.rtk_message.specs.declared.msm1074.MsmHeader.{MsmHeader}
use Rattle.rtk_message.specs.Msm1074.{satellite_count, signal_count}
use Rattle.rtk_obs.specs.declared.msm_rows.Row.{Row}
use Rattle.rtk_obs.specs.MsmCells.{satellites_of}

-- how many cells a cell mask has: the bits set in its rows
abbrev pub cells_in : List ℕ → ℕ
cells_in cell_mask = sum_by count_ones cell_mask

-- a cell mask has a row for each satellite and in it a bit for each signal, and 64 bits at most
-- (RTCM 10403.3, DF394 to DF396)
pub record IsCellMask (h : MsmHeader) (cell_mask : List ℕ) : Type 0 where
  pub satellites : h.satellite_mask < 2 ^ 64
  pub signals : h.signal_mask < 2 ^ 32
  pub rows : length cell_mask ≡ satellite_count h
  pub fit : AllByRecursion (λ b. b < 2 ^ signal_count h) cell_mask
  pub few : satellite_count h * signal_count h ≤ 64

-- the number and the rough range of the satellite of this row, and that the rough range is small
pub record IsMaskRow (h : MsmHeader) (rough_at : ℕ → Option ℤ) (place : ℕ) (row : Row) : Type 0 where
  pub satellite : row.satellite ≡ slice_index (satellites_of h) place
  pub rough : row.rough ≡ rough_at place
  pub bound : IfSome row.rough (λ r. unsigned_abs r ≤ 2 ^ 38)

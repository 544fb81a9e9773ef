-- Marks of the satellites and codes of cells.
use Rattle.std.specs.Prelude.{◌≡◌, ℕ, Bool, false, List, slice_index_or}
use Rattle.rtk_obs.specs.declared.code.Code.{Code}
use Rattle.rtk_obs.specs.declared.cell.CellEntry.{CellEntry}
use Rattle.rtk_obs.specs.Cell.{IsSatellite}
use Rattle.rtk_obs.specs.CellsLeft.{has_cell}
use Rattle.rtk_obs.specs.Tracks.{place_of_signal}

-- of the satellites from 1 to 32 those satellites and codes are marked that one of the cells has
abbrev pub HasMarks : List Bool → List CellEntry → Type 0
HasMarks marks cells = (n : ℕ) (code : Code) → IsSatellite n → slice_index_or marks (place_of_signal n code) false ≡ has_cell cells n code

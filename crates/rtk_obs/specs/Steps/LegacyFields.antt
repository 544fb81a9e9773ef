-- Marks of the satellites of a 1004 that came.
use Rattle.std.specs.Prelude.{◌≡◌, ℕ, Bool, false, List, slice_index_or}
use Rattle.std.specs.List.{list_any}
use Rattle.rtk_message.specs.declared.obs1004.Satellite.{Satellite}
use Rattle.rtk_obs.specs.Cell.{IsSatellite}
use Rattle.rtk_obs.specs.LegacyCells.{has_number}

-- the satellites from 1 to 32 that are marked are those of these entries
abbrev pub HasSeen : List Bool → List Satellite → Type 0
HasSeen seen entries = (n : ℕ) → IsSatellite n → slice_index_or seen n false ≡ list_any (has_number n) entries

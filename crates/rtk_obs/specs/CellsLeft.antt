-- The cells of a 1004 whose satellite and code no other cell has (this project's rule).
use Rattle.std.specs.Prelude.{ℕ, ◌^◌, ◌<◌, ◌≤◌, Bool, not, ◌&&◌, ◌==◌, List, [], ◌∷◌, length, filter}
use Rattle.std.specs.List.{All, list_any}
use Rattle.rtk_message.specs.declared.obs1004.Satellite.{Satellite}
use Rattle.rtk_obs.specs.declared.code.Code.{Code}
use Rattle.rtk_obs.specs.declared.cell.CellEntry.{CellEntry}
use Rattle.rtk_obs.specs.Code.{place_of}

-- the widths of DF011 (24 bits), DF013, DF019 (7 bits), DF015, DF020 (8 bits) and DF016 (2 bits)
pub record HasLegacyWidths (s : Satellite) : Type 0 where
  pub l1_range : s.l1_range < 2 ^ 24
  pub l1_lock_indicator : s.l1_lock_indicator < 128
  pub l2_lock_indicator : s.l2_lock_indicator < 128
  pub l1_cnr : s.l1_cnr < 256
  pub l2_code : s.l2_code < 4
  pub l2_cnr : s.l2_cnr < 256

-- constant
-- satellites greater than n that rise, to 32 at most (RINEX 3.05, section 3.5)
abbrev pub RiseAbove : ℕ → List Satellite → Type 0
RiseAbove n [] = n ≤ 32
RiseAbove n (s ∷ ss) = (n < s.satellite) × RiseAbove s.satellite ss

-- satellites of a 1004 that rise, from 1 to 32
pub record AreRisingSatellites (ss : List Satellite) : Type 0 where
  pub few : length ss ≤ 31
  pub rise : RiseAbove 0 ss
  pub widths : All HasLegacyWidths ss

-- one of the cells is of this satellite and code
abbrev pub has_cell : List CellEntry → ℕ → Code → Bool
has_cell cells satellite code = list_any (λ e. (e.satellite == satellite) && (place_of e.code == place_of code)) cells

-- the cells whose satellite and code none of the known cells has
abbrev pub cells_left : List CellEntry → List CellEntry → List CellEntry
cells_left known cells = filter (λ e. not (has_cell known e.satellite e.code)) cells

-- What is remembered of satellites and codes.
use Rattle.std.specs.Prelude.{◌≡◌, ℕ, pos, ◌+◌, ◌*◌, ◌<◌, Bool, false, List, [], length, get_or, Option, None, Some}
use Rattle.rtk_obs.specs.SatelliteIndex.{IsSatelliteIndex}
use Rattle.rtk_rinex.specs.declared.epoch_table.Observed.{Observed}
use Rattle.rtk_rinex.specs.declared.epoch_table.SatelliteRow.{SatelliteRow}
use Rattle.rtk_compare.specs.declared.shared_codes.SharedCode.{SharedCode}
use Rattle.rtk_compare.specs.declared.track.Track.{Track}
use Rattle.rtk_compare.specs.declared.difference.Difference.{Difference}
use Rattle.rtk_compare.specs.declared.difference.Place.{Place}
use Rattle.rtk_compare.specs.Pairs.{Pair}
use Rattle.rtk_compare.specs.Phases.{had_phase, fills_gap, rolls_held}
use Rattle.rtk_compare.specs.Cells.{cell_lines}
use Rattle.rtk_compare.specs.Records.{cells_before}

abbrev pub pair : {A : Type 0} → A → A → Pair A
pair old new = record { old = old; new = new }

-- what is remembered after these earlier cells, newest first
pub record IsTrackOf (t : Track) (earlier : List (Pair Observed)) : Type 0 where
  pub had_phase : t.had_phase ≡ had_phase earlier
  pub fills_gap : t.fills_gap ≡ fills_gap earlier
  pub rolls : t.rolls ≡ rolls_held earlier

abbrev pub no_track : Track
no_track = record { had_phase = false; fills_gap = false; rolls = pos 0 }

-- the track of a satellite and of the shared code at this place, 0 to 15
abbrev pub track_at : List Track → ℕ → ℕ → Track
track_at tracks s k = get_or tracks (16 * s + k) no_track

-- there are tracks of all satellites
abbrev pub AreTracks : List Track → Type 0
AreTracks tracks = length tracks ≡ 3552

-- the tracks of a satellite after rows of earlier moments, newest first
abbrev pub AreTracksAt : List Track → (ℕ → List SharedCode) → List (List (Pair SatelliteRow)) → ℕ → Type 0
AreTracksAt tracks shared earlier s =
    (k : ℕ) (code : SharedCode) → k < length (shared s) → IsTrackOf (track_at tracks s k) (cells_before s (get_or (shared s) k code) earlier)

-- and of all satellites
abbrev pub AreTracksOf : List Track → (ℕ → List SharedCode) → List (List (Pair SatelliteRow)) → Type 0
AreTracksOf tracks shared earlier = (s : ℕ) → IsSatelliteIndex s → AreTracksAt tracks shared earlier s

-- the differences of a cell, if there is a place to tell them at
abbrev pub lines_if_told : Bool → Option Place → List (Pair Observed) → Pair Observed → List Difference
lines_if_told shifts None earlier p = []
lines_if_told shifts (Some place) earlier p = cell_lines shifts earlier p place

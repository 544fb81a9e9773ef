-- The last phases of satellites and codes, as epochs are closed one after another.
use Rattle.std.specs.Prelude.{◌≡◌, ℕ, List, Option, None, slice_index_or}
use Rattle.rtk_obs.specs.declared.any_code.AnyCode.{AnyCode}
use Rattle.rtk_obs.specs.declared.signal_cells.SignalEntry.{SignalEntry}
use Rattle.rtk_obs.specs.declared.track.Track.{Track}
use Rattle.rtk_obs.specs.AnyCode.{IsSignal, signal_place}
use Rattle.rtk_collect.specs.EpochSet.{EpochSetView}
use Rattle.rtk_convert.specs.Rows.{last_phase_of}

-- the last phase of a satellite and code, at its place among those of all systems
abbrev pub track_at : List (Option Track) → ℕ → AnyCode → Option Track
track_at tracks satellite code = slice_index_or tracks (signal_place satellite code) None

-- each satellite and code of its system has its last phase at these epochs
abbrev pub HasLastPhases : List (Option Track) → List (EpochSetView SignalEntry) → Type 0
HasLastPhases tracks epochs =
    (satellite : ℕ) (code : AnyCode) → IsSignal satellite code → track_at tracks satellite code ≡ last_phase_of epochs satellite code

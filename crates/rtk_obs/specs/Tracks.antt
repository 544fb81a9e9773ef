-- What a Tracks represents.
use Rattle.std.specs.Prelude.{◌≡◌, ℕ, ◌+◌, ◌-◌, ◌*◌, ◌<◌, ◌≤◌, List, length, Option, Some, None, IfSome, slice_index_or, unsigned_abs}
use Rattle.rtk_obs.specs.declared.code.Code.{Code}
use Rattle.rtk_obs.specs.declared.track.Track.{Track}
use Rattle.rtk_obs.specs.declared.tracks.TheConstants.{SIGNALS}
use Rattle.rtk_obs.specs.Code.{place_of, frequency_of_code}
use Rattle.rtk_obs.specs.Cell.{IsSatellite}
use Rattle.rtk_obs.specs.Rollover.{last_phase}
use Rattle.rtk_obs.specs.CellSteps.{Step, epoch_cells_of, PhasesFall}

-- formula
-- the place of a satellite and code among all 512
abbrev pub place_of_signal : ℕ → Code → ℕ
place_of_signal satellite code = (satellite - 1) * 16 + place_of code

abbrev pub track_at : List (Option Track) → ℕ → Code → Option Track
track_at tracks satellite code = slice_index_or tracks (place_of_signal satellite code) None

-- an epoch comes after the last phase, if there is one
abbrev pub IsLater : Option Track → ℕ → Type 0
IsLater None epoch = Unit {0}
IsLater (Some last) epoch = last.epoch < epoch

-- the roll count is at most the epoch in ms, since epochs rise and a step adds one roll at most
abbrev pub IsBounded : Option Track → Type 0
IsBounded last = IfSome last (λ t. unsigned_abs t.rolls ≤ t.epoch)

abbrev pub AllBounded : List (Option Track) → Type 0
AllBounded tracks = (k : ℕ) → IsBounded (slice_index_or tracks k None)

-- there is a place for each signal, and no roll count is greater than its epoch
pub record HasPlaces (tracks : List (Option Track)) : Type 0 where
  pub count : length tracks ≡ SIGNALS
  pub bounded : AllBounded tracks

-- the phases of each satellite and code came in rising order, and the last of them stands at the
-- place of this satellite and code
pub record RepresentsSteps (tracks : List (Option Track)) (steps : List Step) : Type 0 where
  pub rising : (satellite : ℕ) (code : Code) → IsSatellite satellite → PhasesFall (epoch_cells_of satellite code steps)
  pub last : (satellite : ℕ) (code : Code) → IsSatellite satellite
      → track_at tracks satellite code ≡ last_phase (frequency_of_code code) (epoch_cells_of satellite code steps)

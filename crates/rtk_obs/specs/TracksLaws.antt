-- Laws on the last phase of a list of epochs and on what a Tracks represents.
use Rattle.std.specs.Prelude.{◌≡◌, ◌≢◌, ℕ, ◌<◌, ◌≤◌, true, List, [], ◌∷◌, ◌++◌, Option, filter, MatchOption}
use Rattle.std.specs.List.{AllByRecursion}
use Rattle.rtk_obs.specs.declared.code.Code.{Code}
use Rattle.rtk_obs.specs.declared.track.Track.{Track}
use Rattle.rtk_obs.specs.Slip.{EpochCell, has_phase}
use Rattle.rtk_obs.specs.Cell.{IsSatellite}
use Rattle.rtk_obs.specs.Rollover.{rolls_since, last_after, last_phase}
use Rattle.rtk_obs.specs.CellSteps.{Step, epoch_cells_of, PhasesFall}
use Rattle.rtk_obs.specs.Code.{frequency_of_code}
use Rattle.rtk_obs.specs.Tracks.{IsLater, place_of_signal, track_at, RepresentsSteps}

-- the track is the phase at the greatest of these epochs that has one, with the roll count that
-- follows from the last phase below
pub record IsGreatest (frequency : ℕ) (epochs : List EpochCell) (t : Track) : Type 0 where
  pub seen : EpochCell
  pub above : List EpochCell
  pub below : List EpochCell
  pub among : epochs ≡ above ++ seen ∷ below
  pub with_phase : has_phase seen ≡ true
  pub epoch : t.epoch ≡ seen.epoch
  pub lock_time_ms : t.lock_time_ms ≡ seen.cell.lock_time_ms
  pub source : t.source ≡ seen.cell.source
  pub offset : t.offset ≡ seen.cell.offset
  pub rolls : t.rolls ≡ rolls_since frequency (last_phase frequency below) seen
  pub greatest : AllByRecursion (λ e. e.epoch ≤ t.epoch) (filter has_phase epochs)

-- if the phases fall, the last one is the phase at the greatest epoch; there is none only if no
-- epoch has a phase
abbrev pub LastIsGreatest : Type 0
LastIsGreatest =
    (frequency : ℕ) (epochs : List EpochCell) → PhasesFall epochs
    → MatchOption (last_phase frequency epochs) (filter has_phase epochs ≡ []) (λ t. IsGreatest frequency epochs t)

-- an epoch after each earlier phase of a satellite and code is one that a step may have
abbrev pub LaterThanSteps : Type 0
LaterThanSteps =
    (tracks : List (Option Track)) (steps : List Step) (satellite : ℕ) (code : Code) (epoch : ℕ)
    → RepresentsSteps tracks steps → IsSatellite satellite
    → AllByRecursion (λ e. e.epoch < epoch) (filter has_phase (epoch_cells_of satellite code steps))
    → IsLater (track_at tracks satellite code) epoch

-- and an epoch after a step is one that the next step may have
abbrev pub LaterAfterStep : Type 0
LaterAfterStep =
    (frequency : ℕ) (last : Option Track) (e : EpochCell) (epoch : ℕ) → IsLater last epoch → e.epoch < epoch → IsLater (last_after frequency last e) epoch

-- of all satellites and codes: an epoch that comes after each last phase and after a step also comes
-- after each last phase that the step leaves
abbrev pub AllLaterAfterStep : Type 0
AllLaterAfterStep =
    (old new : List (Option Track)) (satellite : ℕ) (code : Code) (e : EpochCell) (epoch : ℕ)
    → track_at new satellite code ≡ last_after (frequency_of_code code) (track_at old satellite code) e
    → ((s : ℕ) (c : Code) → place_of_signal s c ≢ place_of_signal satellite code → track_at new s c ≡ track_at old s c)
    → ((s : ℕ) (c : Code) → IsLater (track_at old s c) epoch) → e.epoch < epoch → (s : ℕ) (c : Code) → IsLater (track_at new s c) epoch

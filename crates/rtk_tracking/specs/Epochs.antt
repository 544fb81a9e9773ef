-- The epochs of a file, newest first, and what they have of a satellite.
use Rattle.std.specs.Prelude.{◌≡◌, ℕ, zero, suc, ◌==◌, Bool, false, List, [], ◌∷◌, Option, None, Some, is_some, get_or, min, if◌then◌else◌}
use Rattle.rtk_rinex.specs.Record.{EpochTableView, no_observation}
use Rattle.rtk_rinex.specs.Table.{WellFormedTable, IsWellFormedTable, table_text}
use Rattle.rtk_rinex.specs.declared.epoch_table.Observed.{Observed}
use Rattle.rtk_rinex.specs.declared.epoch_table.SatelliteRow.{SatelliteRow}

-- a count as it is shown: it stays at the greatest value of a u64, which no test reaches
abbrev pub capped : ℕ → ℕ
capped n = min n 18_446_744_073_709_551_615

-- epochs that come after others, in this order
abbrev pub epochs_onto : List EpochTableView → List EpochTableView → List EpochTableView
epochs_onto [] before = before
epochs_onto (e ∷ es) before = epochs_onto es (e ∷ before)

abbrev pub newest_first : List EpochTableView → List EpochTableView
newest_first epochs = epochs_onto epochs []

-- the moment of the newest epoch
abbrev pub newest_moment : List EpochTableView → Option ℕ
newest_moment [] = None
newest_moment (e ∷ before) = Some e.time

-- what the codes of a satellite show in an epoch, by its rows; nothing if it has no row
abbrev pub observed_in : ℕ → List SatelliteRow → List Observed
observed_in satellite [] = []
observed_in satellite (r ∷ rows) = if r.satellite == satellite then r.observed.items else observed_in satellite rows

-- the phase of the code at this place stands
abbrev pub shows_phase : ℕ → List Observed → Bool
shows_phase place [] = false
shows_phase zero (o ∷ os) = is_some o.phase_millicycles
shows_phase (suc place) (o ∷ os) = shows_phase place os

-- what the code at this place shows
abbrev pub shown_at : ℕ → List Observed → Observed
shown_at place os = get_or os place no_observation

-- this holds of the epochs, newest first, of each table whose text the file is
abbrev pub HoldsOfEpochs : List ℕ → (List EpochTableView → Type 0) → Type 0
HoldsOfEpochs file Holds = (t : WellFormedTable) → IsWellFormedTable t → file ≡ table_text t → Holds (newest_first t.epochs)

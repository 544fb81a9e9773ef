-- The signals of all systems as cells of a window.
use Rattle.std.specs.Prelude.{◌≡◌, ◌↔◌, ℕ, ◌+◌, ◌*◌, ◌<◌, ◌≤◌, ℤ, Bool, List, map, length, All, Option, if◌then◌else◌}
use Rattle.rtk_message.specs.declared.any_message.AnyMessage.{AnyMessage as Message}
use Rattle.rtk_message.specs.declared.any_message.AnyMessage.TheVariants as any
use Rattle.rtk_message.specs.declared.obs1004.Satellite.{Satellite}
use Rattle.rtk_message.specs.declared.system.System.TheVariants.{Gps}
use Rattle.rtk_obs.specs.AnyCode.{number_of}
use Rattle.rtk_obs.specs.Doppler.{entries_with_doppler}
use Rattle.rtk_obs.specs.LegacyCells.{cells_of_1004}
use Rattle.rtk_obs.specs.MessageCells.{cells_of}
use Rattle.rtk_obs.specs.SbasCells.{entries_with_sbas}
use Rattle.rtk_obs.specs.SignalCells.{signal_of, entries_of}
use Rattle.rtk_obs.specs.declared.any_code.AnyCode.{AnyCode}
use Rattle.rtk_obs.specs.declared.cell.CellEntry.{CellEntry}
use Rattle.rtk_obs.specs.declared.signal_cells.SignalEntry.{SignalEntry}
use Rattle.rtk_collect.specs.declared.conflicts.AnySatelliteCode.{AnySatelliteCode}
use Rattle.rtk_collect.specs.Arrival.{Arrival, message_of}
use Rattle.rtk_collect.specs.Entries.{Entries}
use Rattle.rtk_collect.specs.EpochSet.{EpochSetView}
use Rattle.rtk_collect.specs.Key.{key}
use Rattle.rtk_collect.specs.Gps.{gps}
use Rattle.rtk_collect.specs.Accepted.{kept}

-- formula
-- the number of a satellite and code of any system (this project's rule)
abbrev pub signal_number : ℕ → AnyCode → ℕ
signal_number satellite code = satellite * 128 + number_of code

-- what a window asks of the signals of all systems
abbrev pub signals : Entries SignalEntry AnySatelliteCode
signals = record {
  place = λ c. signal_number c.satellite c.code;
  signal = λ c. record { satellite = c.satellite; code = c.code };
  cell = λ c. c.cell;
  doppler = λ c. c.doppler_millihertz;
}

-- formula
-- the entries of the satellites of a 1004
abbrev pub legacy_entries : List Satellite → List SignalEntry
legacy_entries ss = map signal_of (cells_of_1004 ss)

-- formula
-- the entries of a message, with those of SBAS in a 1004 or without them (this project's rule)
abbrev pub plain_entries_by : Bool → List (Option ℤ) → Message → List SignalEntry
plain_entries_by sbas channels = if sbas then entries_with_sbas channels else entries_of channels

-- formula
-- these entries, with the Doppler shifts of an MSM or without them (this project's rule)
abbrev pub entries_by : Bool → Bool → List (Option ℤ) → Message → List SignalEntry
entries_by sbas doppler channels = if doppler then entries_with_doppler (plain_entries_by sbas channels) channels else plain_entries_by sbas channels

-- two cells of any systems have one key exactly if satellite, code and kind of message are the same
abbrev pub SignalKeysAreDistinct : Type 0
SignalKeysAreDistinct = (c d : SignalEntry) → (key signals c ≡ key signals d) ↔ ((c.satellite ≡ d.satellite) × (c.code ≡ d.code) × (c.cell.source ≡ d.cell.source))

-- cells of GPS have the same order among all signals
abbrev pub GpsKeepsItsOrder : Type 0
GpsKeepsItsOrder = (c d : CellEntry) → (key gps c < key gps d) ↔ (key signals (signal_of c) < key signals (signal_of d))

-- the satellites of the cells of all these arrivals are at most this one
abbrev pub AreUpTo : Bool → Bool → List (Option ℤ) → ℕ → List Arrival → Type 0
AreUpTo sbas doppler channels greatest arrivals = All (λ a. All (λ c. c.satellite ≤ greatest) (entries_by sbas doppler channels (message_of a))) arrivals

-- an epoch has at most 32 cells for each satellite up to the greatest one: for 16 codes and 2 kinds of message
abbrev pub EpochsAreOfSatellites : Type 0
EpochsAreOfSatellites = (sbas doppler : Bool) (channels : List (Option ℤ)) (greatest n : ℕ) (arrivals : List Arrival) → AreUpTo sbas doppler channels greatest arrivals
    → All (λ x. length x.cells ≤ 32 * greatest) (kept signals (entries_by sbas doppler channels) n arrivals)

-- a message of GPS, or of a station
abbrev pub IsGpsMessage : Message → Type 0
IsGpsMessage (any.Message m) = Unit {0}
IsGpsMessage (any.Msm m) = m.system ≡ Gps
IsGpsMessage (any.Obs1012 m) = ⊥

-- an epoch of GPS as one of signals
abbrev pub epoch_of_signals : EpochSetView CellEntry → EpochSetView SignalEntry
epoch_of_signals x = record { epoch = x.epoch; cells = map signal_of x.cells }

-- of messages of GPS the same is kept, whatever the channels are
abbrev pub GpsIsKept : Type 0
GpsIsKept = (channels : List (Option ℤ)) (n : ℕ) (arrivals : List Arrival) → All (λ a. IsGpsMessage (message_of a)) arrivals
    → kept signals (entries_of channels) n arrivals ≡ map epoch_of_signals (kept gps cells_of n arrivals)

-- The cells of an epoch are taken one after another: what they show, and which phases are the last
-- ones.
use Rattle.std.specs.Prelude.{◌≡◌, ◌≢◌, ◌==◌, ◌<◌, ◌≤◌, ◌+◌, ℕ, Bool, true, false, List, [], ◌∷◌, ◌++◌, map, length, slice_index, slice_index_or, slice_range, Option, Some, None, not, ◌⊎◌, IsTrue, IsBitSet, bit_and, ◌^◌, is_some, All, AllPairs, if◌then◌else◌}
use Rattle.std.specs.List.{list_any}
use Rattle.rtk_obs.specs.declared.any_code.AnyCode.{AnyCode}
use Rattle.rtk_obs.specs.declared.any_code.AnyCode.TheVariants.{G1C}
use Rattle.rtk_obs.specs.declared.signal_cells.SignalEntry.{SignalEntry}
use Rattle.rtk_obs.specs.declared.track.Track.{Track}
use Rattle.rtk_message.specs.declared.system.System.{System}
use Rattle.rtk_obs.specs.AnyCode.{IsSignal, place_of, signal_place, system_of}
use Rattle.rtk_obs.specs.Slip.{epoch_cell}
use Rattle.rtk_obs.specs.Rollover.{last_after, digits_since}
use Rattle.rtk_obs.specs.SignalCells.{IsSignalInRange, EntriesAreOfOneKind}
use Rattle.rtk_obs.specs.Tracks.{IsLater}
use Rattle.rtk_collect.specs.Key.{KeysRise}
use Rattle.rtk_collect.specs.Signals.{signals}
use Rattle.rtk_rinex.specs.declared.epoch_table.Observed.{Observed}
use Rattle.rtk_rinex.specs.declared.epoch_table.SatelliteRow.{SatelliteRow}
use Rattle.rtk_rinex.specs.Record.{has_observation_or_doppler}
use Rattle.rtk_convert.specs.LastPhases.{track_at}
use Rattle.rtk_convert.specs.Rows.{rolling_frequency, codes_for, first_cell, observed_with, observed_after, or_nothing}
use Rattle.rtk_convert.specs.Steps.RowLines.{Keeps}

-- ---- the last phases

-- all last phases are of epochs below this one
abbrev pub AllBelow : List (Option Track) → ℕ → Type 0
AllBelow tracks epoch = (satellite : ℕ) (code : AnyCode) → IsSignal satellite code → IsLater (track_at tracks satellite code) epoch

abbrev pub track_after : Option Track → AnyCode → ℕ → Option SignalEntry → Option Track
track_after last code epoch None = last
track_after last code epoch (Some e) = last_after (rolling_frequency code) last (epoch_cell epoch e.cell)

-- these cells of an epoch were taken: of each satellite and code the phase of the first cell is the
-- last one
abbrev pub AreTaken : List (Option Track) → ℕ → List SignalEntry → List (Option Track) → Type 0
AreTaken old epoch cells new =
    (satellite : ℕ) (code : AnyCode) → IsSignal satellite code
    → track_at new satellite code ≡ track_after (track_at old satellite code) code epoch (first_cell cells satellite code)

-- if a code of a satellite has none of these cells, its last phase is of an epoch before this one
abbrev pub MayStep : List (Option Track) → List SignalEntry → ℕ → ℕ → Type 0
MayStep tracks cells satellite epoch =
    (code : AnyCode) → IsSignal satellite code → first_cell cells satellite code ≡ None → IsLater (track_at tracks satellite code) epoch

-- ---- the places of the cells of a satellite

-- the cells before a place are of lesser satellites than this one, the others are not
pub record IsPlaceOf (satellite : ℕ) (cells : List SignalEntry) (place : ℕ) : Type 0 where
  pub within : place ≤ length cells
  pub lesser : (k : ℕ) (d : SignalEntry) → k < place → (slice_index_or cells k d).satellite < satellite
  pub others : (k : ℕ) (d : SignalEntry) → place ≤ k → k < length cells → satellite ≤ (slice_index_or cells k d).satellite

-- the cells rise, and this is the place of a satellite in them
pub record RiseFrom (satellite : ℕ) (cells : List SignalEntry) (at : ℕ) : Type 0 where
  pub rises : KeysRise signals cells
  pub place : IsPlaceOf satellite cells at

-- cells of one kind, in range, that rise, and the place of a satellite in them
pub record HasCellsFrom (satellite : ℕ) (cells : List SignalEntry) (at : ℕ) : Type 0 where
  pub ranges : All IsSignalInRange cells
  pub kind : EntriesAreOfOneKind cells
  pub from : RiseFrom satellite cells at

-- whether a cell of this satellite stands at this place
pub record TellsSatellite (satellite : ℕ) (cells : List SignalEntry) (at : ℕ) (answer : Bool) : Type 0 where
  pub yes : IsTrue answer → (at < length cells) × ((d : SignalEntry) → (slice_index_or cells at d).satellite ≡ satellite)
  pub no : IsTrue (not answer) → at < length cells → ((d : SignalEntry) → (slice_index_or cells at d).satellite ≢ satellite)

-- a set of codes of the system of a satellite, whose bits are at their places: those that have one of these
-- cells of the satellite
pub record IsSetOfCodes (codes : ℕ) (cells : List SignalEntry) (satellite : ℕ) : Type 0 where
  pub some : (code : AnyCode) → IsSignal satellite code → IsBitSet codes (place_of code) → is_some (first_cell cells satellite code) ≡ true
  pub none : (code : AnyCode) → IsSignal satellite code → bit_and codes (2 ^ place_of code) ≡ 0 → first_cell cells satellite code ≡ None

-- this is the least satellite of the cells at these places of two lists
pub record IsLeastAt (satellite : ℕ) (msm : List SignalEntry) (i : ℕ) (legacy : List SignalEntry) (j : ℕ) : Type 0 where
  pub msm_least : i < length msm → (d : SignalEntry) → satellite ≤ (slice_index_or msm i d).satellite
  pub legacy_least : j < length legacy → (d : SignalEntry) → satellite ≤ (slice_index_or legacy j d).satellite
  pub one : (d : SignalEntry) → ((i < length msm) × ((slice_index_or msm i d).satellite ≡ satellite)) ⊎ ((j < length legacy) × ((slice_index_or legacy j d).satellite ≡ satellite))

-- the cells of a satellite stand between these two places
pub record AreCellsTo (satellite : ℕ) (cells : List SignalEntry) (begin end : ℕ) : Type 0 where
  pub from : begin ≤ end
  pub next : IsPlaceOf (satellite + 1) cells end

-- ---- the codes of a row

-- the code at a place among the codes of its system
abbrev pub is_at : ℕ → AnyCode → Bool
is_at place c = place_of c == place

-- where the code with this place stands among the codes of a row, or one after them if it does not
pub record IsPlaceAmong (codes : List AnyCode) (place column : ℕ) : Type 0 where
  pub unlisted : length codes ≤ column → list_any (is_at place) codes ≡ false
  pub found : column < length codes → is_at place (slice_index_or codes column G1C) ≡ true

-- where all codes stand among those of a row, whose places differ
pub record ArePlaces (codes : List AnyCode) (columns : List ℕ) : Type 0 where
  pub distinct : AllPairs (λ a b. place_of a ≢ place_of b) codes
  pub among : (place : ℕ) → place < 16 → IsPlaceAmong codes place (slice_index columns place)

-- where all codes stand among those of a row, and how many of them are written without Doppler shifts: all, or none in a
-- file that has shifts (true)
pub record AreColumns (doppler : Bool) (plain : ℕ) (codes : List AnyCode) (columns : List ℕ) : Type 0 where
  pub places : ArePlaces codes columns
  pub without : plain ≡ (if doppler then 0 else length codes)

-- these are the codes of the rows of this satellite and of those after it up to another one
pub record AreCodesTo (listed : List AnyCode) (satellite last : ℕ) (codes : List AnyCode) : Type 0 where
  pub few : length codes ≤ 16
  pub codes_are : (s : ℕ) → satellite ≤ s → s ≤ last → codes_for listed s ≡ codes

-- all codes of a row are of the system of its satellite
abbrev pub AreRowCodes : List AnyCode → ℕ → Type 0
AreRowCodes codes satellite = All (IsSignal satellite) codes

-- the codes before this place are not of a system, and after them comes the first code of the system, if there
-- is one
pub record AreCodesBefore (listed : List AnyCode) (system : System) (place : ℕ) : Type 0 where
  pub within : place ≤ length listed
  pub others : (k : ℕ) (d : AnyCode) → k < place → system_of (slice_index_or listed k d) ≢ system
  pub next : (d : AnyCode) → place < length listed → system_of (slice_index_or listed place d) ≡ system

-- the codes between these places are of a system, and the one after them is not
pub record AreCodesFrom (listed : List AnyCode) (system : System) (begin end : ℕ) : Type 0 where
  pub from : begin ≤ end
  pub within : end ≤ length listed
  pub own : (k : ℕ) (d : AnyCode) → begin ≤ k → k < end → system_of (slice_index_or listed k d) ≡ system
  pub last : (d : AnyCode) → end < length listed → system_of (slice_index_or listed end d) ≢ system

-- a row in which the code with this place shows this
abbrev pub with_place : ℕ → Observed → List AnyCode → List Observed → List Observed
with_place place shown [] row = row
with_place place shown (c ∷ codes) [] = []
with_place place shown (c ∷ codes) (x ∷ row) = (if is_at place c then shown else x) ∷ with_place place shown codes row

-- in a row of these codes the one with this place shows nothing
pub record IsFreeOf (place : ℕ) (codes : List AnyCode) (row : List Observed) : Type 0 where
  pub width : length row ≡ length codes
  pub free : (k : ℕ) (d : Observed) → k < length codes → is_at place (slice_index_or codes k G1C) ≡ true → has_observation_or_doppler (slice_index_or row k d) ≡ false

-- a line of these codes is open in which the one with this place shows nothing
pub record HasFreeOf {L : Type 0} (HasLine : L → List Observed → Type 0) (lines : L) (place : ℕ) (codes : List AnyCode) : Type 0 where
  pub row : List Observed
  pub open_line : HasLine lines row
  pub free : IsFreeOf place codes row

-- ---- the row of a satellite

-- what a satellite and code show at an epoch by the first of their cells
abbrev pub shown_by : List (Option Track) → ℕ → List SignalEntry → ℕ → AnyCode → Option Observed
shown_by old epoch cells satellite code = observed_after (track_at old satellite code) code epoch (first_cell cells satellite code)

-- these cells of an epoch were taken, and the open line shows the row of a satellite by them
pub record ShowsRow {L : Type 0} (HasLine : L → List Observed → Type 0) (old : List (Option Track)) (epoch : ℕ) (cells : List SignalEntry)
    (satellite : ℕ) (codes : List AnyCode) (tracks : List (Option Track)) (lines : L) : Type 0 where
  pub taken : AreTaken old epoch cells tracks
  pub row : HasLine lines (map (λ code. or_nothing (shown_by old epoch cells satellite code)) codes)

-- the same after some last phases
pub record ShowsSome {L : Type 0} (HasLine : L → List Observed → Type 0) (epoch : ℕ) (cells : List SignalEntry) (satellite : ℕ)
    (codes : List AnyCode) (tracks : List (Option Track)) (lines : L) : Type 0 where
  pub first : List (Option Track)
  pub shows : ShowsRow HasLine first epoch cells satellite codes tracks lines

-- the cells between two places are of this satellite, and were taken after the earlier ones
pub record TakesCells {L : Type 0} (HasRows : L → Bool → List SatelliteRow → Type 0) (HasLine : L → List Observed → Type 0) (epoch : ℕ)
    (earlier cells : List SignalEntry) (begin end satellite : ℕ) (codes : List AnyCode)
    (old : List (Option Track)) (before : L) (tracks : List (Option Track)) (lines : L) : Type 0 where
  pub from : begin ≤ end
  pub within : end ≤ length cells
  pub same : (k : ℕ) (d : SignalEntry) → begin ≤ k → k < end → (slice_index_or cells k d).satellite ≡ satellite
  pub later : MayStep tracks (earlier ++ slice_range cells begin end) satellite epoch
  pub kept : Keeps HasRows before lines
  pub shows : (first : List (Option Track)) → ShowsRow HasLine first epoch earlier satellite codes old before
      → ShowsRow HasLine first epoch (earlier ++ slice_range cells begin end) satellite codes tracks lines

-- the first cell of a satellite and code takes a step of its track, and what it shows stands in the
-- open line if its code is listed
pub record StepsOver {L : Type 0} (HasRows : L → Bool → List SatelliteRow → Type 0) (HasLine : L → List Observed → Type 0) (epoch : ℕ) (e : SignalEntry)
    (codes : List AnyCode) (tracks after : List (Option Track)) (old new : L) : Type 0 where
  pub track : track_at after e.satellite e.code ≡ last_after (rolling_frequency e.code) (track_at tracks e.satellite e.code) (epoch_cell epoch e.cell)
  pub others : (s : ℕ) (c : AnyCode) → signal_place s c ≢ signal_place e.satellite e.code → track_at after s c ≡ track_at tracks s c
  pub row : (row : List Observed) → HasLine old row → IsFreeOf (place_of e.code) codes row
      → HasLine new (with_place (place_of e.code) (observed_with e (digits_since (rolling_frequency e.code) (track_at tracks e.satellite e.code) (epoch_cell epoch e.cell))) codes row)
  pub kept : Keeps HasRows old new

-- Well-formed tables of any systems, and their text. A row has the index of its satellite among those of
-- all systems.
use Rattle.std.specs.Prelude.{◌≡◌, ◌≢◌, ◌<◌, ◌==◌, nat_lt, get_or, ℕ, Bool, List, [], ◌++◌, length, flat_map, map, All, AllPairs, None, false, IsTrue}
use Rattle.std.specs.List.{filter}
use Rattle.rtk_message.specs.declared.system.System.TheVariants.{Glonass}
use Rattle.rtk_obs.specs.SatelliteIndex.{IsSatelliteIndex, system_at, bit_at, letter_of}
use Rattle.rtk_obs.specs.Reading.{IsMoment}
use Rattle.rtk_rinex.specs.Header.{PositionView, IsPositionView}
use Rattle.rtk_rinex.specs.Record.{EpochTableView, IsStrengthOrNone, is_present, has_line_in}
use Rattle.rtk_rinex.specs.Table.{IsObservedIn, StartsAt, shown_epoch_in, WellFormedTable, IsWellFormedTable, table_text}
use Rattle.rtk_rinex.specs.MixedHead.{MixedHeadView, IsMixedHead}
use Rattle.rtk_rinex.specs.MixedHeader.{codes_of, mixed_header_text}
use Rattle.rtk_rinex.specs.MixedRecord.{mixed_record_text}
use Rattle.rtk_rinex.specs.MixedForm.{FormView, width_at, has_channel, has_phases, form_of_head}
use Rattle.rtk_rinex.specs.declared.epoch_table.Observed.{Observed}
use Rattle.rtk_rinex.specs.declared.epoch_table.SatelliteRow.{SatelliteRow}

-- a code shows no phase, and no Doppler shift, which is the rate of a phase
abbrev pub HasNoPhase : Observed → Type 0
HasNoPhase o = (o.phase_millicycles ≡ None) × (o.doppler_millihertz ≡ None)

-- formula
-- a satellite of a file of this form: it has a line, which is as wide as the codes of its system, and shows
-- no phase and no Doppler shift that has no meaning
pub record IsMixedRow (f : FormView) (r : SatelliteRow) : Type 0 where
  pub satellite : IsSatelliteIndex r.satellite
  pub width : length r.observed.items ≡ width_at f r.satellite
  pub observed : All (IsObservedIn f.doppler) r.observed.items
  pub phases : has_phases f r.satellite ≡ false → All HasNoPhase r.observed.items
  pub line : IsTrue (has_line_in f.doppler r)

-- formula
-- an epoch of a file of this form: its satellites rise, in the order G R E C J S I
pub record IsMixedEpoch (f : FormView) (e : EpochTableView) : Type 0 where
  pub time : IsMoment e.time
  pub some : e.rows ≢ []
  pub rows : All (IsMixedRow f) e.rows
  pub rise : AllPairs (λ a b. a.satellite < b.satellite) e.rows

-- a file: its head, its position, the moment of its first observation, and its epochs
pub record MixedTable : Type 0 where
  pub head : MixedHeadView
  pub site : PositionView
  pub first : ℕ
  pub epochs : List EpochTableView

-- formula
-- a well-formed table of any systems
pub record IsMixedTable (t : MixedTable) : Type 0 where
  pub head : IsMixedHead t.head
  pub site : IsPositionView t.site
  pub first : IsMoment t.first
  pub starts : StartsAt t.first t.epochs
  pub epochs : All (IsMixedEpoch (form_of_head t.head)) t.epochs
  pub rise : AllPairs (λ a b. a.time < b.time) t.epochs

-- the text of a table: its header, then a record for each epoch
abbrev pub mixed_table_text : MixedTable → List ℕ
mixed_table_text t = mixed_header_text t.head t.site t.first ++ flat_map (mixed_record_text t.head.doppler) t.epochs

-- ---- whether the text has Doppler shifts

-- formula
-- the third type of the first code of a file is that of a Doppler shift: column 16 of the tenth line (this project's
-- order of lines)
abbrev pub has_shift_type : List ℕ → Bool
has_shift_type text = get_or text 744 0 == 68

-- so a text tells whether the file has Doppler shifts
abbrev pub TypesTellShifts : Type 0
TypesTellShifts = (t : MixedTable) → IsMixedTable t → has_shift_type (mixed_table_text t) ≡ t.head.doppler

-- and a file of GPS has no such type
abbrev pub GpsShowsNoShifts : Type 0
GpsShowsNoShifts = (t : WellFormedTable) → IsWellFormedTable t → has_shift_type (table_text t) ≡ false

-- ---- the file of a head and of epochs

-- no phase of a code is written, and no Doppler shift
abbrev pub WritesNoPhase : Observed → Type 0
WritesNoPhase o = (is_present o.phase_millicycles ≡ false) × (is_present o.doppler_millihertz ≡ false)

-- a satellite of a file of this head, with a line or without one: it has as many observations as the head lists
-- codes of its system, and if it is of GLONASS and the head tells no channel of its slot, no phase and no Doppler
-- shift is written
pub record IsRowOfHead (h : MixedHeadView) (r : SatelliteRow) : Type 0 where
  pub satellite : IsSatelliteIndex r.satellite
  pub width : length r.observed.items ≡ length (codes_of (letter_of (system_at r.satellite)) h.listed)
  pub strengths : All (λ o. IsStrengthOrNone o.strength_millidbhz) r.observed.items
  pub phases : system_at r.satellite ≡ Glonass → has_channel h.glonass (bit_at r.satellite) ≡ false → All WritesNoPhase r.observed.items

-- an epoch of a file of this head: good rows, and the satellites rise
pub record IsEpochOfHead (h : MixedHeadView) (e : EpochTableView) : Type 0 where
  pub time : IsMoment e.time
  pub rows : All (IsRowOfHead h) e.rows
  pub rise : AllPairs (λ a b. a.satellite < b.satellite) e.rows

-- the epochs that have a record
abbrev pub with_mixed_record : Bool → List EpochTableView → List EpochTableView
with_mixed_record doppler epochs = filter (λ e. nat_lt 0 (length (mixed_record_text doppler e))) epochs

-- the table of a header and of the epochs after it that have a record, as the file shows them
abbrev pub shown_mixed_table : MixedHeadView → PositionView → ℕ → List EpochTableView → MixedTable
shown_mixed_table h s first epochs = record { head = h; site = s; first = first; epochs = map (shown_epoch_in h.doppler) (with_mixed_record h.doppler epochs) }

-- a header of any systems and the records after it are the text of a well-formed table
pub record IsShownByMixedFile (h : MixedHeadView) (s : PositionView) (first : ℕ) (epochs : List EpochTableView) : Type 0 where
  pub table : IsMixedTable (shown_mixed_table h s first epochs)
  pub text : mixed_header_text h s first ++ flat_map (mixed_record_text h.doppler) epochs ≡ mixed_table_text (shown_mixed_table h s first epochs)

-- this holds for all rising epochs of a file of the head, if the first epoch with a record is at the header's first
-- time
abbrev pub MixedFilesAreTables : Type 0
MixedFilesAreTables =
    (h : MixedHeadView) (s : PositionView) (first : ℕ) (epochs : List EpochTableView) → IsMixedHead h → IsPositionView s → IsMoment first
    → All (IsEpochOfHead h) epochs → AllPairs (λ a b. a.time < b.time) epochs → StartsAt first (with_mixed_record h.doppler epochs)
    → IsShownByMixedFile h s first epochs

-- Well-formed tables of observations, and their text: what a file of this project can be.
use Rattle.std.specs.Prelude.{◌≡◌, ◌≢◌, ◌<◌, nat_lt, ℕ, List, [], ◌∷◌, ◌++◌, length, flat_map, map, All, AllPairs, ℤ, Option, Some, None, Bool, true, false, ◌&&◌, if◌then◌else◌, IsTrue}
use Rattle.std.specs.Int.{IsInRange}
use Rattle.std.specs.List.{filter}
use Rattle.rtk_obs.specs.Reading.{IsMoment}
use Rattle.rtk_rinex.specs.Header.{HeadView, PositionView, IsHeadView, IsPositionView, header_text}
use Rattle.rtk_rinex.specs.Record.{EpochTableView, IsEpochTableView, IsStrengthOrNone, HasWidth, is_written, is_present, has_line, has_line_in, record_text}
use Rattle.rtk_rinex.specs.declared.epoch_table.Observed.{Observed}
use Rattle.rtk_rinex.specs.declared.epoch_table.SatelliteRow.{SatelliteRow}

-- a file: its head, its position, the moment of its first observation, and its epochs
pub record WellFormedTable : Type 0 where
  pub head : HeadView
  pub site : PositionView
  pub first : ℕ
  pub epochs : List EpochTableView

-- no value, or one that is written
abbrev pub IsAbsentOrWritten : Option ℤ → Type 0
IsAbsentOrWritten None = Unit {0}
IsAbsentOrWritten (Some v) = IsTrue (is_written v)

-- without a phase there is no loss-of-lock indicator
abbrev pub IsLock : Option ℤ → Bool → Bool → Type 0
IsLock None slip half = (slip ≡ false) × (half ≡ false)
IsLock (Some v) slip half = Unit {0}

-- formula
-- what a code of a file without Doppler shifts can show
pub record IsObserved (o : Observed) : Type 0 where
  pub range : IsAbsentOrWritten o.range_mm
  pub phase : IsAbsentOrWritten o.phase_millicycles
  pub strength : IsStrengthOrNone o.strength_millidbhz
  pub lock : IsLock o.phase_millicycles o.slip o.half
  pub doppler : o.doppler_millihertz ≡ None

-- formula
-- what a code of a file with Doppler shifts can show
pub record IsObservedWithDoppler (o : Observed) : Type 0 where
  pub range : IsAbsentOrWritten o.range_mm
  pub phase : IsAbsentOrWritten o.phase_millicycles
  pub strength : IsStrengthOrNone o.strength_millidbhz
  pub lock : IsLock o.phase_millicycles o.slip o.half
  pub doppler : IsAbsentOrWritten o.doppler_millihertz

-- what a code of a file with Doppler shifts (true), or without them, can show
abbrev pub IsObservedIn : Bool → Observed → Type 0
IsObservedIn false = IsObserved
IsObservedIn true = IsObservedWithDoppler

-- formula
-- a satellite of a file of n codes: it has a line
pub record IsTableRow (n : ℕ) (r : SatelliteRow) : Type 0 where
  pub satellite : IsInRange 1 32 r.satellite
  pub width : length r.observed.items ≡ n
  pub observed : All IsObserved r.observed.items
  pub line : IsTrue (has_line r)

-- formula
-- an epoch of a file of n codes: its satellites rise, so there are 1 to 32
pub record IsTableEpoch (n : ℕ) (e : EpochTableView) : Type 0 where
  pub time : IsMoment e.time
  pub some : e.rows ≢ []
  pub rows : All (IsTableRow n) e.rows
  pub rise : AllPairs (λ a b. a.satellite < b.satellite) e.rows

-- the first epoch, if there is one, is at the first time
abbrev pub StartsAt : ℕ → List EpochTableView → Type 0
StartsAt first [] = Unit {0}
StartsAt first (e ∷ epochs) = e.time ≡ first

-- formula
-- a well-formed table
pub record IsWellFormedTable (t : WellFormedTable) : Type 0 where
  pub head : IsHeadView t.head
  pub site : IsPositionView t.site
  pub first : IsMoment t.first
  pub starts : StartsAt t.first t.epochs
  pub epochs : All (IsTableEpoch (length t.head.listed)) t.epochs
  pub rise : AllPairs (λ a b. a.time < b.time) t.epochs

-- the text of a table: its header, then a record for each epoch
abbrev pub table_text : WellFormedTable → List ℕ
table_text t = header_text t.head t.site t.first ++ flat_map record_text t.epochs

-- a value as the file shows it: no value if it is not written
abbrev pub shown_value : Option ℤ → Option ℤ
shown_value None = None
shown_value (Some v) = if is_written v then Some v else None

-- an observation as a file without Doppler shifts shows it
abbrev pub shown : Observed → Observed
shown o =
    record {
      range_mm = shown_value o.range_mm;
      phase_millicycles = shown_value o.phase_millicycles;
      doppler_millihertz = None;
      strength_millidbhz = o.strength_millidbhz;
      slip = o.slip && is_present o.phase_millicycles;
      half = o.half && is_present o.phase_millicycles;
    }

abbrev pub shown_row : SatelliteRow → SatelliteRow
shown_row r = record { satellite = r.satellite; observed = record { items = map shown r.observed.items } }

-- an epoch as the file shows it: the satellites that have a line, with what is written of them
abbrev pub shown_epoch : EpochTableView → EpochTableView
shown_epoch e = record { time = e.time; rows = map shown_row (filter has_line e.rows) }

-- an observation as a file with Doppler shifts shows it
abbrev pub shown_with_doppler : Observed → Observed
shown_with_doppler o =
    record {
      range_mm = shown_value o.range_mm;
      phase_millicycles = shown_value o.phase_millicycles;
      doppler_millihertz = shown_value o.doppler_millihertz;
      strength_millidbhz = o.strength_millidbhz;
      slip = o.slip && is_present o.phase_millicycles;
      half = o.half && is_present o.phase_millicycles;
    }

-- an observation as a file with Doppler shifts (true), or without them, shows it
abbrev pub shown_in : Bool → Observed → Observed
shown_in false = shown
shown_in true = shown_with_doppler

abbrev pub shown_row_in : Bool → SatelliteRow → SatelliteRow
shown_row_in doppler r = record { satellite = r.satellite; observed = record { items = map (shown_in doppler) r.observed.items } }

-- an epoch as such a file shows it: the satellites that have a line, with what is written of them
abbrev pub shown_epoch_in : Bool → EpochTableView → EpochTableView
shown_epoch_in doppler e = record { time = e.time; rows = map (shown_row_in doppler) (filter (has_line_in doppler) e.rows) }

-- the epoch as the file shows it has the same record; if it has a row, it is an epoch of a
-- well-formed table, else the record is empty
pub record IsShownByRecord (n : ℕ) (e : EpochTableView) : Type 0 where
  pub text : record_text (shown_epoch e) ≡ record_text e
  pub well_formed : (shown_epoch e).rows ≢ [] → IsTableEpoch n (shown_epoch e)
  pub empty : (shown_epoch e).rows ≡ [] → record_text e ≡ []

-- this holds for each epoch of good rows, with as many observations as codes
abbrev pub RecordsAreOfTables : Type 0
RecordsAreOfTables = (n : ℕ) (e : EpochTableView) → IsEpochTableView e → HasWidth n e.rows → IsShownByRecord n e

-- the epochs that have a record
abbrev pub with_record : List EpochTableView → List EpochTableView
with_record epochs = filter (λ e. nat_lt 0 (length (record_text e))) epochs

-- the table of a header and of the epochs after it that have a record, as the file shows them
abbrev pub shown_table : HeadView → PositionView → ℕ → List EpochTableView → WellFormedTable
shown_table h s first epochs = record { head = h; site = s; first = first; epochs = map shown_epoch (with_record epochs) }

-- a header and the records after it are the text of a well-formed table
pub record IsShownByFile (h : HeadView) (s : PositionView) (first : ℕ) (epochs : List EpochTableView) : Type 0 where
  pub table : IsWellFormedTable (shown_table h s first epochs)
  pub text : header_text h s first ++ flat_map record_text epochs ≡ table_text (shown_table h s first epochs)

-- this holds for all rising epochs of good rows, with as many observations as codes, if the first
-- epoch with a record is at the header's first time
abbrev pub FilesAreTables : Type 0
FilesAreTables =
    (h : HeadView) (s : PositionView) (first : ℕ) (epochs : List EpochTableView) → IsHeadView h → IsPositionView s → IsMoment first
    → All IsEpochTableView epochs → All (λ e. HasWidth (length h.listed) e.rows) epochs → AllPairs (λ a b. a.time < b.time) epochs
    → StartsAt first (with_record epochs) → IsShownByFile h s first epochs

-- The file of a set of messages, defined from the whole set. A set is seen as the position of its
-- station and its epochs with their cells. The epochs fall: the greatest stands first.
use Rattle.std.specs.Prelude.{ℕ, zero, suc, Bool, nat_le, List, [], ◌∷◌, ◌++◌, Option, None, Some, option_map, unwrap_or, if◌then◌else◌}
use Rattle.rtk_obs.specs.declared.any_code.AnyCode.{AnyCode}
use Rattle.rtk_frame.specs.Stream.{count_after}
use Rattle.rtk_obs.specs.declared.signal_cells.SignalEntry.{SignalEntry}
use Rattle.rtk_obs.specs.LeapSeconds.{leap_start}
use Rattle.rtk_collect.specs.EpochSet.{EpochSetView}
use Rattle.rtk_rinex.specs.Header.{PositionView}
use Rattle.rtk_rinex.specs.MixedHead.{GlonassView, MixedHeadView}
use Rattle.rtk_rinex.specs.MixedHeader.{mixed_header_text}
use Rattle.rtk_rinex.specs.MixedRecord.{mixed_record_text}
use Rattle.rtk_convert.specs.Rows.{table_of}
use Rattle.rtk_setup.specs.Setup.{SetupView}

-- the record of an epoch in a file with Doppler shifts or without them, given the epochs below it; empty if no listed observation is written (a
-- phase may be rolled to 0 or outside the limits, so this depends on the epochs below)
abbrev pub record_of : Bool → List AnyCode → EpochSetView SignalEntry → List (EpochSetView SignalEntry) → List ℕ
record_of doppler listed e below = mixed_record_text doppler (table_of listed e below)

-- the records of all epochs, rising
unfoldable pub records : Bool → List AnyCode → List (EpochSetView SignalEntry) → List ℕ
records doppler listed [] = []
records doppler listed (e ∷ below) = records doppler listed below ++ record_of doppler listed e below

-- the first time after one more epoch: the one before, if there is one; else the time of this
-- epoch, unless its record is empty
abbrev pub first_or : Option ℕ → ℕ → List ℕ → Option ℕ
first_or (Some first) epoch text = Some first
first_or None epoch [] = None
first_or None epoch (x ∷ text) = Some epoch

-- formula
-- the least epoch that has a record
unfoldable pub first_time : Bool → List AnyCode → List (EpochSetView SignalEntry) → Option ℕ
first_time doppler listed [] = None
first_time doppler listed (e ∷ below) = first_or (first_time doppler listed below) e.epoch (record_of doppler listed e below)

-- the last of the rows from 1 to n that has begun, or 0 if none has
unfoldable pub begun_row : (ℕ → Bool) → ℕ → ℕ
begun_row has_begun zero = 0
begun_row has_begun (suc n) = if has_begun (suc n) then suc n else begun_row has_begun n

-- formula
-- the leap seconds of a file by its first time: those of the setup, or else those of the table, of 18 rows, at this moment
-- Source: RINEX 3.05, Table A2
abbrev pub file_leap_seconds : SetupView → ℕ → ℕ
file_leap_seconds s first = unwrap_or s.leap_seconds (begun_row (λ n. nat_le (leap_start n) first) 18)

-- what a file tells of GLONASS, with this number of leap seconds
abbrev pub told_with : ℕ → GlonassView → GlonassView
told_with leap_seconds g = record { channels = g.channels; leap_seconds = leap_seconds }

-- formula
-- the head of a file with this first time: what it tells of GLONASS has the leap seconds of the file
abbrev pub head_at : SetupView → ℕ → MixedHeadView
head_at s first = record s.head { glonass = option_map (told_with (file_leap_seconds s first)) s.head.glonass }

-- the header of a file with this first time
abbrev pub header_at : SetupView → PositionView → ℕ → List ℕ
header_at s site first = mixed_header_text (head_at s first) site first

-- formula
-- the header: its first time is the time of the first record; without a record it is the reference
abbrev pub header_of : SetupView → PositionView → List (EpochSetView SignalEntry) → List ℕ
header_of s site epochs = header_at s site (unwrap_or (first_time s.head.doppler s.head.listed epochs) s.near)

-- formula
-- the file: the header, then the records of all epochs, rising
abbrev pub file_of : SetupView → PositionView → List (EpochSetView SignalEntry) → List ℕ
file_of s site epochs = header_of s site epochs ++ records s.head.doppler s.head.listed epochs

abbrev pub one_more_if_any : List ℕ → ℕ → ℕ
one_more_if_any [] n = n
one_more_if_any (x ∷ text) n = count_after n

-- how many epochs have a record; a count stays at its greatest value
unfoldable pub record_count : Bool → List AnyCode → List (EpochSetView SignalEntry) → ℕ
record_count doppler listed [] = 0
record_count doppler listed (e ∷ below) = one_more_if_any (record_of doppler listed e below) (record_count doppler listed below)

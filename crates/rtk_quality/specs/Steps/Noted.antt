-- What one more record adds to the hours, and one more phase to the outages. What came is listed newest first.
use Rattle.std.specs.Prelude.{◌≡◌, ℕ, ◌-◌, ◌/◌, ◌+◌, ◌%◌, ◌==◌, min, List, [], ◌∷◌, ◌++◌, length, reverse, Option, None, Some, if◌then◌else◌}
use Rattle.rtk_quality.specs.Strengths.{band_in_name}
use Rattle.rtk_quality.specs.declared.strengths.CodeBand.{CodeBand}
use Rattle.rtk_quality.specs.declared.strengths.CodeBand.TheVariants.{B1, B2, B5, B6, B7, B8}
use Rattle.rtk_obs.specs.declared.any_code.AnyCode.{AnyCode}
use Rattle.rtk_obs.specs.declared.time.Civil.{Civil}
use Rattle.rtk_rinex.specs.Record.{EpochTableView}
use Rattle.rtk_rinex.specs.declared.epoch_table.Observed.{Observed}
use Rattle.rtk_rinex.specs.declared.epoch_table.SatelliteRow.{SatelliteRow}
use Rattle.rtk_tracking.specs.Epochs.{newest_moment}
use Rattle.rtk_tracking.specs.Interval.{missing_before, nearness_of}
use Rattle.rtk_tracking.specs.Passes.{Sighting, sightings_of, has_phase}
use Rattle.rtk_quality.specs.Counts.{plus}
use Rattle.rtk_quality.specs.Hours.{hour_at, returns_at}
use Rattle.rtk_quality.specs.SatellitePasses.{slips_at}
use Rattle.rtk_quality.specs.declared.hours.Locks.{Locks}
use Rattle.rtk_quality.specs.declared.outages.Absence.{Absence}
use Rattle.rtk_quality.specs.declared.satellite_counts.PassCounts.{PassCounts}
use Rattle.rtk_quality.specs.declared.hours.HourCounts.{HourCounts}
use Rattle.rtk_quality.specs.declared.hours.Hours.{Hours}
use Rattle.rtk_quality.specs.declared.strengths.BandStrengths.{BandStrengths}
use Rattle.rtk_quality.specs.declared.strengths.Strengths.{Strengths}

-- ---- missing epochs

-- how long in ms the hour of a moment has been
abbrev pub since_hour : Option ℕ → ℕ → ℕ
since_hour interval t = (t + nearness_of interval) % 3_600_000

-- of the epochs that are missing between two records, those in the hour of the second one: all but those before
-- its hour
abbrev pub missing_since : Option ℕ → ℕ → Option ℕ → ℕ → ℕ
missing_since interval unit None t = 0
missing_since interval unit (Some last) t = missing_before unit (Some last) t - (t - since_hour interval t - 1 - last) / unit

-- those in the hour of the first one, if the second one is of another hour: as many as that hour still has, at most
abbrev pub missing_until : Option ℕ → ℕ → Option ℕ → ℕ → ℕ
missing_until interval unit None t = 0
missing_until interval unit (Some last) t = min (missing_before unit (Some last) t) ((3_599_999 - since_hour interval last) / unit)

-- ---- slips and returns

abbrev pub no_locks : Locks
no_locks = record { slips = 0; returns = 0 }

abbrev pub locks_plus : Locks → Locks → Locks
locks_plus a b = record { slips = plus a.slips b.slips; returns = plus a.returns b.returns }

-- those of a satellite in an epoch with a phase
abbrev pub locks_at : Option ℕ → List Sighting → Sighting → Locks
locks_at interval before s =
    if has_phase s.observed then record { slips = slips_at interval before s; returns = returns_at interval before s } else no_locks

-- those of the rows of an epoch, after these
abbrev pub locks_onto : Option ℕ → List EpochTableView → ℕ → Locks → List SatelliteRow → Locks
locks_onto interval es t locks [] = locks
locks_onto interval es t locks (r ∷ rows) =
    locks_onto interval es t (locks_plus locks (locks_at interval (sightings_of r.satellite es) (record { time = t; observed = r.observed.items }))) rows

-- ---- outages

-- the absence with which an outage of so many ms ends, after the last pass
abbrev pub absence_after : Option PassCounts → Civil → Option ℕ → Option Absence
absence_after None until ms = None
absence_after (Some p) until None = None
absence_after (Some p) until (Some ms) = Some (record { from = p.until; until = until; ms = ms })

-- ---- strengths

abbrev pub no_strengths : BandStrengths
no_strengths = record { count = 0; sum = 0 }

abbrev pub all_without : Strengths
all_without = record { b1 = no_strengths; b2 = no_strengths; b5 = no_strengths; b6 = no_strengths; b7 = no_strengths; b8 = no_strengths }

-- with one strength more, if it is there
abbrev pub with_one : BandStrengths → Option ℕ → BandStrengths
with_one b None = b
with_one b (Some strength) = record { count = plus b.count 1; sum = plus b.sum strength }

-- with the strength of a band
abbrev pub with_strength : CodeBand → Option ℕ → Strengths → Strengths
with_strength B1 strength s = record { b1 = with_one s.b1 strength; b2 = s.b2; b5 = s.b5; b6 = s.b6; b7 = s.b7; b8 = s.b8 }
with_strength B2 strength s = record { b1 = s.b1; b2 = with_one s.b2 strength; b5 = s.b5; b6 = s.b6; b7 = s.b7; b8 = s.b8 }
with_strength B5 strength s = record { b1 = s.b1; b2 = s.b2; b5 = with_one s.b5 strength; b6 = s.b6; b7 = s.b7; b8 = s.b8 }
with_strength B6 strength s = record { b1 = s.b1; b2 = s.b2; b5 = s.b5; b6 = with_one s.b6 strength; b7 = s.b7; b8 = s.b8 }
with_strength B7 strength s = record { b1 = s.b1; b2 = s.b2; b5 = s.b5; b6 = s.b6; b7 = with_one s.b7 strength; b8 = s.b8 }
with_strength B8 strength s = record { b1 = s.b1; b2 = s.b2; b5 = s.b5; b6 = s.b6; b7 = s.b7; b8 = with_one s.b8 strength }

-- with the strengths of a satellite, each of which counts for the band of its code
abbrev pub with_row : List AnyCode → List Observed → Strengths → Strengths
with_row [] os s = s
with_row (c ∷ cs) [] s = s
with_row (c ∷ cs) (o ∷ os) s = with_row cs os (with_strength (band_in_name c) o.strength_millidbhz s)

-- with the strengths of the rows of a record
abbrev pub with_rows : List AnyCode → List SatelliteRow → Strengths → Strengths
with_rows listed [] s = s
with_rows listed (r ∷ rows) s = with_rows listed rows (with_row listed r.observed.items s)

-- ---- hours

-- an hour in which no record came so far
abbrev pub without_records : ℕ → HourCounts
without_records hour = record { hour = hour; records = 0; missing = 0; rows = 0; locks = no_locks; strengths = all_without }

-- an hour with one more record, before which so many epochs are missing in it
abbrev pub with_record : ℕ → List AnyCode → List SatelliteRow → Locks → HourCounts → HourCounts
with_record missing listed rows locks h =
    record {
      hour = h.hour;
      records = plus h.records 1;
      missing = plus h.missing missing;
      rows = plus h.rows (length rows);
      locks = locks_plus h.locks locks;
      strengths = with_rows listed rows h.strengths;
    }

-- an hour after which another one begins
abbrev pub ended_hour : ℕ → HourCounts → HourCounts
ended_hour missing h =
    record { hour = h.hour; records = h.records; missing = plus h.missing missing; rows = h.rows; locks = h.locks; strengths = h.strengths }

-- the newest hour, if it is this one, or else this one, which begins
abbrev pub hour_onto : ℕ → Option HourCounts → HourCounts
hour_onto hour None = without_records hour
hour_onto hour (Some newest) = if newest.hour == hour then newest else without_records hour

-- the newest hour, if it ends because this one begins
abbrev pub ended_by : ℕ → ℕ → Option HourCounts → List HourCounts
ended_by hour missing None = []
ended_by hour missing (Some newest) = if newest.hour == hour then [] else ended_hour missing newest ∷ []

abbrev pub newest_hour : List HourCounts → Option HourCounts
newest_hour [] = None
newest_hour (h ∷ hs) = Some h

abbrev pub older_hours : List HourCounts → List HourCounts
older_hours [] = []
older_hours (h ∷ hs) = hs

-- hours with one more record
abbrev pub hours_with : Option ℕ → ℕ → Option ℕ → List AnyCode → ℕ → List SatelliteRow → Locks → List HourCounts → List HourCounts
hours_with interval unit last listed t rows locks hs =
    with_record (missing_since interval unit last t) listed rows locks (hour_onto (hour_at interval t) (newest_hour hs))
    ∷ ended_by (hour_at interval t) (missing_until interval unit last t) (newest_hour hs) ++ older_hours hs

-- the hours of records that were noted one after another
abbrev pub noted_hours : Option ℕ → ℕ → List AnyCode → List EpochTableView → List HourCounts
noted_hours interval unit listed [] = []
noted_hours interval unit listed (e ∷ es) =
    hours_with interval unit (newest_moment es) listed e.time e.rows (locks_onto interval es e.time no_locks e.rows) (noted_hours interval unit listed es)

-- the hour, if there is one
abbrev pub list_of_hour : Option HourCounts → List HourCounts
list_of_hour None = []
list_of_hour (Some h) = h ∷ []

-- what is kept of hours
pub record AreHours (hours : Hours) (hs : List HourCounts) : Type 0 where
  pub newest : hours.newest ≡ newest_hour hs
  pub ended : hours.ended.items ≡ reverse (older_hours hs)

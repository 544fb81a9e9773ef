-- The hours of a file that have a record, and what their records have (this project's rule). The epochs are
-- listed newest first.
use Rattle.std.specs.Prelude.{ℕ, ◌+◌, ◌-◌, ◌*◌, ◌/◌, ◌==◌, min, List, [], ◌∷◌, length, map, sum, count_by, sum_by, Option, None, Some, if◌then◌else◌}
use Rattle.std.specs.List.{range_with_len}
use Rattle.rtk_quality.specs.declared.strengths.CodeBand.{CodeBand}
use Rattle.rtk_quality.specs.declared.strengths.CodeBand.TheVariants.{B1, B2, B5, B6, B7, B8}
use Rattle.rtk_obs.specs.declared.any_code.AnyCode.{AnyCode}
use Rattle.rtk_rinex.specs.Record.{EpochTableView}
use Rattle.rtk_tracking.specs.Epochs.{capped, newest_moment}
use Rattle.rtk_tracking.specs.Interval.{missing_before, nearness_of}
use Rattle.rtk_tracking.specs.Passes.{Sighting, sightings_of, has_phase, is_return}
use Rattle.rtk_quality.specs.Records.{rows_of}
use Rattle.rtk_quality.specs.SatellitePasses.{slips_at}
use Rattle.rtk_quality.specs.Strengths.{strengths_of_rows}
use Rattle.rtk_quality.specs.declared.strengths.BandStrengths.{BandStrengths}
use Rattle.rtk_quality.specs.declared.hours.HourCounts.{HourCounts}

-- ---- which hours there are

-- formula
-- the hours of GPS time before the one of a moment. A record lies in the hour if it is as near before its
-- begin as a record may lie beside any moment.
abbrev pub hour_at : Option ℕ → ℕ → ℕ
hour_at interval t = (t + nearness_of interval) / 3_600_000

-- formula
-- the first moment of an hour
abbrev pub begin_of : Option ℕ → ℕ → ℕ
begin_of interval hour = hour * 3_600_000 - nearness_of interval

-- an hour more, unless it is the newest one of these
abbrev pub with_hour : ℕ → List ℕ → List ℕ
with_hour hour [] = hour ∷ []
with_hour hour (newest ∷ older) = if newest == hour then newest ∷ older else hour ∷ newest ∷ older

-- the hours that have a record
abbrev pub hours_in : Option ℕ → List EpochTableView → List ℕ
hours_in interval [] = []
hours_in interval (e ∷ before) = with_hour (hour_at interval e.time) (hours_in interval before)

-- ---- sums over the records of an hour

-- formula
-- the sum of a number that each record of an hour has, after the records before it
abbrev pub sum_in_hour : Option ℕ → ℕ → (List EpochTableView → EpochTableView → ℕ) → List EpochTableView → ℕ
sum_in_hour interval hour number [] = 0
sum_in_hour interval hour number (e ∷ before) =
    sum_in_hour interval hour number before + (if hour_at interval e.time == hour then number before e else 0)

-- the slips of all codes of a satellite in an epoch with a phase
abbrev pub slips_of : Option ℕ → List Sighting → Sighting → ℕ
slips_of interval before s = if has_phase s.observed then slips_at interval before s else 0

-- the returns of all codes of a satellite in an epoch
abbrev pub returns_at : Option ℕ → List Sighting → Sighting → ℕ
returns_at interval before s = count_by (λ place. is_return interval place before s) (range_with_len 0 16)

-- those in an epoch with a phase
abbrev pub returns_of : Option ℕ → List Sighting → Sighting → ℕ
returns_of interval before s = if has_phase s.observed then returns_at interval before s else 0

-- a number of each satellite of an epoch, summed up
abbrev pub sum_of_rows : (List Sighting → Sighting → ℕ) → List EpochTableView → EpochTableView → ℕ
sum_of_rows number before e = sum_by (λ r. number (sightings_of r.satellite before) (record { time = e.time; observed = r.observed.items })) e.rows

-- formula
-- the strengths of a band in an hour: how many, and their sum
abbrev pub strengths_in_hour : Option ℕ → ℕ → List AnyCode → List EpochTableView → CodeBand → BandStrengths
strengths_in_hour interval hour listed es band =
    record {
      count = capped (sum_in_hour interval hour (λ before e. length (strengths_of_rows band listed e.rows)) es);
      sum = capped (sum_in_hour interval hour (λ before e. sum (strengths_of_rows band listed e.rows)) es);
    }

-- ---- missing epochs

-- formula
-- of the epochs that are missing between two records, those before a moment: they follow the first record one
-- unit after another
abbrev pub missing_until : ℕ → ℕ → ℕ → ℕ → ℕ
missing_until unit last t moment = min (missing_before unit (Some last) t) ((moment - 1 - last) / unit)

-- formula
-- those in an hour
abbrev pub missing_within : Option ℕ → ℕ → ℕ → Option ℕ → ℕ → ℕ
missing_within interval unit hour None t = 0
missing_within interval unit hour (Some last) t =
    missing_until unit last t (begin_of interval (hour + 1)) - missing_until unit last t (begin_of interval hour)

-- the epochs that are missing in an hour
abbrev pub missing_in_hour : Option ℕ → ℕ → ℕ → List EpochTableView → ℕ
missing_in_hour interval unit hour [] = 0
missing_in_hour interval unit hour (e ∷ before) =
    missing_in_hour interval unit hour before + missing_within interval unit hour (newest_moment before) e.time

-- ---- the counts of an hour

-- formula
-- what an hour has: records; missing epochs; the satellites of all records together; slips and returns; and
-- the strengths of each band
abbrev pub counts_of_hour : Option ℕ → ℕ → List AnyCode → List EpochTableView → ℕ → HourCounts
counts_of_hour interval unit listed es hour =
    record {
      hour = hour;
      records = capped (sum_in_hour interval hour (λ before e. 1) es);
      missing = capped (missing_in_hour interval unit hour es);
      rows = capped (sum_in_hour interval hour (λ before e. rows_of e) es);
      locks = record {
        slips = capped (sum_in_hour interval hour (sum_of_rows (slips_of interval)) es);
        returns = capped (sum_in_hour interval hour (sum_of_rows (returns_of interval)) es);
      };
      strengths = record {
        b1 = strengths_in_hour interval hour listed es B1;
        b2 = strengths_in_hour interval hour listed es B2;
        b5 = strengths_in_hour interval hour listed es B5;
        b6 = strengths_in_hour interval hour listed es B6;
        b7 = strengths_in_hour interval hour listed es B7;
        b8 = strengths_in_hour interval hour listed es B8;
      };
    }

-- formula
-- the hours that have a record, with their counts, the newest first
abbrev pub hours_of : Option ℕ → ℕ → List AnyCode → List EpochTableView → List HourCounts
hours_of interval unit listed es = map (counts_of_hour interval unit listed es) (hours_in interval es)

-- formula
-- the beginning of an hour. A record just before the end of 2100 counts for the hour that begins then.
abbrev pub start_of : ℕ → ℕ
start_of hour = min (hour * 3_600_000) 3_818_016_000_000

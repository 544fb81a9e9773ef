-- The fields of a reading fit their columns.
use Rattle.std.proofs.Common.{ℕ, ◌/◌, ◌<◌, arith, pos}
use Rattle.jiff_core.proofs.CalendarLemmas.{days_in_month_bounds}
use Rattle.rtk_obs.specs.declared.time.Civil.{Civil}
use Rattle.rtk_obs.specs.Reading.{IsMoment, reading_of}
use Rattle.rtk_obs.proofs.PublicLaws.{reading-reads, year-bound}

-- a reading whose fields fit their columns
pub record FitsColumns (c : Civil) : Type 0 where
  pub year : c.year < 10_000
  pub month : c.month < 100
  pub day : c.day < 100
  pub hour : c.hour < 100
  pub minute : c.minute < 100
  pub second : c.second < 60
  pub millisecond : c.millisecond < 1000

pub FitsColumns-reading_of : (t : ℕ) → IsMoment t → FitsColumns (reading_of t)
FitsColumns-reading_of t h =
    let reads = reading-reads t h in
    let late = year-bound (t / 86_400_000) (omega arith) in
    let day = reads.0.0.2.1 in
    record {
      year = omega arith;
      month = omega (arith, reads.0.0.1.1);
      day = omega (arith, day, days_in_month_bounds (pos (reading_of t).year) (reading_of t).month);
      hour = omega arith;
      minute = omega arith;
      second = omega arith;
      millisecond = omega arith;
    }

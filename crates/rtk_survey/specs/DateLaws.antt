-- What the moments of `Telling` have to do with the date of a time of week.
use Rattle.std.specs.Prelude.{◌≡◌, ℕ, ◌+◌, ◌%◌, ◌<◌, ◌≤◌}
use Rattle.rtk_message.specs.Fields.{week_ms}
use Rattle.rtk_survey.specs.Telling.{half_week_ms}

-- formula
-- t has this time of week; it is less than half a week before a moment, and not more than half a week
-- after it
pub record IsNearest (at tow t : ℕ) : Type 0 where
  pub time_of_week : t % week_ms ≡ tow
  pub from : at < t + half_week_ms
  pub to : t ≤ at + half_week_ms

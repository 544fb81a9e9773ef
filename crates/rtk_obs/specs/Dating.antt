-- The date of a time of week, in ms since 1980-01-06 00:00:00.000 (this project's rule).
use Rattle.std.specs.Prelude.{◌≡◌, ℕ, ◌+◌, ◌%◌, ◌<◌, ◌≤◌}
use Rattle.rtk_message.specs.Fields.{week_ms}

-- constant
-- a reference for dates: 1980-01-13 00:00:00.000 to 2099-12-31 23:59:59.999
pub record IsReference (near : ℕ) : Type 0 where
  pub from : week_ms ≤ near
  pub to : near ≤ 3_786_479_999_999

-- formula
-- t has this time of week; it is not less than half a week before the reference, and less than half
-- a week after it
pub record IsDated (near tow t : ℕ) : Type 0 where
  pub time_of_week : t % week_ms ≡ tow
  pub from : near ≤ t + 302_400_000
  pub before : t < near + 302_400_000

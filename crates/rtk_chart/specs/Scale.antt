-- The time bins of a picture, each drawn as a column (this project's rule).
use Rattle.std.specs.Prelude.{◌≡◌, ◌≤◌, ◌<◌, ℕ, ◌+◌, ◌-◌, ◌*◌, ◌/◌, Option, None, Some, max, min}
use Rattle.rtk_obs.specs.Reading.{IsMoment}
use Rattle.rtk_chart.specs.declared.scale.Scale.{Scale}

-- formula
-- the interval by which bins are counted: 1 ms in a file without one; no step between moments is
-- 0 ms, or longer than to the last moment that there is
abbrev pub unit_of : Option ℕ → ℕ
unit_of None = 1
unit_of (Some interval) = min (max interval 1) 3_818_015_999_999

-- formula
-- an epoch goes to the bin of the interval that is nearest to it, of two alike the earlier one: so far
-- before an interval it goes there
abbrev pub half_of : ℕ → ℕ
half_of unit = (unit - 1) / 2

-- how many intervals long a bin is: the least number that gives at most the allowed bins
abbrev pub intervals_of : ℕ → ℕ → ℕ → ℕ
intervals_of span unit allowed = span / (allowed * unit) + 1

-- formula
abbrev pub bin_length : ℕ → ℕ → ℕ → ℕ
bin_length span unit allowed = intervals_of span unit allowed * unit

-- the scale of a picture from a first to a last moment, with this interval and at most so many bins
abbrev pub scale_of : ℕ → ℕ → Option ℕ → ℕ → Scale
scale_of first last interval allowed =
    let unit = unit_of interval in
    let span = last - first + half_of unit in
    let bin_ms = bin_length span unit allowed in
    record { first = first; last = last; interval = interval; unit = unit; bin_ms = bin_ms; bins = span / bin_ms + 1 }

-- the longest bin, in ms: as long as the longest span and one and a half of the longest interval
abbrev pub longest_bin : ℕ
longest_bin = 9_545_039_999_997

-- formula
-- what holds of each scale
pub record IsScale (s : Scale) : Type 0 where
  pub first : IsMoment s.first
  pub last : IsMoment s.last
  pub unit : 0 < s.unit
  pub unit_bound : s.unit ≤ 3_818_015_999_999
  pub bin : 0 < s.bin_ms
  pub bin_bound : s.bin_ms ≤ longest_bin
  pub bins : s.bins ≡ (s.last - s.first + half_of s.unit) / s.bin_ms + 1
  pub few : s.bins ≤ 1440

-- the bin of a moment
abbrev pub bin_at : Scale → ℕ → ℕ
bin_at s t = (t - s.first + half_of s.unit) / s.bin_ms

-- the moment at which a bin begins
abbrev pub bin_start : Scale → ℕ → ℕ
bin_start s c = s.first + c * s.bin_ms - half_of s.unit

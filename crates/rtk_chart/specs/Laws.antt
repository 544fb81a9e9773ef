-- Laws of the definitions of a picture.
use Rattle.std.specs.Prelude.{◌≡◌, ◌≤◌, ◌<◌, ◌↔◌, ℕ, ◌+◌, ◌-◌, ◌*◌, ◌/◌, ◌^◌, Bool, true, List, [], ◌∷◌, length, get_or, sum, min, Option, None, Some}
use Rattle.rtk_obs.specs.declared.code.Band.{Band}
use Rattle.rtk_rinex.specs.Record.{EpochTableView}
use Rattle.rtk_chart.specs.Scale.{half_of, intervals_of, IsScale, scale_of, bin_at}
use Rattle.rtk_chart.specs.Grid.{bins_of, has_missing_before, gaps_of, recorded_of}
use Rattle.rtk_chart.specs.Means.{bins_per_column, strengths_in, columns_of, all_without, mean_at}
use Rattle.rtk_chart.specs.TextPicture.{satellite_row, gap_row, axis_row}
use Rattle.rtk_chart.specs.SvgPath.{edge_of}
use Rattle.rtk_chart.specs.declared.groups.Names.{Names}
use Rattle.rtk_chart.specs.declared.scale.Scale.{Scale}

-- with bins of this length there are at most as many as allowed
abbrev pub BinsAreFew : Type 0
BinsAreFew =
    (span unit allowed : ℕ) → 0 < unit → 0 < allowed → span / (intervals_of span unit allowed * unit) + 1 ≤ allowed

-- with bins of fewer intervals there are more
abbrev pub ShorterBinsAreTooMany : Type 0
ShorterBinsAreTooMany =
    (span unit allowed k : ℕ) → 0 < unit → 0 < k → k < intervals_of span unit allowed → allowed < span / (k * unit) + 1

-- the bins of a scale fill the room for so many: they are whole intervals long and as short as
-- leaves room, each moment up to the last has its bin, and the last bin has the last moment
pub record FillsRoom (s : Scale) (allowed : ℕ) : Type 0 where
  pub few : s.bins ≤ allowed
  pub whole : (k : ℕ) × (0 < k) × (s.bin_ms ≡ k * s.unit)
  pub least : (k : ℕ) → 0 < k → k * s.unit < s.bin_ms → allowed < (s.last - s.first + half_of s.unit) / (k * s.unit) + 1
  pub each : (t : ℕ) → t ≤ s.last → bin_at s t < s.bins
  pub last : bin_at s s.last + 1 ≡ s.bins

abbrev pub ScalesFillRoom : Type 0
ScalesFillRoom = (first last allowed : ℕ) (interval : Option ℕ) → 0 < allowed → FillsRoom (scale_of first last interval allowed) allowed

-- rows of a picture in characters have one for each bin, four before them, and a line end; rows of
-- satellites and of missing epochs end in a bar before it
abbrev pub RowsHaveAllBins : Type 0
RowsHaveAllBins =
    (s : Scale) (es : List EpochTableView) (names : Names) (outages : List Bool) (place step : ℕ)
    → (length (satellite_row names (bins_of s es) outages place) ≡ s.bins + 6) × (length (gap_row (recorded_of s es) (gaps_of s es)) ≡ s.bins + 6)
    × (length (axis_row s step) ≡ s.bins + 5)

-- the columns of a picture in SVG fill 1440 units, side by side: each is as wide as its share of them in whole
-- units, or one unit wider
pub record FillsWidth (n : ℕ) : Type 0 where
  pub begin : edge_of n 0 ≡ 0
  pub end : edge_of n n ≡ 1440
  pub least : (c : ℕ) → edge_of n c + 1440 / n ≤ edge_of n (c + 1)
  pub most : (c : ℕ) → edge_of n (c + 1) ≤ edge_of n c + 1440 / n + 1

abbrev pub ColumnsFillWidth : Type 0
ColumnsFillWidth = (s : Scale) → IsScale s → FillsWidth s.bins

-- some epoch is missing between two moments, a whole number of intervals after the first and more than
-- half an interval before the second, and lies in the bin
abbrev pub SomeMissingEpoch : Scale → ℕ → ℕ → ℕ → Type 0
SomeMissingEpoch s before t c =
    (i : ℕ) × (0 < i) × ((2 * i + 1) * s.unit < 2 * (t - before)) × (bin_at s (before + i * s.unit) ≡ c)

-- a bin has the mark exactly if it has such an epoch, at each scale whose bins are an interval
-- long or longer
abbrev pub MissingMarksAreEpochs : Type 0
MissingMarksAreEpochs =
    (s : Scale) (before t c : ℕ) → 0 < s.unit → s.unit ≤ s.bin_ms → s.first ≤ before
    → (has_missing_before s (Some before) t c ≡ true) ↔ SomeMissingEpoch s before t c

-- ---- strengths

-- the mean of some strengths, if there are any
abbrev pub mean_of_strengths : List ℕ → Option ℕ
mean_of_strengths [] = None
mean_of_strengths (x ∷ xs) = Some (min (sum (x ∷ xs) / length (x ∷ xs)) 63_750)

-- each bin of a picture has its column, and the mean of a band there is that of all its strengths in the epochs of the
-- column, if these and their sum are below 2^64
abbrev pub MeansAreOfStrengths : Type 0
MeansAreOfStrengths =
    (s : Scale) (listed : List (Option Band)) (es : List EpochTableView) (band : Band) (bin : ℕ) → bin < s.bins
    → let strengths : List ℕ = strengths_in s listed band es (bin / bins_per_column s) in
    length strengths < 2 ^ 64 → sum strengths < 2 ^ 64
    → mean_at band (get_or (columns_of s listed es) (bin / bins_per_column s) all_without) ≡ mean_of_strengths strengths

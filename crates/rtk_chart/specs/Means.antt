-- The mean strength of each band along the time of a picture (this project's rule), in at most 144 columns of whole bins.
use Rattle.std.specs.Prelude.{ℕ, ◌+◌, ◌/◌, ◌==◌, Bool, false, List, [], ◌∷◌, ◌++◌, length, map, flat_map, sum, Option, None, Some, min, if◌then◌else◌}
use Rattle.std.specs.List.{fold, range_with_len}
use Rattle.rtk_obs.specs.Code.{band_of}
use Rattle.rtk_obs.specs.declared.code.Band.{Band}
use Rattle.rtk_obs.specs.declared.code.Band.TheVariants.{L1, L2, L5}
use Rattle.rtk_obs.specs.declared.code.Code.{Code}
use Rattle.rtk_rinex.specs.Record.{EpochTableView}
use Rattle.rtk_rinex.specs.declared.epoch_table.Observed.{Observed}
use Rattle.rtk_rinex.specs.declared.epoch_table.SatelliteRow.{SatelliteRow}
use Rattle.rtk_tracking.specs.Epochs.{capped}
use Rattle.rtk_tracking.specs.Extremes.{lesser, greater}
use Rattle.rtk_chart.specs.Scale.{bin_at}
use Rattle.rtk_chart.specs.declared.scale.Scale.{Scale}
use Rattle.rtk_chart.specs.declared.strengths.BandStrengths.{BandStrengths}
use Rattle.rtk_chart.specs.declared.strengths.Strengths.{Strengths}

-- ---- the strengths of a record

-- table
-- the number of a band in the names of codes (RINEX 3.05, Table 4)
abbrev pub number_of : Band → ℕ
number_of L1 = 1
number_of L2 = 2
number_of L5 = 5

-- the bands of codes of GPS
abbrev pub bands_of : List Code → List (Option Band)
bands_of listed = map (λ c. Some (band_of c)) listed

-- the band of a code is this one; a code may have none of the three
abbrev pub is_of_band : Band → Option Band → Bool
is_of_band band None = false
is_of_band band (Some b) = number_of b == number_of band

-- a strength, if it is there
abbrev pub list_of_strength : Option ℕ → List ℕ
list_of_strength None = []
list_of_strength (Some strength) = strength ∷ []

-- the strengths of a band in a row, whose codes have these bands
abbrev pub strengths_of_row : Band → List (Option Band) → List Observed → List ℕ
strengths_of_row band [] os = []
strengths_of_row band (c ∷ cs) [] = []
strengths_of_row band (c ∷ cs) (o ∷ os) =
    (if is_of_band band c then list_of_strength o.strength_millidbhz else []) ++ strengths_of_row band cs os

-- those in the rows of a record
abbrev pub strengths_of_rows : Band → List (Option Band) → List SatelliteRow → List ℕ
strengths_of_rows band listed rows = flat_map (λ r. strengths_of_row band listed r.observed.items) rows

-- ---- columns

-- formula
-- how many bins a column has: the least number that gives at most 144 columns
abbrev pub bins_per_column : Scale → ℕ
bins_per_column s = (s.bins + 143) / 144

-- the column of a moment
abbrev pub column_at : Scale → ℕ → ℕ
column_at s t = bin_at s t / bins_per_column s

-- formula
-- the strengths of a band in the epochs of a column, in the order of time
abbrev pub strengths_in : Scale → List (Option Band) → Band → List EpochTableView → ℕ → List ℕ
strengths_in s listed band [] c = []
strengths_in s listed band (e ∷ before) c =
    if column_at s e.time == c then strengths_in s listed band before c ++ strengths_of_rows band listed e.rows
    else strengths_in s listed band before c

-- how many they are, and their sum
abbrev pub band_in : Scale → List (Option Band) → List EpochTableView → ℕ → Band → BandStrengths
band_in s listed es c band =
    record { count = capped (length (strengths_in s listed band es c)); sum = capped (sum (strengths_in s listed band es c)) }

abbrev pub column_in : Scale → List (Option Band) → List EpochTableView → ℕ → Strengths
column_in s listed es c = record { l1 = band_in s listed es c L1; l2 = band_in s listed es c L2; l5 = band_in s listed es c L5 }

-- what all columns have
unfoldable pub columns_of : Scale → List (Option Band) → List EpochTableView → List Strengths
columns_of s listed es = map (column_in s listed es) (range_with_len 0 144)

-- ---- means

abbrev pub no_strengths : BandStrengths
no_strengths = record { count = 0; sum = 0 }

-- a column without a record
abbrev pub all_without : Strengths
all_without = record { l1 = no_strengths; l2 = no_strengths; l5 = no_strengths }

abbrev pub of_band : Band → Strengths → BandStrengths
of_band L1 s = s.l1
of_band L2 s = s.l2
of_band L5 s = s.l5

-- formula
-- the mean of strengths, if there are any, cut off to thousandths of a dB-Hz; it is no greater than the greatest strength
abbrev pub mean_of : BandStrengths → Option ℕ
mean_of b = if b.count == 0 then None else Some (min (b.sum / b.count) 63_750)

abbrev pub mean_at : Band → Strengths → Option ℕ
mean_at band column = mean_of (of_band band column)

abbrev pub least_mean : Band → List Strengths → Option ℕ
least_mean band columns = fold (λ least column. lesser least (mean_at band column)) None columns

abbrev pub greatest_mean : Band → List Strengths → Option ℕ
greatest_mean band columns = fold (λ greatest column. greater greatest (mean_at band column)) None columns

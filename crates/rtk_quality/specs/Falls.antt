-- The largest fall of strength from one hour to the next (this project's rule).
use Rattle.std.specs.Prelude.{ℕ, ◌-◌, nat_lt, List, [], ◌∷◌, Option, None, Some, if◌then◌else◌}
use Rattle.rtk_quality.specs.declared.strengths.CodeBand.{CodeBand}
use Rattle.rtk_quality.specs.Counts.{mean_hundredths}
use Rattle.rtk_quality.specs.Strengths.{of_band}
use Rattle.rtk_quality.specs.declared.hours.HourCounts.{HourCounts}
use Rattle.rtk_quality.specs.declared.falls.HourMean.{HourMean}
use Rattle.rtk_quality.specs.declared.falls.Fall.{Fall}

abbrev pub hour_mean : ℕ → Option ℕ → Option HourMean
hour_mean hour None = None
hour_mean hour (Some mean) = Some (record { hour = hour; mean = mean })

-- formula
-- the mean strength of a band in an hour, if it has strengths of the band
abbrev pub mean_in : CodeBand → HourCounts → Option HourMean
mean_in band h = hour_mean h.hour (mean_hundredths (of_band band h.strengths).sum (of_band band h.strengths).count)

abbrev pub with_mean : Option HourMean → List HourMean → List HourMean
with_mean None means = means
with_mean (Some mean) means = mean ∷ means

-- the means of the hours that have strengths of a band
abbrev pub means_of : CodeBand → List HourCounts → List HourMean
means_of band [] = []
means_of band (h ∷ hs) = with_mean (mean_in band h) (means_of band hs)

-- formula
-- the fall to a mean from the one before it, if there is one and it is greater
abbrev pub fall_to : HourMean → Option HourMean → Option Fall
fall_to mean None = None
fall_to mean (Some before) =
    if nat_lt mean.mean before.mean then Some (record { from = before.hour; until = mean.hour; by = before.mean - mean.mean }) else None

-- the greater of two falls, of two alike the first one
abbrev pub greater_fall : Option Fall → Option Fall → Option Fall
greater_fall None other = other
greater_fall (Some one) None = Some one
greater_fall (Some one) (Some other) = if nat_lt one.by other.by then Some other else Some one

-- the largest fall from one of these means to the next one
abbrev pub largest_fall_of : List HourMean → Option Fall
largest_fall_of [] = None
largest_fall_of (a ∷ []) = None
largest_fall_of (a ∷ b ∷ means) = greater_fall (fall_to b (Some a)) (largest_fall_of (b ∷ means))

-- formula
-- the largest fall of a band in these hours, which are listed oldest first
abbrev pub largest_fall : CodeBand → List HourCounts → Option Fall
largest_fall band hours = largest_fall_of (means_of band hours)

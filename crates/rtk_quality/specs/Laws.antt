-- Laws of bits, and of counts and means of any size.
use Rattle.std.specs.Prelude.{◌≡◌, ◌<◌, ◌≤◌, ◌^◌, ◌*◌, ◌+◌, ◌-◌, ◌==◌, nat_lt, ℕ, Bool, false, not, ◌&&◌, List, [], ◌∷◌, length, sum, count_by, sum_by, AllPairs, Option, None, Some, is_some, unwrap_or, if◌then◌else◌}
use Rattle.std.specs.List.{list_any, range_with_len}
use Rattle.rtk_quality.specs.declared.strengths.CodeBand.{CodeBand}
use Rattle.rtk_obs.specs.declared.any_code.AnyCode.{AnyCode}
use Rattle.rtk_rinex.specs.Record.{EpochTableView}
use Rattle.rtk_rinex.specs.declared.epoch_table.Observed.{Observed}
use Rattle.rtk_tracking.specs.Interval.{missing_before, missing_in}
use Rattle.rtk_tracking.specs.Passes.{Sighting, sightings_of, has_phase, begins_pass, outage_before}
use Rattle.rtk_quality.specs.Counts.{Noted, plus, tally, noted_of, counts_of, rounded_fraction, mean_hundredths}
use Rattle.rtk_quality.specs.SatellitePasses.{phases_in, passes_of, epochs_in_passes}
use Rattle.rtk_quality.specs.Records.{unit_of, rows_of, rows_total}
use Rattle.rtk_quality.specs.Gaps.{gaps_of, size_of_gap}
use Rattle.rtk_quality.specs.Largest.{largest_first}
use Rattle.rtk_quality.specs.Moments.{together_in, common_moments, size_of_moment}
use Rattle.rtk_quality.specs.Outages.{all_outages, size_of_outage}
use Rattle.rtk_quality.specs.Missing.{all_missing, size_of_missing}
use Rattle.rtk_quality.specs.Runs.{open_where, ended_where, half_runs, size_of_run}
use Rattle.rtk_quality.specs.Bursts.{last_hour, hour_before, all_bursts, size_of_burst}
use Rattle.rtk_quality.specs.declared.runs.Run.{Run}
use Rattle.rtk_quality.specs.declared.bursts.HourMoments.{HourMoments}
use Rattle.rtk_quality.specs.Hours.{hour_at, slips_of, sum_of_rows, sum_in_hour, strengths_in_hour, missing_within, hours_of}
use Rattle.rtk_quality.specs.Strengths.{strengths_of_rows}
use Rattle.rtk_quality.specs.Quality.{numbers_of, totals_of}
use Rattle.rtk_quality.specs.declared.code_numbers.CodeNumbers.{CodeNumbers}

-- the slips, returns and rises of a code of a satellite are together its digits with bit 0
abbrev pub CountsHideNothing : Type 0
CountsHideNothing =
    (interval : Option ℕ) (place : ℕ) (before : List Sighting)
    → plus (plus (counts_of (noted_of interval place before)).slips (counts_of (noted_of interval place before)).returns) (counts_of (noted_of interval place before)).rises
    ≡ tally (λ n. n.observed.slip) (noted_of interval place before)

-- ---- numbers of any size below 2^64

-- each epoch of a code for which a test holds is counted
abbrev pub EachIsCounted : Type 0
EachIsCounted = (test : Noted → Bool) (ns : List Noted) → length ns < 2 ^ 64 → tally test ns ≡ count_by test ns

-- the strengths of a code, in thousandths of a dB-Hz
abbrev pub strength_or_0 : Noted → ℕ
strength_or_0 n = unwrap_or n.observed.strength_millidbhz 0

abbrev pub sum_of_strengths : List Noted → ℕ
sum_of_strengths ns = sum_by strength_or_0 ns

-- formula
-- their mean in hundredths of a dB-Hz
abbrev pub mean_of_strengths : List Noted → Option ℕ
mean_of_strengths ns =
    let there : ℕ = count_by (λ n. is_some n.observed.strength_millidbhz) ns in
    if there == 0 then None else Some (rounded_fraction (sum_of_strengths ns) (10 * there))

-- the mean that is shown is this mean
abbrev pub MeanIsOfAll : Type 0
MeanIsOfAll =
    (ns : List Noted) → length ns < 2 ^ 64 → sum_of_strengths ns < 2 ^ 64
    → mean_hundredths (counts_of ns).strength_sum (counts_of ns).strengths ≡ mean_of_strengths ns

-- how many of these epochs, which are listed newest first, lie in a pass; and if the pass of the last of
-- them goes on with the next phase that comes after them (on), each of them since the last phase
abbrev pub count_in_passes : Option ℕ → Bool → List Sighting → ℕ
count_in_passes interval on [] = 0
count_in_passes interval on (s ∷ before) =
    if has_phase s.observed then count_in_passes interval (not (begins_pass interval before s)) before + 1
    else count_in_passes interval on before + (if on then 1 else 0)

-- each epoch in a pass is counted
abbrev pub EachInPassIsCounted : Type 0
EachInPassIsCounted = (interval : Option ℕ) (before : List Sighting) → length before < 2 ^ 64 → epochs_in_passes interval before ≡ count_in_passes interval false before

-- the phases of the passes of a satellite are together all of its phases
abbrev pub PhasesAreInPasses : Type 0
PhasesAreInPasses =
    (interval : Option ℕ) (before : List Sighting) → sum_by (λ s. phases_in s.observed) before < 2 ^ 64
    → sum_by (λ p. p.sums.phases) (passes_of interval before) ≡ sum_by (λ s. phases_in s.observed) before

-- a number of a code of a satellite, which is 0 if the satellite has the code nowhere
abbrev pub number_if_seen : (CodeNumbers → ℕ) → CodeNumbers → ℕ
number_if_seen number own = if own.counts.seen then number own else 0

-- a number of the code at a place, of all satellites together
abbrev pub sum_of_satellites : (CodeNumbers → ℕ) → ℕ → Option ℕ → ℕ → List EpochTableView → ℕ
sum_of_satellites number most interval place es =
    sum_by (λ satellite. number_if_seen number (numbers_of interval (sightings_of satellite es) place)) (range_with_len 1 most)

-- the totals of a code have this sum
abbrev pub IsTotal : (CodeNumbers → ℕ) → Type 0
IsTotal number =
    (most : ℕ) (interval : Option ℕ) (place : ℕ) (es : List EpochTableView) → sum_of_satellites number most interval place es < 2 ^ 64
    → number (totals_of most interval es place) ≡ sum_of_satellites number most interval place es

pub record TotalsAreSums : Type 0 where
  pub phases : IsTotal (λ n. n.counts.phases)
  pub possible : IsTotal (λ n. n.possible)
  pub satellites : IsTotal (λ n. n.satellites)
  pub ranges : IsTotal (λ n. n.counts.ranges)
  pub slips : IsTotal (λ n. n.counts.slips)
  pub returns : IsTotal (λ n. n.counts.returns)
  pub rises : IsTotal (λ n. n.counts.rises)
  pub halves : IsTotal (λ n. n.counts.halves)
  pub shifts : IsTotal (λ n. n.counts.shifts)
  pub strengths : IsTotal (λ n. n.counts.strengths)
  pub strength_sum : IsTotal (λ n. n.counts.strength_sum)

-- the satellites of all records together
abbrev pub RowsAreSum : Type 0
RowsAreSum = (es : List EpochTableView) → sum_by rows_of es < 2 ^ 64 → rows_total es ≡ sum_by rows_of es

-- ---- hours

-- epochs newest first
abbrev pub EpochsFall : List EpochTableView → Type 0
EpochsFall es = AllPairs (λ a b. b.time < a.time) es

-- an hour has one line if a record lies in it, and else none
abbrev pub EachHourHasOneLine : Type 0
EachHourHasOneLine =
    (interval : Option ℕ) (unit : ℕ) (listed : List AnyCode) (es : List EpochTableView) (hour : ℕ) → EpochsFall es
    → count_by (λ h. h.hour == hour) (hours_of interval unit listed es) ≡ (if list_any (λ e. hour_at interval e.time == hour) es then 1 else 0)

-- the records of all hours are together those of the file
abbrev pub HoursHaveAllRecords : Type 0
HoursHaveAllRecords =
    (interval : Option ℕ) (listed : List AnyCode) (es : List EpochTableView) → EpochsFall es → length es < 2 ^ 64
    → sum_by (λ h. h.records) (hours_of interval (unit_of interval) listed es) ≡ length es

-- the epochs that are missing between two records are together those of the hours from the first record to the
-- second one
abbrev pub HoursHaveAllMissing : Type 0
HoursHaveAllMissing =
    (interval : Option ℕ) (unit last t : ℕ) → 0 < unit → last < t
    → sum_by (λ hour. missing_within interval unit hour (Some last) t) (range_with_len (hour_at interval last) (hour_at interval t - hour_at interval last + 1))
    ≡ missing_before unit (Some last) t

-- formula
-- the mean of the strengths of a band in an hour
abbrev pub mean_of_hour : Option ℕ → ℕ → List AnyCode → List EpochTableView → CodeBand → Option ℕ
mean_of_hour interval hour listed es band =
    let there : ℕ = sum_in_hour interval hour (λ before e. length (strengths_of_rows band listed e.rows)) es in
    if there == 0 then None
    else Some (rounded_fraction (sum_in_hour interval hour (λ before e. sum (strengths_of_rows band listed e.rows)) es) (10 * there))

-- the mean of an hour that is shown is this mean
abbrev pub MeanOfHourIsOfAll : Type 0
MeanOfHourIsOfAll =
    (interval : Option ℕ) (hour : ℕ) (listed : List AnyCode) (es : List EpochTableView) (band : CodeBand)
    → sum_in_hour interval hour (λ before e. length (strengths_of_rows band listed e.rows)) es < 2 ^ 64
    → sum_in_hour interval hour (λ before e. sum (strengths_of_rows band listed e.rows)) es < 2 ^ 64
    → mean_hundredths (strengths_in_hour interval hour listed es band).sum (strengths_in_hour interval hour listed es band).count
    ≡ mean_of_hour interval hour listed es band

-- ---- gaps

-- the epochs that are missing in all gaps are together those of the file
abbrev pub GapsHaveAllMissing : Type 0
GapsHaveAllMissing = (unit : ℕ) (es : List EpochTableView) → sum_by size_of_gap (largest_first size_of_gap (gaps_of unit es)) ≡ missing_in unit es

-- no gap is longer than one before it
abbrev pub LongestGapsAreFirst : Type 0
LongestGapsAreFirst = (unit : ℕ) (es : List EpochTableView) → AllPairs (λ a b. size_of_gap b ≤ size_of_gap a) (largest_first size_of_gap (gaps_of unit es))

-- ---- outages, and epochs at which several satellites slip

-- the time of the outages that end with the rows of an epoch, in ms
abbrev pub outage_time_at : Option ℕ → List EpochTableView → EpochTableView → ℕ
outage_time_at interval before e = sum_of_rows (λ earlier s. unwrap_or (outage_before interval earlier s) 0) before e

-- the time of all outages of a file
abbrev pub outage_time : Option ℕ → List EpochTableView → ℕ
outage_time interval [] = 0
outage_time interval (e ∷ before) = outage_time interval before + outage_time_at interval before e

-- the outages that are listed, the longest first, have together this time
abbrev pub OutagesHaveAllTime : Type 0
OutagesHaveAllTime =
    (interval : Option ℕ) (es : List EpochTableView) → sum_by size_of_outage (largest_first size_of_outage (all_outages interval es)) ≡ outage_time interval es

-- how many epochs have at least two satellites that slip
abbrev pub common_epochs : Option ℕ → List EpochTableView → ℕ
common_epochs interval [] = 0
common_epochs interval (e ∷ before) =
    common_epochs interval before + (if nat_lt (together_in interval before e.time e.rows).slipping 2 then 0 else 1)

-- each of them is listed
abbrev pub MomentsAreAll : Type 0
MomentsAreAll =
    (interval : Option ℕ) (es : List EpochTableView) → sum_by (λ m. 1) (largest_first size_of_moment (common_moments interval es)) ≡ common_epochs interval es

-- no outage is longer than one before it
abbrev pub LongestOutagesAreFirst : Type 0
LongestOutagesAreFirst =
    (interval : Option ℕ) (es : List EpochTableView) → AllPairs (λ a b. size_of_outage b ≤ size_of_outage a) (largest_first size_of_outage (all_outages interval es))

-- at no epoch more satellites slip than at one before it
abbrev pub LargestMomentsAreFirst : Type 0
LargestMomentsAreFirst =
    (interval : Option ℕ) (es : List EpochTableView) → AllPairs (λ a b. size_of_moment b ≤ size_of_moment a) (largest_first size_of_moment (common_moments interval es))

-- ---- bursts and runs of half cycles

abbrev pub moments_or_0 : Option HourMoments → ℕ
moments_or_0 None = 0
moments_or_0 (Some h) = h.moments

abbrev pub epochs_or_0 : Option Run → ℕ
epochs_or_0 None = 0
epochs_or_0 (Some r) = r.epochs

-- the epochs at which satellites slip, in all hours of a satellite that ended and in the last one
abbrev pub ended_moments : Option ℕ → List Sighting → ℕ
ended_moments interval [] = 0
ended_moments interval (s ∷ before) = ended_moments interval before + moments_or_0 (hour_before interval before s)

-- the epochs at which a satellite slips
abbrev pub slipping_epochs : Option ℕ → List Sighting → ℕ
slipping_epochs interval [] = 0
slipping_epochs interval (s ∷ before) = slipping_epochs interval before + (if nat_lt 0 (slips_of interval before s) then 1 else 0)

-- each epoch at which a satellite slips is in one hour
abbrev pub HoursHaveAllMoments : Type 0
HoursHaveAllMoments =
    (interval : Option ℕ) (before : List Sighting) → length before < 2 ^ 64
    → ended_moments interval before + moments_or_0 (last_hour interval before) ≡ slipping_epochs interval before

-- the epochs for which a test holds, in all runs of a satellite that ended
abbrev pub ended_epochs : (List Observed → Bool) → Option ℕ → List Sighting → ℕ
ended_epochs test interval [] = 0
ended_epochs test interval (s ∷ before) = ended_epochs test interval before + epochs_or_0 (ended_where test interval before s)

-- the epochs of a satellite with a phase for which it holds
abbrev pub epochs_where : (List Observed → Bool) → List Sighting → ℕ
epochs_where test [] = 0
epochs_where test (s ∷ before) = epochs_where test before + (if has_phase s.observed && test s.observed then 1 else 0)

-- each of them is in one run, that of half cycles, and of a code that is missing
abbrev pub RunsHaveAllEpochs : Type 0
RunsHaveAllEpochs =
    (test : List Observed → Bool) (interval : Option ℕ) (before : List Sighting) → length before < 2 ^ 64
    → ended_epochs test interval before + epochs_or_0 (open_where test interval before) ≡ epochs_where test before

-- no burst has more epochs than one before it
abbrev pub LargestBurstsAreFirst : Type 0
LargestBurstsAreFirst =
    (most : ℕ) (interval : Option ℕ) (es : List EpochTableView) → AllPairs (λ a b. size_of_burst b ≤ size_of_burst a) (largest_first size_of_burst (all_bursts most interval es))

-- no run is longer than one before it
abbrev pub LongestRunsAreFirst : Type 0
LongestRunsAreFirst =
    (most : ℕ) (interval : Option ℕ) (es : List EpochTableView) → AllPairs (λ a b. size_of_run b ≤ size_of_run a) (largest_first size_of_run (half_runs most interval es))

-- no time for which a code is missing is longer than one before it
abbrev pub LongestMissingAreFirst : Type 0
LongestMissingAreFirst =
    (most : ℕ) (interval : Option ℕ) (listed : List AnyCode) (es : List EpochTableView)
    → AllPairs (λ a b. size_of_missing b ≤ size_of_missing a) (largest_first size_of_missing (all_missing most interval listed es))

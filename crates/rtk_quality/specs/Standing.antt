-- What the counts hold, tied to what came.
use Rattle.std.specs.Prelude.{◌≡◌, ◌<◌, ℕ, ◌+◌, ◌==◌, Bool, true, false, List, [], ◌∷◌, ◌++◌, length, reverse, get_or, All, AllPairs, Option, None, Some, if◌then◌else◌}
use Rattle.std.specs.Int.{IsInRange}
use Rattle.rtk_obs.specs.declared.any_code.AnyCode.{AnyCode}
use Rattle.rtk_obs.specs.declared.time.Civil.{Civil}
use Rattle.rtk_rinex.specs.Record.{EpochTableView}
use Rattle.rtk_rinex.specs.declared.epoch_table.SatelliteRow.{SatelliteRow}
use Rattle.rtk_tracking.specs.Passes.{Sighting, sightings_of, begins_pass}
use Rattle.rtk_tracking.specs.Standing.{StandsForPass}
use Rattle.rtk_quality.specs.Counts.{code_counts_of}
use Rattle.rtk_quality.specs.SatellitePasses.{sums_plus, sums_in, passes_of, epochs_since_phase, epochs_in_passes}
use Rattle.rtk_quality.specs.Records.{record_counts_of}
use Rattle.rtk_quality.specs.Gaps.{gaps_of, size_of_gap}
use Rattle.rtk_quality.specs.Largest.{AreLargest}
use Rattle.rtk_quality.specs.Outages.{all_outages, size_of_outage}
use Rattle.rtk_quality.specs.Moments.{common_moments, size_of_moment}
use Rattle.rtk_quality.specs.Hours.{hours_of}
use Rattle.rtk_quality.specs.Missing.{open_missing, ended_missings, all_missing, size_of_missing}
use Rattle.rtk_quality.specs.Runs.{open_run, ended_runs, half_runs, size_of_run}
use Rattle.rtk_quality.specs.Bursts.{last_hour, ended_bursts, all_bursts, size_of_burst}
use Rattle.rtk_quality.specs.declared.runs.HalfRun.{HalfRun}
use Rattle.rtk_quality.specs.declared.missing.MissingCode.{MissingCode}
use Rattle.rtk_quality.specs.declared.missing.MissingRuns.{MissingRuns}
use Rattle.rtk_quality.specs.declared.missing.MissingCodes.{MissingCodes}
use Rattle.rtk_quality.specs.declared.bursts.Burst.{Burst}
use Rattle.rtk_quality.specs.Steps.Noted.{noted_hours, AreHours}
use Rattle.rtk_quality.specs.declared.hours.HourCounts.{HourCounts}
use Rattle.rtk_quality.specs.declared.pass_sums.PassSums.{PassSums}
use Rattle.rtk_quality.specs.declared.satellite_counts.PassCounts.{PassCounts}
use Rattle.rtk_quality.specs.declared.satellite_counts.SatelliteCounts.{SatelliteCounts}
use Rattle.rtk_quality.specs.declared.file_counts.EndedPass.{EndedPass}
use Rattle.rtk_quality.specs.declared.file_counts.FileCounts.{FileCounts}
use Rattle.rtk_quality.specs.declared.file_times.FileTimes.{FileTimes}
use Rattle.rtk_quality.specs.declared.heading.ListedCounts.{ListedCounts}

-- ---- a satellite

-- the newest pass
abbrev pub newest_pass : List PassCounts → Option PassCounts
newest_pass [] = None
newest_pass (p ∷ ps) = Some p

-- the passes before the newest one
abbrev pub older_passes : List PassCounts → List PassCounts
older_passes [] = []
older_passes (p ∷ ps) = ps

-- the last pass with an epoch more, or a pass that begins with it
abbrev pub with_epoch : Option PassCounts → Bool → Civil → PassSums → PassCounts
with_epoch (Some p) false reading sums = record { from = p.from; until = reading; sums = sums_plus p.sums sums }
with_epoch (Some p) true reading sums = record { from = reading; until = reading; sums = sums }
with_epoch None begins reading sums = record { from = reading; until = reading; sums = sums }

-- a satellite without a row in an epoch
abbrev pub absent_at : ℕ → Sighting
absent_at time = record { time = time; observed = [] }

-- a satellite after what came of it
pub record StandsForSatellite (s : SatelliteCounts) (interval : Option ℕ) (before : List Sighting) : Type 0 where
  pub pass : StandsForPass s.pass interval before
  pub codes : s.codes ≡ code_counts_of interval before
  pub in_passes : s.in_passes ≡ epochs_in_passes interval before
  pub since_phase : s.since_phase ≡ epochs_since_phase before
  pub last : s.last ≡ newest_pass (passes_of interval before)
  pub sums : s.sums ≡ sums_in interval before
  pub run : s.run ≡ open_run interval before
  pub hour : s.hour ≡ last_hour interval before

-- the pass that ends when another one begins
abbrev pub StandsForEnded : Option PassCounts → Option ℕ → List Sighting → Sighting → Type 0
StandsForEnded ended interval before s = ended ≡ (if begins_pass interval before s then newest_pass (passes_of interval before) else None)

-- a code of a satellite: the run of epochs at which it is missing, and those that ended
pub record StandsForMissing (m : MissingRuns) (interval : Option ℕ) (place : ℕ) (before : List Sighting) : Type 0 where
  pub newest : m.newest ≡ open_missing interval place before
  pub ended : m.ended.items ≡ ended_missings interval place before

-- so many codes of a satellite
pub record StandForCodes (codes : List MissingRuns) (count : ℕ) (interval : Option ℕ) (before : List Sighting) : Type 0 where
  pub size : length codes ≡ count
  pub each : (place : ℕ) (d : MissingRuns) → place < count → StandsForMissing (get_or codes place d) interval place before

-- ---- a file

-- rows of satellites from 1 to so many
abbrev pub AreRowsUpTo : ℕ → List SatelliteRow → Type 0
AreRowsUpTo most rows = All (λ r. IsInRange 1 most r.satellite) rows

-- rows whose satellites rise
abbrev pub RowsRise : List SatelliteRow → Type 0
RowsRise rows = AllPairs (λ a b. a.satellite < b.satellite) rows

-- epochs whose moments rise
abbrev pub EpochsRise : List EpochTableView → Type 0
EpochsRise epochs = AllPairs (λ a b. a.time < b.time) epochs

-- an epoch of which no row came so far
abbrev pub without_rows : ℕ → EpochTableView
without_rows time = record { time = time; rows = [] }

-- the satellites from 1 to so many
pub record StandForSatellites (satellites : List SatelliteCounts) (most : ℕ) (interval : Option ℕ) (es : List EpochTableView) : Type 0 where
  pub size : length satellites ≡ most
  pub each : (place : ℕ) (d : SatelliteCounts) → place < most → StandsForSatellite (get_or satellites place d) interval (sightings_of (place + 1) es)

-- so many codes of each of them
pub record StandForMissing (missing : List MissingCodes) (count : ℕ) (most : ℕ) (interval : Option ℕ) (es : List EpochTableView) : Type 0 where
  pub size : length missing ≡ most
  pub each : (place : ℕ) (d : MissingCodes) → place < most → StandForCodes (get_or missing place d).codes.items count interval (sightings_of (place + 1) es)

-- the passes of a satellite among those that ended
abbrev pub ended_of : ℕ → List EndedPass → List PassCounts
ended_of satellite [] = []
ended_of satellite (e ∷ ended) = if e.satellite == satellite then e.pass ∷ ended_of satellite ended else ended_of satellite ended

-- a pass of a satellite more, if one ended
abbrev pub with_ended : List EndedPass → ℕ → Option PassCounts → List EndedPass
with_ended ended satellite None = ended
with_ended ended satellite (Some p) = ended ++ record { satellite = satellite; pass = p } ∷ []

-- all passes but the newest one ended
abbrev pub HasEnded : List EndedPass → Option ℕ → List Sighting → ℕ → Type 0
HasEnded ended interval before satellite = ended_of satellite ended ≡ reverse (older_passes (passes_of interval before))

-- the passes of them that ended
abbrev pub StandForEnded : List EndedPass → ℕ → Option ℕ → List EpochTableView → Type 0
StandForEnded ended most interval es = (place : ℕ) → place < most → HasEnded ended interval (sightings_of (place + 1) es) (place + 1)

-- a file of these codes after these epochs, whose hours are given newest first, with these runs, bursts and missing codes
pub record StandsForFile (f : FileCounts) (most : ℕ) (interval : Option ℕ) (unit : ℕ) (listed : List AnyCode) (es : List EpochTableView) (hs : List HourCounts) (runs_so_far : List HalfRun) (bursts_so_far : List Burst) (missing_so_far : List MissingCode) : Type 0 where
  pub records : f.records ≡ record_counts_of unit es
  pub satellites : StandForSatellites f.satellites.items most interval es
  pub ended : StandForEnded f.ended.items most interval es
  pub hours : AreHours f.hours hs
  pub gaps : AreLargest size_of_gap f.gaps (gaps_of unit es)
  pub moments : AreLargest size_of_moment f.moments (common_moments interval es)
  pub outages : AreLargest size_of_outage f.events.outages (all_outages interval es)
  pub runs : AreLargest size_of_run f.events.runs runs_so_far
  pub bursts : AreLargest size_of_burst f.events.bursts bursts_so_far
  pub codes : StandForMissing f.codes.items (length listed) most interval es
  pub missing : AreLargest size_of_missing f.missing missing_so_far

-- what the moments of a file tell after these epochs
pub record IsTimesOf (f : FileTimes) (unit : ℕ) (es : List EpochTableView) : Type 0 where
  pub records : f.records ≡ record_counts_of unit es
  pub gaps : AreLargest size_of_gap f.gaps (gaps_of unit es)

-- how many there are of what has a list of the ten largest
abbrev pub listed_counts_of : FileCounts → ListedCounts
listed_counts_of f =
    record { gaps = f.gaps.count; moments = f.moments.count; bursts = f.events.bursts.count; runs = f.events.runs.count; missing = f.missing.count }

-- a file after these epochs, with the runs and bursts that ended
abbrev pub IsCounting : FileCounts → ℕ → Option ℕ → ℕ → List AnyCode → List EpochTableView → Type 0
IsCounting f most interval unit listed es = StandsForFile f most interval unit listed es (noted_hours interval unit listed es) (ended_runs interval es) (ended_bursts interval es) []

-- a file of these epochs, with all of them
abbrev pub HasCounted : FileCounts → ℕ → Option ℕ → ℕ → List AnyCode → List EpochTableView → Type 0
HasCounted f most interval unit listed es = StandsForFile f most interval unit listed es (hours_of interval unit listed es) (half_runs most interval es) (all_bursts most interval es) (all_missing most interval listed es)

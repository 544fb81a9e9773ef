-- The times at which codes of satellites are missing (this project's rule). What came is listed newest first, and the
-- runs oldest first.
use Rattle.std.specs.Prelude.{ℕ, ◌+◌, ◌*◌, ◌==◌, nat_lt, Bool, not, List, [], ◌∷◌, ◌++◌, map, flat_map, Option, None, Some, unwrap_or, if◌then◌else◌}
use Rattle.std.specs.List.{range_with_len}
use Rattle.rtk_obs.specs.declared.any_code.AnyCode.{AnyCode}
use Rattle.rtk_rinex.specs.Record.{EpochTableView}
use Rattle.rtk_rinex.specs.declared.epoch_table.Observed.{Observed}
use Rattle.rtk_tracking.specs.Epochs.{capped, shows_phase}
use Rattle.rtk_tracking.specs.Interval.{nearness_of}
use Rattle.rtk_tracking.specs.Passes.{Sighting, sightings_of}
use Rattle.rtk_quality.specs.Largest.{list_of, ten_largest, count_of}
use Rattle.rtk_quality.specs.Quality.{numbers_of}
use Rattle.rtk_quality.specs.Runs.{open_where, ended_where}
use Rattle.rtk_quality.specs.declared.missing.MissingCode.{MissingCode}
use Rattle.rtk_quality.specs.declared.runs.Run.{Run}

-- ---- the runs of a code of a satellite

-- formula
-- the code at this place has no phase
abbrev pub lacks : ℕ → List Observed → Bool
lacks place os = not (shows_phase place os)

-- the run at the end of these epochs: the last epochs with a phase in the last pass, if none of them has one of the code
abbrev pub open_missing : Option ℕ → ℕ → List Sighting → Option Run
open_missing interval place before = open_where (lacks place) interval before

-- the run that ends before an epoch, because it has a phase of the code or begins a pass
abbrev pub ended_missing : Option ℕ → ℕ → List Sighting → Sighting → Option Run
ended_missing interval place before s = ended_where (lacks place) interval before s

-- formula
-- the epochs of a run, each of them one interval, are together longer than 120 s, by more than twice the nearness that
-- the interval has
abbrev pub is_listed : Option ℕ → Run → Bool
is_listed interval r = nat_lt (120_000 + 2 * nearness_of interval) (capped (r.epochs * unwrap_or interval 0))

abbrev pub if_listed : Option ℕ → Option Run → Option Run
if_listed interval None = None
if_listed interval (Some r) = if is_listed interval r then Some r else None

-- those that ended
abbrev pub ended_missings : Option ℕ → ℕ → List Sighting → List Run
ended_missings interval place [] = []
ended_missings interval place (s ∷ before) = ended_missings interval place before ++ list_of (if_listed interval (ended_missing interval place before s))

-- all of them
abbrev pub missing_runs : Option ℕ → ℕ → List Sighting → List Run
missing_runs interval place before = ended_missings interval place before ++ list_of (if_listed interval (open_missing interval place before))

-- ---- those of the file

-- a run of a code of a satellite
abbrev pub missing_code : ℕ → AnyCode → Run → MissingCode
missing_code satellite code run = record { satellite = satellite; code = code; run = run }

-- formula
-- the runs of a code, if the satellite has a phase of it in the file
abbrev pub missing_of : Option ℕ → List Sighting → ℕ → ℕ → AnyCode → List MissingCode
missing_of interval before satellite place code =
    if (numbers_of interval before place).counts.phases == 0 then [] else map (missing_code satellite code) (missing_runs interval place before)

-- those of codes by their places
abbrev pub missing_from : Option ℕ → List Sighting → ℕ → ℕ → List AnyCode → List MissingCode
missing_from interval before satellite place [] = []
missing_from interval before satellite place (c ∷ cs) = missing_of interval before satellite place c ++ missing_from interval before satellite (place + 1) cs

-- formula
-- all of them, by satellite, then by code, and then by time
unfoldable pub all_missing : ℕ → Option ℕ → List AnyCode → List EpochTableView → List MissingCode
all_missing most interval listed es = flat_map (λ satellite. missing_from interval (sightings_of satellite es) satellite 0 listed) (range_with_len 1 most)

-- the size of a run is the number of its epochs with a phase of the satellite
abbrev pub size_of_missing : MissingCode → ℕ
size_of_missing m = m.run.epochs

-- formula
-- how many there are
abbrev pub missing_codes_in : ℕ → Option ℕ → List AnyCode → List EpochTableView → ℕ
missing_codes_in most interval listed es = count_of (all_missing most interval listed es)

-- formula
-- the ten longest, the longest first, and of two alike the earlier one
abbrev pub longest_missing : ℕ → Option ℕ → List AnyCode → List EpochTableView → List MissingCode
longest_missing most interval listed es = ten_largest size_of_missing (all_missing most interval listed es)

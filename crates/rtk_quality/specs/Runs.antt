-- Runs of epochs of a satellite, and its runs of half cycles (this project's rule). What came is listed newest first, and
-- the runs oldest first.
use Rattle.std.specs.Prelude.{ℕ, Bool, not, ◌||◌, List, [], ◌∷◌, ◌++◌, flat_map, Option, None, Some, if◌then◌else◌}
use Rattle.std.specs.List.{list_any, range_with_len}
use Rattle.rtk_obs.specs.declared.time.Civil.{Civil}
use Rattle.rtk_obs.specs.Reading.{reading_of}
use Rattle.rtk_rinex.specs.Record.{EpochTableView}
use Rattle.rtk_rinex.specs.declared.epoch_table.Observed.{Observed}
use Rattle.rtk_rinex.specs.declared.epoch_table.SatelliteRow.{SatelliteRow}
use Rattle.rtk_tracking.specs.Passes.{Sighting, sightings_of, has_phase, begins_pass}
use Rattle.rtk_quality.specs.Counts.{plus}
use Rattle.rtk_quality.specs.Largest.{list_of, ten_largest, count_of}
use Rattle.rtk_quality.specs.declared.runs.Run.{Run}
use Rattle.rtk_quality.specs.declared.runs.HalfRun.{HalfRun}

-- some code has an open half cycle
abbrev pub has_half : List Observed → Bool
has_half os = list_any (λ o. o.half) os

-- a run with one more epoch, or one that begins with it
abbrev pub run_with : Option Run → Civil → Run
run_with None reading = record { from = reading; until = reading; epochs = 1 }
run_with (Some r) reading = record { from = r.from; until = reading; epochs = plus r.epochs 1 }

-- the run that goes on with an epoch, unless a pass begins with it
abbrev pub run_into : Bool → Option Run → Option Run
run_into begins run = if begins then None else run

-- the run after an epoch with a phase
abbrev pub run_after : Option Run → Bool → Bool → Civil → Option Run
run_after run begins half reading = if half then Some (run_with (run_into begins run) reading) else None

-- the run that ends before an epoch with a phase
abbrev pub run_ended : Option Run → Bool → Bool → Option Run
run_ended run begins half = if begins || not half then run else None

-- formula
-- the run at the end of these epochs for which a test holds: the last epochs with a phase in the last pass, if it holds
-- for each of them
abbrev pub open_where : (List Observed → Bool) → Option ℕ → List Sighting → Option Run
open_where test interval [] = None
open_where test interval (s ∷ before) =
    if has_phase s.observed then run_after (open_where test interval before) (begins_pass interval before s) (test s.observed) (reading_of s.time)
    else open_where test interval before

-- formula
-- the run that ends before an epoch, because it has a phase and the test fails, or because it begins a pass
abbrev pub ended_where : (List Observed → Bool) → Option ℕ → List Sighting → Sighting → Option Run
ended_where test interval before s =
    if has_phase s.observed then run_ended (open_where test interval before) (begins_pass interval before s) (test s.observed) else None

-- those of half cycles
abbrev pub open_run : Option ℕ → List Sighting → Option Run
open_run interval before = open_where has_half interval before

abbrev pub ended_run : Option ℕ → List Sighting → Sighting → Option Run
ended_run interval before s = ended_where has_half interval before s

abbrev pub half_run : ℕ → Option Run → Option HalfRun
half_run satellite None = None
half_run satellite (Some run) = Some (record { satellite = satellite; run = run })

-- the runs that end before rows of an epoch
abbrev pub runs_in : Option ℕ → List EpochTableView → ℕ → List SatelliteRow → List HalfRun
runs_in interval before t rows =
    flat_map (λ r. list_of (half_run r.satellite (ended_run interval (sightings_of r.satellite before) (record { time = t; observed = r.observed.items })))) rows

-- those that end before the last epoch, or with it
abbrev pub ended_runs : Option ℕ → List EpochTableView → List HalfRun
ended_runs interval [] = []
ended_runs interval (e ∷ before) = ended_runs interval before ++ runs_in interval before e.time e.rows

-- the runs that no epoch of the file ends
unfoldable pub open_runs : ℕ → Option ℕ → List EpochTableView → List HalfRun
open_runs most interval es = flat_map (λ satellite. list_of (half_run satellite (open_run interval (sightings_of satellite es)))) (range_with_len 1 most)

-- formula
-- all runs, by the epochs that end them, and then by satellite
abbrev pub half_runs : ℕ → Option ℕ → List EpochTableView → List HalfRun
half_runs most interval es = ended_runs interval es ++ open_runs most interval es

-- the size of a run is the number of its epochs with a phase
abbrev pub size_of_run : HalfRun → ℕ
size_of_run h = h.run.epochs

-- formula
-- how many runs there are
abbrev pub half_runs_in : ℕ → Option ℕ → List EpochTableView → ℕ
half_runs_in most interval es = count_of (half_runs most interval es)

-- formula
-- the ten longest runs, the longest first, and of two alike the earlier one
abbrev pub longest_half_runs : ℕ → Option ℕ → List EpochTableView → List HalfRun
longest_half_runs most interval es = ten_largest size_of_run (half_runs most interval es)

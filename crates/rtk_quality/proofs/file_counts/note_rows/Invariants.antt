use Rattle.std.proofs.Common.{◌≡◌, ◌∷◌, ◌++◌, ℕ, List, length, take, drop}
use Rattle.rtk_rinex.specs.Record.{EpochTableView}
use Rattle.rtk_tracking.specs.Epochs.{newest_moment}
use Rattle.rtk_quality.specs.Largest.{AreLargest}
use Rattle.rtk_quality.specs.Moments.{together_in}
use Rattle.rtk_quality.specs.Outages.{outages_in, size_of_outage}
use Rattle.rtk_quality.specs.declared.outages.Outage.{Outage}
use Rattle.rtk_quality.specs.Runs.{runs_in, size_of_run}
use Rattle.rtk_quality.specs.Bursts.{bursts_in, size_of_burst}
use Rattle.rtk_quality.specs.declared.runs.HalfRun.{HalfRun}
use Rattle.rtk_quality.specs.declared.bursts.Burst.{Burst}
use Rattle.rtk_quality.specs.Steps.Noted.{no_locks, locks_onto}
use Rattle.rtk_quality.specs.Standing.{RowsRise, without_rows, StandForSatellites, StandForMissing, StandForEnded}
use Rattle.rtk_quality.proofs.RowLemmas.{first_rows}
use Rattle.rtk_quality.proofs.file_counts.note_rows.Given as goal

abbrev pub invariant-loop-row : goal.invariant-loop-row
invariant-loop-row l = record {
  size : length l.satellites.items ≡ length l.fn.satellites.items;
  codes_size : length l.codes.items ≡ length l.fn.codes.items;
  satellites : (most : ℕ) (es : List EpochTableView) → RowsRise l.rows → l.record_ms ≡ newest_moment es → StandForSatellites l.fn.satellites.items most l.interval (without_rows l.time ∷ es)
      → StandForSatellites l.satellites.items most l.interval (first_rows (record { time = l.time; rows = l.rows }) l.row-index ∷ es);
  codes : (most : ℕ) (es : List EpochTableView) (count : ℕ) → RowsRise l.rows → l.record_ms ≡ newest_moment es → StandForSatellites l.fn.satellites.items most l.interval (without_rows l.time ∷ es)
      → StandForMissing l.fn.codes.items count most l.interval es → StandForMissing l.codes.items count most l.interval (first_rows (record { time = l.time; rows = l.rows }) l.row-index ∷ es);
  ended : (most : ℕ) (es : List EpochTableView) → RowsRise l.rows → l.record_ms ≡ newest_moment es → StandForSatellites l.fn.satellites.items most l.interval (without_rows l.time ∷ es) → StandForEnded l.fn.ended.items most l.interval es
      → StandForEnded l.ended.items most l.interval (first_rows (record { time = l.time; rows = l.rows }) l.row-index ∷ es);
  locks : (most : ℕ) (es : List EpochTableView) → RowsRise l.rows → l.record_ms ≡ newest_moment es → StandForSatellites l.fn.satellites.items most l.interval (without_rows l.time ∷ es)
      → locks_onto l.interval es l.time no_locks l.rows ≡ locks_onto l.interval es l.time l.locks (drop l.row-index l.rows);
  outages : (most : ℕ) (es : List EpochTableView) (all : List Outage) → RowsRise l.rows → l.record_ms ≡ newest_moment es → StandForSatellites l.fn.satellites.items most l.interval (without_rows l.time ∷ es)
      → AreLargest size_of_outage l.fn.events.outages all → AreLargest size_of_outage l.events.outages (all ++ outages_in l.interval es l.time (take l.row-index l.rows));
  runs : (most : ℕ) (es : List EpochTableView) (all : List HalfRun) → RowsRise l.rows → l.record_ms ≡ newest_moment es → StandForSatellites l.fn.satellites.items most l.interval (without_rows l.time ∷ es)
      → AreLargest size_of_run l.fn.events.runs all → AreLargest size_of_run l.events.runs (all ++ runs_in l.interval es l.time (take l.row-index l.rows));
  bursts : (most : ℕ) (es : List EpochTableView) (all : List Burst) → RowsRise l.rows → l.record_ms ≡ newest_moment es → StandForSatellites l.fn.satellites.items most l.interval (without_rows l.time ∷ es)
      → AreLargest size_of_burst l.fn.events.bursts all → AreLargest size_of_burst l.events.bursts (all ++ bursts_in l.interval es l.time (take l.row-index l.rows));
  together : (most : ℕ) (es : List EpochTableView) → RowsRise l.rows → l.record_ms ≡ newest_moment es → StandForSatellites l.fn.satellites.items most l.interval (without_rows l.time ∷ es)
      → l.together ≡ together_in l.interval es l.time (take l.row-index l.rows);
}

-- The counts of records (this project's rule). The epochs are listed newest first.
use Rattle.std.specs.Prelude.{ℕ, List, [], ◌∷◌, length, Option, None, Some, max}
use Rattle.rtk_rinex.specs.Record.{EpochTableView}
use Rattle.rtk_tracking.specs.Epochs.{capped, newest_moment}
use Rattle.rtk_tracking.specs.Extremes.{lesser, greater}
use Rattle.rtk_tracking.specs.Interval.{missing_in}
use Rattle.rtk_quality.specs.Counts.{plus}
use Rattle.rtk_quality.specs.declared.record_counts.RecordCounts.{RecordCounts}

-- the length in ms by which missing epochs are counted: the interval. A single epoch misses none by any.
abbrev pub unit_of : Option ℕ → ℕ
unit_of None = 1
unit_of (Some interval) = max interval 1

-- how many satellites have a row
abbrev pub rows_of : EpochTableView → ℕ
rows_of e = length e.rows

abbrev pub rows_total : List EpochTableView → ℕ
rows_total [] = 0
rows_total (e ∷ before) = plus (rows_total before) (rows_of e)

abbrev pub least_rows : List EpochTableView → Option ℕ
least_rows [] = None
least_rows (e ∷ before) = lesser (Some (rows_of e)) (least_rows before)

abbrev pub most_rows : List EpochTableView → Option ℕ
most_rows [] = None
most_rows (e ∷ before) = greater (Some (rows_of e)) (most_rows before)

-- formula
-- the records, the epochs that are missing, the moment of the last record, and the satellites of all
-- records together, of the record with the fewest, and of the one with the most
abbrev pub record_counts_of : ℕ → List EpochTableView → RecordCounts
record_counts_of unit es =
    record {
      records = capped (length es);
      missing = capped (missing_in unit es);
      last = newest_moment es;
      rows = rows_total es;
      least_rows = least_rows es;
      most_rows = most_rows es;
    }

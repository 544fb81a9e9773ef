-- The lines of a header that follow from the records of its file: their interval, and the time of the last one. They
-- stand after the lines that a label changes.
-- Source: RINEX 3.05, Table A2
use Rattle.std.specs.Prelude.{ℕ, nat_lt, Bool, List, [], ◌++◌, codes, pos, Option, None, Some, if◌then◌else◌}
use Rattle.rtk_rinex.specs.Columns.{fixed}
use Rattle.rtk_rinex.specs.Header.{header_line, first_text}
use Rattle.rtk_obs.specs.Reading.{reading_of}
use Rattle.rtk_label.specs.declared.time_lines.TimeLines.{TimeLines}

abbrev pub interval_label : List ℕ
interval_label = codes "INTERVAL"

abbrev pub last_label : List ℕ
last_label = codes "TIME OF LAST OBS"

-- formula
-- the interval, given in ms, in s: F10.3; an interval that is too long for these columns has no line (this project's
-- rule)
abbrev pub interval_line : Option ℕ → List ℕ
interval_line None = []
interval_line (Some ms) = if nat_lt ms 1_000_000_000 then header_line (fixed 3 10 (pos ms)) interval_label else []

-- formula
-- the time of the last observation: 5I6, F13.7, 5X, A3, in GPS time as the time of the first one
abbrev pub last_time_line : Option ℕ → List ℕ
last_time_line None = []
last_time_line (Some t) = header_line (first_text (reading_of t)) last_label

-- what is asked for
abbrev pub asked : Bool → Option ℕ → Option ℕ
asked is value = if is then value else None

-- the lines that are asked for, of an interval and the moment of the last record
abbrev pub extent_lines : TimeLines → Option ℕ → Option ℕ → List ℕ
extent_lines w interval last = interval_line (asked w.interval interval) ++ last_time_line (asked w.last last)

-- What the columns of an epoch line show, whatever stands in them; it counts only if its own text
-- equals those columns. And the columns of codes.
use Rattle.std.specs.Prelude.{◌≡◌, ℕ, zero, suc, ◌/◌, ◌%◌, List, [], take, drop}
use Rattle.rtk_obs.specs.declared.time.Civil.{Civil}
use Rattle.rtk_rinex.specs.Columns.{left}
use Rattle.rtk_rinex.specs.Record.{observations}
use Rattle.rtk_rinex.specs.Table.{IsObserved}
use Rattle.rtk_rinex.specs.Steps.Digits.{digits_from}
use Rattle.rtk_rinex.specs.declared.epoch_table.Observed.{Observed}

-- the seconds of an epoch line, in 10^-7 s
abbrev pub seconds_in : List ℕ → ℕ
seconds_in line = digits_from 0 (take 11 (drop 18 line))

-- the date and time that an epoch line shows
abbrev pub civil_in : List ℕ → Civil
civil_in line =
    record {
      year = digits_from 0 (take 4 (drop 2 line));
      month = digits_from 0 (take 2 (drop 7 line));
      day = digits_from 0 (take 2 (drop 10 line));
      hour = digits_from 0 (take 2 (drop 13 line));
      minute = digits_from 0 (take 2 (drop 16 line));
      second = seconds_in line / 10_000_000;
      millisecond = seconds_in line / 10_000 % 1000;
    }

-- the count of satellites that it shows
abbrev pub count_in : List ℕ → ℕ
count_in line = digits_from 0 (drop 32 line)

-- the columns of what a code can show; blanks at the end may be missing
abbrev pub IsCell : List ℕ → Type 0
IsCell columns = (o : Observed) × IsObserved o × (left 48 columns ≡ observations o)

-- the columns of n codes, 48 for each; blanks at the end may be missing
abbrev pub AreCells : ℕ → List ℕ → Type 0
AreCells zero columns = columns ≡ []
AreCells (suc n) columns = IsCell (take 48 columns) × AreCells n (drop 48 columns)

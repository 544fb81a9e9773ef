-- The gaps of a file (this project's rule). The epochs are listed newest first, and the gaps oldest first.
use Rattle.std.specs.Prelude.{ℕ, ◌==◌, List, [], ◌∷◌, ◌++◌, Option, None, Some, if◌then◌else◌}
use Rattle.rtk_obs.specs.Reading.{reading_of}
use Rattle.rtk_rinex.specs.Record.{EpochTableView}
use Rattle.rtk_tracking.specs.Epochs.{newest_moment}
use Rattle.rtk_tracking.specs.Interval.{missing_before}
use Rattle.rtk_quality.specs.Largest.{list_of, ten_largest, count_of}
use Rattle.rtk_quality.specs.declared.gaps.Gap.{Gap}

-- formula
-- the gap between two records, if an epoch is missing there
abbrev pub gap_between : ℕ → Option ℕ → ℕ → Option Gap
gap_between unit None t = None
gap_between unit (Some last) t =
    if missing_before unit (Some last) t == 0 then None
    else Some (record { from = reading_of last; until = reading_of t; missing = missing_before unit (Some last) t })

-- formula
-- all gaps
abbrev pub gaps_of : ℕ → List EpochTableView → List Gap
gaps_of unit [] = []
gaps_of unit (e ∷ before) = gaps_of unit before ++ list_of (gap_between unit (newest_moment before) e.time)

-- the size of a gap is the number of its missing epochs
abbrev pub size_of_gap : Gap → ℕ
size_of_gap g = g.missing

-- formula
-- how many gaps there are
abbrev pub gaps_in : ℕ → List EpochTableView → ℕ
gaps_in unit es = count_of (gaps_of unit es)

-- formula
-- the ten longest gaps, the longest first, and of two alike the earlier one
abbrev pub longest_gaps : ℕ → List EpochTableView → List Gap
longest_gaps unit es = ten_largest size_of_gap (gaps_of unit es)

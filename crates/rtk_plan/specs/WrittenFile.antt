-- What a file has that is written, as lines tell it (this project's rule).
use Rattle.std.specs.Prelude.{ℕ, ◌-◌, ◌*◌, ◌==◌, Bool, max, nat_lt, List, [], ◌∷◌, ◌++◌, Option, None, Some, codes, decimal, flat_map, if◌then◌else◌}
use Rattle.std.specs.List.{sum_by}
use Rattle.rtk_survey.specs.Counting.{shown_count, count_of}
use Rattle.rtk_captures.specs.TimeText.{time_text}
use Rattle.rtk_plan.specs.declared.written_file.Step.{Step}
use Rattle.rtk_plan.specs.declared.written_file.WrittenFile.{WrittenFile}

-- ---- epochs

abbrev pub step_if_both : Option ℕ → Option ℕ → Option Step
step_if_both None last = None
step_if_both (Some first) None = None
step_if_both (Some first) (Some last) = Some (record { from = first; until = last })

-- the first and the last epoch
abbrev pub written_span : WrittenFile → Option Step
written_span f = step_if_both f.first f.last

-- ---- gaps

-- formula
abbrev pub step_ms : Step → ℕ
step_ms s = s.until - s.from

-- the step that most epochs have, of those before it, which have so many, and of steps with their counts; of two
-- alike the first
abbrev pub most_frequent : ℕ → ℕ → List (ℕ × ℕ) → ℕ
most_frequent interval most [] = interval
most_frequent interval most (e ∷ es) = if nat_lt most e.1 then most_frequent e.0 e.1 es else most_frequent interval most es

abbrev pub interval_ms : WrittenFile → ℕ
interval_ms f = most_frequent 0 0 f.steps.entries

-- formula
-- a gap is longer than 60 s and than ten intervals
abbrev pub greatest_step_ms : WrittenFile → ℕ
greatest_step_ms f = max 60_000 (shown_count (interval_ms f * 10))

abbrev pub is_gap : ℕ → Step → Bool
is_gap greatest s = nat_lt greatest (step_ms s)

-- formula
-- the line of a gap
abbrev pub written_gap_line : Step → List ℕ
written_gap_line s = codes " gap " ++ time_text s.from ++ codes " until " ++ time_text s.until ++ codes "\n"

abbrev pub written_gap_line_if : ℕ → Step → List ℕ
written_gap_line_if greatest s = if is_gap greatest s then written_gap_line s else []

abbrev pub count_if_longer : ℕ → ℕ → ℕ → ℕ
count_if_longer greatest step count = if nat_lt greatest step then count else 0

-- how many of steps with their counts are gaps
abbrev pub gap_count : ℕ → List (ℕ × ℕ) → ℕ
gap_count greatest es = shown_count (sum_by (λ e. count_if_longer greatest e.0 e.1) es)

-- formula
-- how many gaps have no line, if some have none
abbrev pub more_gaps_line : ℕ → List ℕ
more_gaps_line more = if more == 0 then [] else codes " more-gaps " ++ decimal more ++ codes "\n"

abbrev pub gap_lines_with : ℕ → List Step → List (ℕ × ℕ) → List ℕ
gap_lines_with greatest longest es =
    flat_map (written_gap_line_if greatest) longest ++ more_gaps_line (gap_count greatest es - count_of (is_gap greatest) longest)

-- the gaps among the longest steps, which are listed, and how many more there are
abbrev pub gap_lines : WrittenFile → List ℕ
gap_lines f = gap_lines_with (greatest_step_ms f) f.longest.items f.steps.entries

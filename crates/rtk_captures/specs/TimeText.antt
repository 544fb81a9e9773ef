-- How a moment is written (this project's rule).
use Rattle.std.specs.Prelude.{ℕ, ◌+◌, List, ◌++◌, codes}
use Rattle.rtk_obs.specs.CivilText.{date_text, clock_text}
use Rattle.rtk_obs.specs.Reading.{reading_of}

-- formula
-- a moment as an option writes it, its milliseconds dropped: 2024-05-17T12:00:00
unfoldable pub time_text : ℕ → List ℕ
time_text t = date_text (reading_of t) ++ codes "T" ++ clock_text (reading_of t)

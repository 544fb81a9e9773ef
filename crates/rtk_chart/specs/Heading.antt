-- Lengths of time in pictures (this project's rule).
use Rattle.std.specs.Prelude.{ℕ, ◌/◌, List, [], ◌∷◌, ◌++◌, codes, decimal, Option, None, Some}
use Rattle.rtk_obs.specs.CivilText.{last_digits}

-- formula
-- a number of ms in seconds, as in 30.000
unfoldable pub seconds_text : ℕ → List ℕ
seconds_text ms = decimal (ms / 1000) ++ 46 ∷ last_digits 3 ms

-- formula
-- the interval and the length of a bin in seconds; nothing without an interval
unfoldable pub interval_lines : Option ℕ → ℕ → List ℕ
interval_lines None bin_ms = []
interval_lines (Some ms) bin_ms = codes "interval " ++ seconds_text ms ++ codes "\ncolumn " ++ seconds_text bin_ms ++ 10 ∷ []

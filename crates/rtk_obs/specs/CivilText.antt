-- Civil readings as text (this project's rule).
use Rattle.std.specs.Prelude.{ℕ, zero, suc, ◌+◌, ◌/◌, ◌%◌, List, [], ◌∷◌, ◌++◌}
use Rattle.rtk_obs.specs.declared.time.Civil.{Civil}

-- formula
-- the last k decimal digits of n, with zeros in front if it has fewer
abbrev pub last_digits : ℕ → ℕ → List ℕ
last_digits zero n = []
last_digits (suc k) n = last_digits k (n / 10) ++ (48 + n % 10) ∷ []

-- formula
-- a date, as in 2024-05-17
unfoldable pub date_text : Civil → List ℕ
date_text c = last_digits 4 c.year ++ 45 ∷ last_digits 2 c.month ++ 45 ∷ last_digits 2 c.day

-- formula
-- a time of day, as in 13:00:00
unfoldable pub clock_text : Civil → List ℕ
clock_text c = last_digits 2 c.hour ++ 58 ∷ last_digits 2 c.minute ++ 58 ∷ last_digits 2 c.second

-- formula
-- a date and a time of day, as in 2024-05-17 13:00:00.000
unfoldable pub civil_text : Civil → List ℕ
civil_text c = date_text c ++ 32 ∷ clock_text c ++ 46 ∷ last_digits 3 c.millisecond

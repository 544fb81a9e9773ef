-- A moment as the words of a command line write it: a whole second, as 2024-05-17T12:00:00
-- (ISO 8601).
use Rattle.std.specs.Prelude.{◌≡◌, ℕ, ◌<◌, ◌≤◌, List, ◌∷◌, ◌++◌, Option, IsSomeAnd}
use Rattle.std.specs.Borrow.{Bor}
use Rattle.rtk_obs.specs.declared.time.Civil.{Civil}
use Rattle.rtk_obs.specs.declared.time.TheConstants.{LAST_MS}
use Rattle.rtk_obs.specs.Calendar.{ReadsAs}
use Rattle.rtk_obs.specs.CivilText.{last_digits}

-- a reading to the second
abbrev pub moment_text : Civil → List ℕ
moment_text c =
    last_digits 4 c.year ++ 45 ∷ last_digits 2 c.month ++ 45 ∷ last_digits 2 c.day
    ++ 84 ∷ last_digits 2 c.hour ++ 58 ∷ last_digits 2 c.minute ++ 58 ∷ last_digits 2 c.second

-- each number of the reading fits its digits: four for the year, two for the others; the
-- millisecond, which has none, is 0
abbrev pub HasDigits : Civil → Type 0
HasDigits c =
    (c.year < 10_000) × (c.month < 100) × (c.day < 100) × (c.hour < 100) × (c.minute < 100) × (c.second < 100)
    × (c.millisecond ≡ 0)

-- formula
-- the text writes a moment: it is the text of the moment's date and time, which has a whole second
abbrev pub WritesMoment : List ℕ → ℕ → Type 0
WritesMoment text t = (c : Civil) × ReadsAs t c × HasDigits c × (text ≡ moment_text c)

-- the text writes a moment up to the last one that is counted
abbrev pub HasMoment : List ℕ → Type 0
HasMoment text = (t : ℕ) × (t ≤ LAST_MS) × WritesMoment text t

-- the option is there, and its text writes no moment
abbrev pub HasNoMoment : Option (Bor (List ℕ)) → Type 0
HasNoMoment o = IsSomeAnd o (λ text. ¬ (HasMoment text.now))

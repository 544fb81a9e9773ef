-- The stations below a number that have observations.
use Rattle.std.specs.Prelude.{◌≡◌, ℕ, ◌<◌, true, List, Option, None, Some}
use Rattle.std.specs.List.{list_any}
use Rattle.rtk_survey.specs.declared.survey.CaptureSurvey.{CaptureSurvey}
use Rattle.rtk_captures.specs.StationCaptures.{is_observed_in}

-- of the stations below this one none has an observation, or this one alone
abbrev pub IsOnlyBelow : List CaptureSurvey → ℕ → Option ℕ → Type 0
IsOnlyBelow ss end None = (n : ℕ) → n < end → list_any (is_observed_in n) ss ≡ true → ⊥
IsOnlyBelow ss end (Some station) =
    (station < end) × (list_any (is_observed_in station) ss ≡ true) × ((n : ℕ) → n < end → list_any (is_observed_in n) ss ≡ true → n ≡ station)

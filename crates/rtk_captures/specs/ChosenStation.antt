-- Which station is converted if none is named (this project's rule).
use Rattle.std.specs.Prelude.{◌≡◌, ◌≢◌, ℕ, ◌<◌, true, List}
use Rattle.std.specs.List.{list_any}
use Rattle.rtk_survey.specs.declared.survey.CaptureSurvey.{CaptureSurvey}
use Rattle.rtk_captures.specs.StationCaptures.{is_observed_in}

-- some capture has one; the number of a station (DF003) has 12 bits
abbrev pub IsObservedStation : List CaptureSurvey → ℕ → Type 0
IsObservedStation ss n = (n < 4096) × (list_any (is_observed_in n) ss ≡ true)

-- one station alone has observations
pub record IsOnlyObserved (ss : List CaptureSurvey) (n : ℕ) : Type 0 where
  pub observed : IsObservedStation ss n
  pub alone : (m : ℕ) → IsObservedStation ss m → m ≡ n

-- two stations have observations
abbrev pub AreSeveralObserved : List CaptureSurvey → Type 0
AreSeveralObserved ss = (m : ℕ) × (n : ℕ) × (m ≢ n) × IsObservedStation ss m × IsObservedStation ss n

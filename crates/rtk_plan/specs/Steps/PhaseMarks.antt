-- The satellites that have a value in a code, as marks by their mask bits (DF394).
use Rattle.std.specs.Prelude.{◌≡◌, ℕ, ◌<◌, Bool, List, get_or}
use Rattle.rtk_survey.specs.declared.survey.CaptureSurvey.{CaptureSurvey}
use Rattle.rtk_plan.specs.FewPhases.{code_count}
use Rattle.rtk_plan.specs.declared.few_phases.CountedPhases.{CountedPhases}

-- each place has the mark of its satellite
abbrev pub MarksSatellites : List CaptureSurvey → ℕ → CountedPhases → ℕ → List Bool → Type 0
MarksSatellites ss n from code marks = (bit : ℕ) (none : Bool) → bit < 64 → get_or marks bit none ≡ (code_count ss n from bit code).has_value

-- The surveys of captures, by the bytes that their readers had.
use Rattle.std.specs.Prelude.{ℕ, List, Option, All}
use Rattle.rtk_survey.specs.ReadFrames.{ReadFrame}
use Rattle.rtk_survey.specs.Summary.{AreFramesOf}
use Rattle.rtk_survey.specs.Surveys.{IsSurveyOf}
use Rattle.rtk_survey.specs.declared.survey.CaptureSurvey.{CaptureSurvey}
use Rattle.rtk_survey.specs.declared.target.Target.{Target}

-- the survey of a capture with these bytes, for a station if it is asked for
abbrev pub SurveysText : Option Target → List ℕ → CaptureSurvey → Type 0
SurveysText q bytes s = (fs : List ReadFrame) × AreFramesOf bytes fs × IsSurveyOf q bytes fs s

abbrev pub IsSurvey : Option Target → CaptureSurvey → Type 0
IsSurvey q s = (bytes : List ℕ) × SurveysText q bytes s

abbrev pub AreSurveys : Option Target → List CaptureSurvey → Type 0
AreSurveys q ss = All (IsSurvey q) ss

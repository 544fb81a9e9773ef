use Rattle.std.proofs.Common.{◌≡◌, Some, length}
use Rattle.rtk_cli.specs.SurveysText.{AreSurveys}
use Rattle.rtk_cli.proofs.auto_reading.survey_captures.Given as goal

abbrev pub invariant-loop-name : goal.invariant-loop-name
invariant-loop-name g l = record {
  surveys : AreSurveys (Some l.target) l.surveys.items;
  count : length l.surveys.items ≡ l.name-index;
}

use Rattle.std.proofs.Common.{Some, ap, length, arith}
use Rattle.std.proofs.lemmas.List.{length_push}
use Rattle.std.proofs.lemmas.List.Elements.{All-push, All-same}
use Rattle.rtk_cli.specs.SurveysText.{IsSurvey}
use Rattle.rtk_cli.proofs.auto_reading.survey_captures.Goals as goal

pub loop-name-preserved : goal.loop-name-preserved
loop-name-preserved g c =
    let had = c.loop-name.invariant in
    let surveys = c.loop-name.surveys.items in
    let survey = c.in_ok-survey.survey in
    let count = ap length c.in-Ok.ensures.items in
    let pushed = length_push surveys survey in
    record {
      surveys = All-same (IsSurvey (Some c.args.target.now)) _ _ c.in-Ok.ensures.items
          (All-push (IsSurvey (Some c.args.target.now)) surveys survey had.surveys c.in_ok-survey.ensures.survey);
      count = omega (arith, count, pushed, had.count);
    }

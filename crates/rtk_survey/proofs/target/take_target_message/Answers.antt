use Rattle.std.proofs.Common.{◌∷◌, Option, Ok, subst}
use Rattle.rtk_survey.specs.ReadFrames.{read_frame}
use Rattle.rtk_survey.specs.Targets.{IsAnswer}
use Rattle.rtk_survey.specs.declared.target.TargetSurvey.{TargetSurvey}
use Rattle.rtk_survey.proofs.ResultLemmas.{on-ok}
use Rattle.rtk_survey.proofs.TargetLemmas.{answer-more}
use Rattle.rtk_survey.proofs.target.take_target_message.Goals as goal

pub returns-in-Some : goal.returns-in-Some
returns-in-Some c = on-ok c.take_message.result (λ took q fs payload count is.
    answer-more q fs (read_frame payload (Ok c.args.message.now) ∷ fs) c.in-Some.survey c.take_message.new.self (λ t had. took t fs payload count had)
    (subst (λ (o : Option TargetSurvey). IsAnswer q fs o) c.in-Some.is is)) c.take_message.ensures

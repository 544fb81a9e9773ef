use Rattle.std.proofs.Common.{◌∷◌, Option, Err, subst}
use Rattle.rtk_survey.specs.ReadFrames.{read_frame}
use Rattle.rtk_survey.specs.Targets.{IsAnswer}
use Rattle.rtk_survey.specs.declared.target.TargetSurvey.{TargetSurvey}
use Rattle.rtk_survey.proofs.TargetLemmas.{answer-more}
use Rattle.rtk_survey.proofs.target.take_target_fault.Goals as goal

pub returns-in-Some : goal.returns-in-Some
returns-in-Some c = λ q fs fault count is.
    answer-more q fs (read_frame c.args.payload.now (Err fault) ∷ fs) c.in-Some.survey c.take_fault.new.self (λ t had. c.take_fault.ensures t fs fault count had)
    (subst (λ (o : Option TargetSurvey). IsAnswer q fs o) c.in-Some.is is)

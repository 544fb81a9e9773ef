use Rattle.std.proofs.Common.{Some}
use Rattle.rtk_commands.proofs.PublicLaws.{all_text}
use Rattle.rtk_cli.specs.SurveysText.{SurveysText}
use Rattle.rtk_cli.proofs.auto_reading.survey_by.Goals as goal

-- all that the reader had was read
pub returns-clause-had : goal.returns-clause-had
returns-clause-had g c =
    let read = c.in_ok-survey.ensures.survey in
    all_text g.K.Before.had c.over-source.result.number c.survey_capture.new.reader.number
    (g.R.Read.remaining c.over-source.result.inner) (g.R.Read.remaining c.survey_capture.new.reader.inner)
    (λ bytes. SurveysText (Some c.args.target) bytes c.in_ok-survey.survey)
    c.over-source.ensures.number (rw c.over-source.ensures.inner c.requires) c.in_ok-survey.ensures.to_the_end.1
    (read.0, read.2, (read.1, read.3, read.4))

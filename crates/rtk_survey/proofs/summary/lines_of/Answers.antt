use Rattle.rtk_survey.proofs.summary.lines_of.Goals as goal

pub returns-clause-lines : goal.returns-clause-lines
returns-clause-lines g c =
    let read = c.in_ok-survey.ensures.survey in
    (read.0, read.1, read.2, read.3, c.in_ok-summary_lines.ensures read.0 read.1 read.4)

use Rattle.rtk_survey.proofs.LineTellingLemmas.{number-tells, counted-tells, numbered-tells, times-tell, proposal-tells, epochs-counted}
use Rattle.rtk_survey.proofs.laws.lines_tell_numbers.Goals as goal

pub returns-clause-number : goal.returns-clause-number
returns-clause-number c = number-tells

pub returns-clause-counted : goal.returns-clause-counted
returns-clause-counted c = counted-tells

pub returns-clause-numbered : goal.returns-clause-numbered
returns-clause-numbered c = numbered-tells

pub returns-clause-times : goal.returns-clause-times
returns-clause-times c = times-tell

pub returns-clause-proposal : goal.returns-clause-proposal
returns-clause-proposal c = proposal-tells

pub returns-clause-epochs : goal.returns-clause-epochs
returns-clause-epochs c = epochs-counted

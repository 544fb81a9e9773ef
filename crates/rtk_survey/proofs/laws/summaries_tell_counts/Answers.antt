use Rattle.rtk_survey.proofs.SummaryTellingLemmas.{summary-tells, station-tells, unread-tells}
use Rattle.rtk_survey.proofs.laws.summaries_tell_counts.Goals as goal

pub returns-clause-frames : goal.returns-clause-frames
returns-clause-frames c = summary-tells

pub returns-clause-station : goal.returns-clause-station
returns-clause-station c = station-tells

pub returns-clause-unread : goal.returns-clause-unread
returns-clause-unread c = unread-tells

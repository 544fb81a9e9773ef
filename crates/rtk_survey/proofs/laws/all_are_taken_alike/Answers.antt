use Rattle.rtk_survey.proofs.AlikeLemmas.{frames-alike, messages-alike, changes-joined, other-time, epochs-changed}
use Rattle.rtk_survey.proofs.laws.all_are_taken_alike.Goals as goal

pub returns-clause-frames : goal.returns-clause-frames
returns-clause-frames c = frames-alike

pub returns-clause-messages : goal.returns-clause-messages
returns-clause-messages c = messages-alike

pub returns-clause-changes : goal.returns-clause-changes
returns-clause-changes c = changes-joined

pub returns-clause-change : goal.returns-clause-change
returns-clause-change c = other-time

pub returns-clause-epochs : goal.returns-clause-epochs
returns-clause-epochs c = epochs-changed

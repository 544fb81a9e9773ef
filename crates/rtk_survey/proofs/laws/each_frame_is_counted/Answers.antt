use Rattle.rtk_survey.proofs.CountingLemmas.{frames-counted, messages-counted}
use Rattle.rtk_survey.proofs.laws.each_frame_is_counted.Goals as goal

pub returns-clause-frames : goal.returns-clause-frames
returns-clause-frames c = frames-counted

pub returns-clause-messages : goal.returns-clause-messages
returns-clause-messages c = messages-counted

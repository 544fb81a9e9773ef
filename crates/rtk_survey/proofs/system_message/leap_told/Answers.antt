use Rattle.std.proofs.Common.{ap, ◌∙◌}
use Rattle.rtk_survey.specs.SystemMessages.{leap_if_given}
use Rattle.rtk_survey.specs.declared.system_message.LeapSeconds.{LeapSeconds}
use Rattle.rtk_survey.proofs.system_message.leap_told.Goals as goal

pub returns : goal.returns
returns c = c.leap_if_given.ensures ∙ ap (λ (l : LeapSeconds). leap_if_given l) c.leap_seconds.ensures

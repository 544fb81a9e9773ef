use Rattle.rtk_survey.specs.Channels.{place_of_field}
use Rattle.rtk_survey.proofs.FreshLemmas.{nothing-counted}
use Rattle.rtk_survey.proofs.channels.no_channels_told.Goals as goal

pub returns : goal.returns
returns c = λ slot field is. nothing-counted c.new.result c.new.ensures.empty (place_of_field slot field)

use Rattle.rtk_survey.proofs.FreshLemmas.{nothing-counted}
use Rattle.rtk_survey.proofs.nameless.no_nameless.Goals as goal

pub returns : goal.returns
returns c = nothing-counted c.new.result c.new.ensures.empty

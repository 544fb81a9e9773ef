use Rattle.rtk_survey.proofs.FreshLemmas.{nothing-counted}
use Rattle.rtk_survey.proofs.SystemTellingLemmas.{no-ranges}
use Rattle.rtk_survey.proofs.system_tellings.SystemTellings.new.Goals as goal

pub returns : goal.returns
returns c = record {
  of_1042 = nothing-counted c.new.result c.new.ensures.empty;
  of_1045 = nothing-counted c.new-2.result c.new-2.ensures.empty;
  of_1046 = nothing-counted c.new-3.result c.new-3.ensures.empty;
  channels = c.no_slots_told.ensures;
  leap = no-ranges c.new-4.result c.new-4.ensures.empty;
}

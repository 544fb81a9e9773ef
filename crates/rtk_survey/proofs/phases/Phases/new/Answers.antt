use Rattle.rtk_survey.proofs.PhaseLemmas.{no-table}
use Rattle.rtk_survey.proofs.phases.Phases.new.Goals as goal

pub returns : goal.returns
returns c = record {
  of_1004 = no-table c.new.result.items c.new.ensures.items;
  of_1074 = no-table c.new-2.result.items c.new-2.ensures.items;
  of_1075 = no-table c.new-3.result.items c.new-3.ensures.items;
  of_1076 = no-table c.new-4.result.items c.new-4.ensures.items;
  of_1077 = no-table c.new-5.result.items c.new-5.ensures.items;
}

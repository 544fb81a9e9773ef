use Rattle.rtk_survey.proofs.ResultLemmas.{on-ok}
use Rattle.rtk_survey.proofs.phases.Phases.take_message.Goals as goal

pub returns : goal.returns
returns c = on-ok c.take_numbered-5.result (λ took ms has. record {
  of_1004 = c.in_ok-take_numbered.ensures ms has.of_1004;
  of_1074 = c.in_ok-take_numbered-2.ensures ms has.of_1074;
  of_1075 = c.in_ok-take_numbered-3.ensures ms has.of_1075;
  of_1076 = c.in_ok-take_numbered-4.ensures ms has.of_1076;
  of_1077 = took ms has.of_1077;
}) c.take_numbered-5.ensures

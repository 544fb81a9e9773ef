use Rattle.rtk_survey.proofs.ResultLemmas.{on-ok}
use Rattle.rtk_survey.proofs.system_tellings.SystemTellings.take.Goals as goal

pub returns : goal.returns
returns c = on-ok c.take_leap.result (λ took ts has. record {
  of_1042 = c.in_ok-count_week.ensures ts has.of_1042;
  of_1045 = c.in_ok-count_week-2.ensures ts has.of_1045;
  of_1046 = c.in_ok-count_week-3.ensures ts has.of_1046;
  channels = c.in_ok-take_slot_channel.ensures ts has.channels;
  leap = took ts has.leap;
}) c.take_leap.ensures

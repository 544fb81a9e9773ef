use Rattle.rtk_survey.proofs.BitLemmas.{left_twice}
use Rattle.rtk_survey.proofs.system_message.pass.Goals as goal

pub loop-passed-preserved : goal.loop-passed-preserved
loop-passed-preserved c = left_twice c.args.reader.now c.loop-passed.reader c.next_u-bit.new.self c.loop-passed._passed 1 c.loop-passed.invariant c.next_u-bit.ensures.rest

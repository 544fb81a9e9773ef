use Rattle.rtk_convert.proofs.PhaseBlockLemmas.{no-phases}
use Rattle.rtk_convert.proofs.signal_phases.add_block.Goals as goal

pub returns : goal.returns
returns c = (c.new.result, no-phases c.new.result c.new.ensures.empty, c.in_ok-push.ensures.items)

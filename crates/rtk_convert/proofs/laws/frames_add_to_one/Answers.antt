use Rattle.rtk_convert.proofs.OneTextLemmas.{one-added}
use Rattle.rtk_convert.proofs.laws.frames_add_to_one.Goals as goal

pub returns : goal.returns
returns c = one-added

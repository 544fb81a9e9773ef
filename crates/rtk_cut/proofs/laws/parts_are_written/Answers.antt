use Rattle.rtk_cut.proofs.SlipLawLemmas.{parts-are_written}
use Rattle.rtk_cut.proofs.laws.parts_are_written.Goals as goal

pub returns : goal.returns
returns c = parts-are_written

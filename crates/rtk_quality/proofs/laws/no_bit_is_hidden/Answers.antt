use Rattle.rtk_quality.proofs.LawLemmas.{nothing-hidden}
use Rattle.rtk_quality.proofs.laws.no_bit_is_hidden.Goals as goal

pub returns : goal.returns
returns c = nothing-hidden

use Rattle.rtk_cut.proofs.LawLemmas.{spans-join}
use Rattle.rtk_cut.proofs.laws.spans_join.Goals as goal

pub returns : goal.returns
returns c = spans-join

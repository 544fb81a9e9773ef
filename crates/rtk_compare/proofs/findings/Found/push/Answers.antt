use Rattle.rtk_compare.proofs.FindingLemmas.{found-own}
use Rattle.rtk_compare.proofs.findings.Found.push.Goals as goal

pub returns : goal.returns
returns c = λ k ds is has. found-own k ds c.args.difference is has c.saturating_add-self.ensures c.keep.ensures

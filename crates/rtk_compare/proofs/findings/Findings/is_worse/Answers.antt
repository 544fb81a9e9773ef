use Rattle.std.proofs.Common.{◌∙◌}
use Rattle.rtk_compare.proofs.FindingLemmas.{counts-worse}
use Rattle.rtk_compare.proofs.findings.Findings.is_worse.Goals as goal

pub returns : goal.returns
returns c = λ ds has. c.counts_worse.ensures ∙ counts-worse c.args.self.now ds has

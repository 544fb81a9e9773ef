use Rattle.std.proofs.Common.{◌∙◌}
use Rattle.rtk_chart.proofs.MarkLemmas.{missing-of-steps, slips-and-rises}
use Rattle.rtk_chart.proofs.BitLemmas.{digits-counted}
use Rattle.rtk_chart.proofs.laws.counts_are_of_epochs.Goals as goal

pub returns-clause-missing : goal.returns-clause-missing
returns-clause-missing c = missing-of-steps

pub returns-clause-slips : goal.returns-clause-slips
returns-clause-slips c = λ interval n es few are. slips-and-rises c.bits_are_of_three_kinds.ensures.one interval es ∙ digits-counted n es few are

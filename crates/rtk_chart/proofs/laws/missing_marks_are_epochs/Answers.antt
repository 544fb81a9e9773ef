use Rattle.rtk_chart.proofs.LawLemmas.{mark-has-epoch, epoch-has-mark}
use Rattle.rtk_chart.proofs.laws.missing_marks_are_epochs.Goals as goal

pub returns : goal.returns
returns c = λ s before t k some few after. (mark-has-epoch s before t k some few after, epoch-has-mark s before t k some few after)

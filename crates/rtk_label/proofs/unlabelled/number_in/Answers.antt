use Rattle.rtk_label.proofs.unlabelled.number_in.Goals as goal

pub returns-clause-some : goal.returns-clause-some
returns-clause-some c four = rw c.columns_at.ensures.value at c.read_number.ensures

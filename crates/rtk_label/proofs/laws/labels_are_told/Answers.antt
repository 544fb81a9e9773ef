use Rattle.rtk_label.proofs.LawLemmas.{labels-told}
use Rattle.rtk_label.proofs.laws.labels_are_told.Goals as goal

pub returns : goal.returns
returns c = labels-told c.text_of_a_table.ensures.one

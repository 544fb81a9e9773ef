use Rattle.rtk_label.proofs.LawLemmas.{records-stay}
use Rattle.rtk_label.proofs.laws.records_stay.Goals as goal

pub returns : goal.returns
returns c = records-stay

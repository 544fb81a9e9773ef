use Rattle.rtk_label.proofs.LawLemmas.{mixed-laws}
use Rattle.rtk_label.proofs.laws.mixed_label_laws.Goals as goal

pub returns : goal.returns
returns c = mixed-laws

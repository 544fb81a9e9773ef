use Rattle.rtk_label.proofs.LawLemmas.{front-is_changed}
use Rattle.rtk_label.proofs.laws.front_is_changed.Goals as goal

pub returns : goal.returns
returns c = front-is_changed

use Rattle.rtk_label.proofs.LawLemmas.{files-long}
use Rattle.rtk_label.proofs.laws.files_are_long.Goals as goal

pub returns : goal.returns
returns c = files-long

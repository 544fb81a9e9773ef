use Rattle.rtk_label.proofs.LawLemmas.{blank-is_file}
use Rattle.rtk_label.proofs.laws.blank_is_file.Goals as goal

pub returns : goal.returns
returns c = blank-is_file

use Rattle.rtk_cut.proofs.LawLemmas.{epochs-are_of_files}
use Rattle.rtk_cut.proofs.laws.epochs_are_of_files.Goals as goal

pub returns : goal.returns
returns c = epochs-are_of_files

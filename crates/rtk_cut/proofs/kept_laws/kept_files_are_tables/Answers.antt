use Rattle.rtk_cut.proofs.KeptSystemsLemmas.{kept-good}
use Rattle.rtk_cut.proofs.kept_laws.kept_files_are_tables.Goals as goal

pub returns : goal.returns
returns c = kept-good

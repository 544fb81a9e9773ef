use Rattle.rtk_rinex.proofs.MixedFileLemmas.{mixed_file-is_shown}
use Rattle.rtk_rinex.proofs.laws.mixed_files_are_tables.Goals as goal

pub returns : goal.returns
returns c = mixed_file-is_shown

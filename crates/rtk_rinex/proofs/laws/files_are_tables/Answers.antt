use Rattle.rtk_rinex.proofs.TableLemmas.{file-is_shown}
use Rattle.rtk_rinex.proofs.laws.files_are_tables.Goals as goal

pub returns : goal.returns
returns c = file-is_shown

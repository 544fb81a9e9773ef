use Rattle.rtk_convert.proofs.ArrivalLawsLemmas.{so_far-begins, header-final}
use Rattle.rtk_convert.proofs.laws.file_only_grows.Goals as goal

pub returns : goal.returns
returns c = record { begins = so_far-begins; header = header-final }

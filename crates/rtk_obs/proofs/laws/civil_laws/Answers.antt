use Rattle.rtk_obs.proofs.YearLemmas.{one_moment, reads_back, up_to_2100}
use Rattle.rtk_obs.proofs.EqualityLemmas.{civil_same}
use Rattle.rtk_obs.proofs.laws.civil_laws.Goals as goal

pub returns : goal.returns
returns c = record { one_moment = one_moment; all_moments = up_to_2100; reads_back = reads_back; equality = civil_same }

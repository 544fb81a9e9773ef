use Rattle.rtk_obs.proofs.CodeLemmas.{same_code, reads_back}
use Rattle.rtk_obs.proofs.EqualityLemmas.{code_same, band_same}
use Rattle.rtk_obs.proofs.laws.code_laws.Goals as goal

pub returns : goal.returns
returns c = record { names = same_code; reads_back = reads_back; equality = code_same; bands = band_same }

use Rattle.rtk_obs.proofs.NormalFieldLemmas.{normal-twice, normal-marks, normal-cells}
use Rattle.rtk_obs.proofs.laws.normal_field_laws.Goals as goal

pub returns : goal.returns
returns c = record { twice = normal-twice; marks = normal-marks; cells = normal-cells }

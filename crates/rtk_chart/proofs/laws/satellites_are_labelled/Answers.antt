use Rattle.std.proofs.Common.{refl}
use Rattle.rtk_obs.specs.SatelliteIndex.{system_at}
use Rattle.rtk_chart.proofs.LabelLemmas.{are-labelled}
use Rattle.rtk_chart.proofs.laws.satellites_are_labelled.Goals as goal

pub returns : goal.returns
returns c = λ i good. are-labelled (system_at i) i refl (c.satellite_laws.ensures.cover i good)

use Rattle.rtk_obs.proofs.SbasLemmas.{sbas-own, sbas-range, sbas-differ, sbas-kind, plain-1004}
use Rattle.rtk_obs.proofs.laws.sbas_laws.Goals as goal

pub returns : goal.returns
returns c = record { codes = sbas-own; range = sbas-range; differ = sbas-differ; kind = sbas-kind; plain = plain-1004 }

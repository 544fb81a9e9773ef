use Rattle.rtk_obs.proofs.DopplerLemmas.{doppler-own, doppler-range, doppler-differ, doppler-kind, plain-entries}
use Rattle.rtk_obs.proofs.laws.doppler_laws.Goals as goal

pub returns : goal.returns
returns c = record { codes = doppler-own; range = doppler-range; differ = doppler-differ; kind = doppler-kind; plain = plain-entries }

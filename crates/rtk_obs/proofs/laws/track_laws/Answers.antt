use Rattle.rtk_obs.proofs.EqualityLemmas.{track_same, digits_same}
use Rattle.rtk_obs.proofs.laws.track_laws.Goals as goal

pub returns : goal.returns
returns c = record { equality = track_same; digits = digits_same }

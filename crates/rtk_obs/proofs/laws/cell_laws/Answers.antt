use Rattle.rtk_obs.proofs.EqualityLemmas.{cell_same, entry_same, source_same}
use Rattle.rtk_obs.proofs.laws.cell_laws.Goals as goal

pub returns : goal.returns
returns c = record { equality = cell_same; entries = entry_same; sources = source_same }

use Rattle.rtk_obs.proofs.AnyCodeLemmas.{signal_below, same_signal}
use Rattle.rtk_obs.proofs.OwnCodeLemmas.{entries-own}
use Rattle.rtk_obs.proofs.DistinctEntryLemmas.{entries-distinct}
use Rattle.rtk_obs.proofs.GlonassEntryLemmas.{glonass-differ}
use Rattle.rtk_obs.proofs.laws.signal_laws.Goals as goal

pub returns : goal.returns
returns c = record { bound = signal_below; distinct = same_signal; entries = entries-own; differ = entries-distinct; legacy = glonass-differ }

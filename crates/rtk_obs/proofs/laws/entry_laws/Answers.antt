use Rattle.rtk_obs.proofs.SignalEntryLemmas.{entries_of-own, entries_of-in_range, entries_of-differ, entries_of-kind, entries-of-gps, number-of-gps}
use Rattle.rtk_obs.proofs.laws.entry_laws.Goals as goal

pub returns : goal.returns
returns c = record { codes = entries_of-own; range = entries_of-in_range; differ = entries_of-differ; kind = entries_of-kind; gps = entries-of-gps; numbers = number-of-gps }

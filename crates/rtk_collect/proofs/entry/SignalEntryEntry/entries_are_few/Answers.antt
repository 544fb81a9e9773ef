use Rattle.rtk_collect.proofs.SignalLemmas.{in-range-few}
use Rattle.rtk_collect.proofs.entry.SignalEntryEntry.entries_are_few.Goals as goal

pub returns : goal.returns
returns c = in-range-few

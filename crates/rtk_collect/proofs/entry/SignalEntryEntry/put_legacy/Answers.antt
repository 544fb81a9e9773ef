use Rattle.std.proofs.Common.{inl}
use Rattle.rtk_collect.proofs.entry.SignalEntryEntry.put_legacy.Goals as goal

pub returns : goal.returns
returns c = inl c.put_signals_of.ensures.entries

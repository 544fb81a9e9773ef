use Rattle.std.proofs.Common.{List, ◌++◌, ap, ◌∙◌}
use Rattle.rtk_obs.specs.declared.signal_cells.SignalEntry.{SignalEntry}
use Rattle.rtk_collect.proofs.entry.SignalEntryEntry.push_legacy.Goals as goal

pub returns : goal.returns
returns c =
    c.in-Ok.ensures.items ∙ ap (λ (xs : List SignalEntry). xs ++ c.as_slice.result.now) c.requires.empty
    ∙ c.as_slice.ensures.value ∙ c.put_signals_of.ensures.entries

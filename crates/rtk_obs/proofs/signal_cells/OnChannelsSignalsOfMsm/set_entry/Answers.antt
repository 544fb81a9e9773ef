use Rattle.std.proofs.Common.{ap, ◌∙◌}
use Rattle.rtk_obs.specs.Carriers.{frequency_at}
use Rattle.rtk_obs.specs.MsmCells.{cell_on}
use Rattle.rtk_obs.proofs.SignalCellLemmas.{is-set, not-set, entry-there, entry-absent}
use Rattle.rtk_obs.proofs.signal_cells.OnChannelsSignalsOfMsm.set_entry.Goals as goal

pub returns-in_default : goal.returns-in_default
returns-in_default c = λ place identifier is known.
    not-set c.args.entry.now _ (entry-absent c.args.self.now.channels.now c.args.self.now.message.now c.args.cell place identifier c.args.row.now is (known ∙ c.in_default.is))

pub returns : goal.returns
returns c = λ place identifier is known.
    let m = c.args.self.now.message.now in
    let frequency = c.frequency-frequency.ensures.value ∙ ap (λ (x : _). frequency_at x c.args.row.now.channel) c.carrier.ensures in
    let cell = c.set_values.ensures place is.rough ∙ ap (λ (f : _). cell_on m c.args.cell place f) frequency in
    is-set _ _ (entry-there c.args.self.now.channels.now m c.args.cell place identifier c.args.row.now c.in-Some.code c.set_values.new.cell is (known ∙ c.in-Some.is) cell)

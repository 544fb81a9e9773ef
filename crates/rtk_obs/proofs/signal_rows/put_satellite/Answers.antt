use Rattle.std.proofs.Common.{take, arith}
use Rattle.rtk_obs.specs.MsmCells.{signals_of}
use Rattle.rtk_obs.proofs.MsmLemmas.{none-of-row, few_in_message}
use Rattle.rtk_obs.proofs.signal_rows.put_satellite.Goals as goal

pub overflow_add-result : goal.overflow_add-result
overflow_add-result g c = omega (arith, c.requires.cells, few_in_message (g.M.SignalsOfMsm.header c.args.message.now) (g.M.SignalsOfMsm.cell_mask c.args.message.now) c.requires.mask)

pub returns-in_default-clause-entries : goal.returns-in_default-clause-entries
returns-in_default-clause-entries g c =
    none-of-row (g.M.SignalsOfMsm.entry_of c.args.message.now) (signals_of (g.M.SignalsOfMsm.header c.args.message.now)) c.args.start.cell c.args.place c.args.bits (take c.args.start.count c.args.found.now.items)
    (λ k signal. c.in_default.ensures.none k signal)

pub returns-clause-entries : goal.returns-clause-entries
returns-clause-entries g c = c.put_row.ensures.entries c.args.place c.in-Some.ensures.some

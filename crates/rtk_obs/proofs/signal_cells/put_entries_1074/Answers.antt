use Rattle.std.proofs.Common.{◌∙◌}
use Rattle.rtk_obs.specs.MsmCells.{slots_of}
use Rattle.rtk_obs.proofs.MsmFieldLemmas.{is_cell_mask-1074}
use Rattle.rtk_obs.proofs.SignalCellLemmas.{joined-signals}
use Rattle.rtk_obs.proofs.signal_cells.put_entries_1074.Goals as goal

pub put_entries-requires-clause-mask : goal.put_entries-requires-clause-mask
put_entries-requires-clause-mask c = is_cell_mask-1074 c.args.message.now c.requires

pub returns : goal.returns
returns c = c.put_entries.ensures ∙ joined-signals c.args.message.now 0 (slots_of c.args.message.now.header c.args.message.now.cell_mask)

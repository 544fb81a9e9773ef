use Rattle.std.proofs.Common.{◌≡◌, ◌≤◌, length, take}
use Rattle.rtk_obs.specs.Mask.{join_from}
use Rattle.rtk_obs.specs.MsmCells.{signals_of, row_slots}
use Rattle.rtk_obs.specs.Steps.MsmRows.{cells_in}
use Rattle.rtk_obs.proofs.signal_rows.put_entries.Given as goal

abbrev pub invariant-loop-place : goal.invariant-loop-place
invariant-loop-place g l = record {
  entries : take l.progress.count l.found.items ≡ join_from (g.M.SignalsOfMsm.entry_of l.message) 0 (join_from (row_slots (signals_of (g.M.SignalsOfMsm.header l.message))) 0 (take l.place l.masks));
  cells : l.progress.cell ≡ length (join_from (row_slots (signals_of (g.M.SignalsOfMsm.header l.message))) 0 (take l.place l.masks));
  room : cells_in (g.M.SignalsOfMsm.cell_mask l.message) ≤ length l.found.items;
  few : l.progress.count ≤ l.progress.cell;
}

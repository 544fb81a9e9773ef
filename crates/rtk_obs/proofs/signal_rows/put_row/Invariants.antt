use Rattle.std.proofs.Common.{ℕ, count_ones, ◌≡◌, ◌++◌, ◌+◌, ◌≤◌, ◌<◌, ◌^◌, length, take}
use Rattle.rtk_obs.specs.Mask.{join_from}
use Rattle.rtk_obs.specs.MsmCells.{row_slots, signals_of}
use Rattle.rtk_obs.proofs.signal_rows.put_row.Given as goal

abbrev pub invariant-loop-rest : goal.invariant-loop-rest
invariant-loop-rest g l = record {
  entries : (place : ℕ) → g.M.SignalsOfMsm.IsRow l.message place l.row → take l.count l.found.items ++ join_from (g.M.SignalsOfMsm.entry_of l.message) l.cell (row_slots (signals_of (g.M.SignalsOfMsm.header l.message)) place l.rest) ≡ take l.fn.start.count l.fn.found.items ++ join_from (g.M.SignalsOfMsm.entry_of l.message) l.fn.start.cell (row_slots (signals_of (g.M.SignalsOfMsm.header l.message)) place l.bits);
  cells : l.cell + count_ones l.rest ≡ l.fn.start.cell + count_ones l.bits;
  room : length l.found.items ≡ length l.fn.found.items;
  few : l.count ≤ l.cell;
  fits : l.rest < 2 ^ length (signals_of (g.M.SignalsOfMsm.header l.message));
}

abbrev pub decreases-loop-rest : goal.decreases-loop-rest
decreases-loop-rest g l = l.rest

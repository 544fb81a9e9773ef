use Rattle.std.proofs.Common.{arith}
use Rattle.rtk_obs.proofs.MsmLemmas.{count-satellites}
use Rattle.rtk_obs.proofs.msm_rows.row_of.Goals as goal

pub bounds-numbers-row : goal.bounds-numbers-row
bounds-numbers-row g c =
    rw c.requires.numbers
    (omega (arith, count-satellites (g.M.CellsOfMsm.header c.args.message.now) (g.M.CellsOfMsm.cell_mask c.args.message.now) c.requires.mask, c.requires.row))

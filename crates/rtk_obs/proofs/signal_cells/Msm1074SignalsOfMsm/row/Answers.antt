use Rattle.std.proofs.Common.{ap, sym, ◌∙◌, arith}
use Rattle.rtk_obs.specs.Cell.{is_satellite}
use Rattle.rtk_obs.proofs.SignalCellLemmas.{is-gps, not-gps, no-gps-satellite}
use Rattle.rtk_obs.proofs.signal_cells.Msm1074SignalsOfMsm.row.Goals as goal

pub returns-then-bit-gt32-clause-none : goal.returns-then-bit-gt32-clause-none
returns-then-bit-gt32-clause-none c = λ cell signal.
    no-gps-satellite c.args.self.now cell c.args.place signal (ap is_satellite (sym c.requires.bit) ∙ not-gps c.args.bit (omega arith))

use Rattle.rtk_rinex.proofs.KnownLemmas.{known-cell}
use Rattle.rtk_rinex.proofs.satellite_line_read.read_cell_in.Goals as goal

pub returns-then-doppler-clause-observed : goal.returns-then-doppler-clause-observed
returns-then-doppler-clause-observed c =
    (known-cell c.args.doppler c.args.columns.now c.read_doppler_cell.result c.requires.cell (rw c.if-doppler.true c.read_doppler_cell.ensures)).0

pub returns-then-doppler-clause-text : goal.returns-then-doppler-clause-text
returns-then-doppler-clause-text c =
    (known-cell c.args.doppler c.args.columns.now c.read_doppler_cell.result c.requires.cell (rw c.if-doppler.true c.read_doppler_cell.ensures)).1

pub returns-else-doppler-clause-observed : goal.returns-else-doppler-clause-observed
returns-else-doppler-clause-observed c =
    (known-cell c.args.doppler c.args.columns.now c.read_cell.result c.requires.cell (rw c.if-doppler.false c.read_cell.ensures)).0

pub returns-else-doppler-clause-text : goal.returns-else-doppler-clause-text
returns-else-doppler-clause-text c =
    (known-cell c.args.doppler c.args.columns.now c.read_cell.result c.requires.cell (rw c.if-doppler.false c.read_cell.ensures)).1

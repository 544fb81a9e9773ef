use Rattle.rtk_rinex.proofs.satellite_line_check.shown_cell_in.Goals as goal

pub returns-then-doppler : goal.returns-then-doppler
returns-then-doppler c = rw c.if-doppler.true c.shown_doppler_cell.ensures

pub returns-else-doppler : goal.returns-else-doppler
returns-else-doppler c = rw c.if-doppler.false c.shown_cell.ensures

use Rattle.std.proofs.Common.{arith}
use Rattle.std.proofs.lemmas.Grind.{common_steps}
use Rattle.rtk_obs.proofs.CellsLeftLemmas.{are_satellites, cells-rising, left-snoc}
use Rattle.rtk_obs.proofs.cells_left.put_cells_left.Goals as goal

pub put_unmarked-count-requires-clause-number : goal.put_unmarked-count-requires-clause-number
put_unmarked-count-requires-clause-number c = are_satellites c.args.satellites.now c.requires.rise.rise c.loop-satellite.satellite-index _ c.loop-satellite-test.true

pub loop-satellite-preserved : goal.loop-satellite-preserved
loop-satellite-preserved c =
    let entries = c.put_unmarked-count.ensures.entries c.args.known.now c.marks_of-marks.ensures in
    grind (arith, common_steps, left-snoc)

pub returns-clause-cells : goal.returns-clause-cells
returns-clause-cells c =
    let rising = cells-rising c.args.satellites.now c.requires.rise.rise in
    grind (arith, common_steps)

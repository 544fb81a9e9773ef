use Rattle.rtk_obs.proofs.DistinctLemmas.{gps_cells-distinct, entries-rise}
use Rattle.rtk_obs.specs.MsmCells.{cell_of_msm}
use Rattle.rtk_obs.proofs.MsmLemmas.{few_entries}
use Rattle.rtk_obs.proofs.MsmFieldLemmas.{is_cell_mask-msm, gps_cells_in_range}
use Rattle.rtk_obs.proofs.msm_cells.put_cells_of_gps.Goals as goal

pub put_cells-count-requires-clause-mask : goal.put_cells-count-requires-clause-mask
put_cells-count-requires-clause-mask c = is_cell_mask-msm c.args.message.now c.requires

pub returns-clause-ranges : goal.returns-clause-ranges
returns-clause-ranges c = rw (c.truncate.ensures.items, c.put_cells-count.ensures) (gps_cells_in_range c.args.message.now c.requires)

pub returns-clause-distinct : goal.returns-clause-distinct
returns-clause-distinct c = rw (c.truncate.ensures.items, c.put_cells-count.ensures) (gps_cells-distinct c.args.message.now c.requires)

pub returns-clause-few : goal.returns-clause-few
returns-clause-few c =
    rw (c.truncate.ensures.items, c.put_cells-count.ensures)
    (few_entries c.args.message.now.header (cell_of_msm c.args.message.now) c.args.message.now.cell_mask (is_cell_mask-msm c.args.message.now c.requires))

pub returns-clause-rises : goal.returns-clause-rises
returns-clause-rises c = λ t.
    rw (c.truncate.ensures.items, c.put_cells-count.ensures)
    (entries-rise c.args.message.now.header (cell_of_msm c.args.message.now) c.args.message.now.cell_mask (is_cell_mask-msm c.args.message.now c.requires) (c.has_rising_codes.ensures t))

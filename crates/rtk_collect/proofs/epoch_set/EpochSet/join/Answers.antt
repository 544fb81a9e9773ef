use Rattle.rtk_collect.specs.EpochSet.{AreCellsOfEpoch, with_cells}
use Rattle.rtk_collect.proofs.CellsLemmas.{cells-with}
use Rattle.rtk_collect.proofs.KindLemmas.{either-list}
use Rattle.rtk_collect.proofs.epoch_set.EpochSet.join.Goals as goal
use Rattle.rtk_collect.specs.Gps.{gps}

pub invariant_of-self : goal.invariant_of-self
invariant_of-self c =
    either-list c.join_list.result AreCellsOfEpoch c.join_list.new.list.items (with_cells gps c.args.cells.now c.self.inside.cells.items) c.self.inside.cells.items c.join_list.ensures.items c.join_list.ensures.err
    (cells-with c.args.cells.now c.self.inside.cells.items c.requires.range c.self.invariant) c.self.invariant

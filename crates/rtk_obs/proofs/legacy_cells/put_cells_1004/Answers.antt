use Rattle.std.proofs.Common.{subst, sym, ◌∙◌}
use Rattle.rtk_obs.specs.Cell.{AreRising}
use Rattle.rtk_obs.proofs.DistinctLemmas.{cells_of_1004-distinct}
use Rattle.rtk_obs.proofs.LegacyLemmas.{fields_of_valid, cells_in_range-1004}
use Rattle.rtk_obs.proofs.legacy_cells.put_cells_1004.Goals as goal

pub put_satellites-count-requires-clause-fields : goal.put_satellites-count-requires-clause-fields
put_satellites-count-requires-clause-fields c = rw c.as_slice.ensures.value (fields_of_valid c.args.message.now c.requires)

pub returns-clause-ranges : goal.returns-clause-ranges
returns-clause-ranges c =
    rw (c.truncate.ensures.items, c.put_satellites-count.ensures.cells, c.as_slice.ensures.value)
    (cells_in_range-1004 c.args.message.now.satellites (fields_of_valid c.args.message.now c.requires))

pub returns-clause-distinct : goal.returns-clause-distinct
returns-clause-distinct c =
    rw (c.truncate.ensures.items, c.put_satellites-count.ensures.cells, c.as_slice.ensures.value) (cells_of_1004-distinct c.args.message.now.satellites)

pub returns-clause-rises : goal.returns-clause-rises
returns-clause-rises c = λ t. subst AreRising (sym (c.truncate.ensures.items ∙ c.put_satellites-count.ensures.cells)) (c.put_satellites-count.ensures.rises t)

use Rattle.std.proofs.Common.{arith}
use Rattle.std.proofs.lemmas.Grind.{common_steps}
use Rattle.rtk_obs.proofs.LegacyLemmas.{cells-used, cells-unused}
use Rattle.rtk_obs.proofs.legacy_cells.put_satellite.Goals as goal

pub returns-then-not-mark_first-clause-entries : goal.returns-then-not-mark_first-clause-entries
returns-then-not-mark_first-clause-entries c = λ before seen so_far.
    let first = c.mark_first.ensures.value before seen in
    grind (arith, common_steps, cells-unused)

pub returns-clause-entries : goal.returns-clause-entries
returns-clause-entries c = λ before seen so_far.
    let first = c.mark_first.ensures.value before seen in
    grind (arith, common_steps, cells-used)

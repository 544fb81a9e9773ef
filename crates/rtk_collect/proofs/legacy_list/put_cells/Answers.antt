use Rattle.std.proofs.Common.{ap, ◌∙◌}
use Rattle.rtk_collect.proofs.legacy_list.put_cells.Goals as goal

pub returns-clause-cells : goal.returns-clause-cells
returns-clause-cells g c = c.push_legacy.ensures ∙ ap g.E.Entry.legacy c.deref.ensures.value

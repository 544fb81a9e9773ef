use Rattle.std.proofs.Common.{sym, ◌∙◌}
use Rattle.rtk_collect.proofs.LegacyListLemmas.{none_of, spelled-none}
use Rattle.rtk_collect.proofs.legacy_list.spell_out.Goals as goal

pub returns-then-is_empty-clause-cells : goal.returns-then-is_empty-clause-cells
returns-then-is_empty-clause-cells g c = sym (spelled-none g.E.Entry.legacy c.args.first.now.items c.args.cells.now.items (none_of c.args.first.now.items _ c.args.first.now.ok.0 (sym c.is_empty.ensures ∙ c.if-is_empty.true)))

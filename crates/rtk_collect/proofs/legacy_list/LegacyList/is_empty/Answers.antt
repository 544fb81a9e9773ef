use Rattle.std.proofs.Common.{sym, ◌∙◌}
use Rattle.rtk_collect.proofs.LegacyListLemmas.{none_of, spelled-none}
use Rattle.rtk_collect.proofs.legacy_list.LegacyList.is_empty.Goals as goal

pub returns-then-is_empty : goal.returns-then-is_empty
returns-then-is_empty g c = λ last.
    let first = none_of c.self.inside.first.items _ c.self.inside.first.ok.0 (sym c.is_empty.ensures ∙ c.if-is_empty.true) in
    let cells = none_of c.self.inside.cells.items _ c.self.inside.cells.ok.0 (sym c.is_empty-then-is_empty.ensures ∙ last) in
    sym c.self.view_is ∙ spelled-none g.E.Entry.legacy _ _ first ∙ cells

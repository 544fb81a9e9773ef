use Rattle.std.proofs.Common.{inl, sym, ◌∙◌}
use Rattle.rtk_collect.proofs.LegacyListLemmas.{none_of, spelled-none}
use Rattle.rtk_collect.proofs.legacy_list.LegacyList.left.Goals as goal

pub returns-then-is_empty : goal.returns-then-is_empty
returns-then-is_empty g c =
    let first = none_of c.self.inside.first.items _ c.self.inside.first.ok.0 (sym c.is_empty.ensures ∙ c.if-is_empty.true) in
    inl (c.deref.ensures.value ∙ sym (spelled-none g.E.Entry.legacy _ _ first) ∙ c.self.view_is)

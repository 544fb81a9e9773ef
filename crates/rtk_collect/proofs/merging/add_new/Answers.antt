use Rattle.std.proofs.Common.{◌∙◌, sym, ap, arith}
use Rattle.std.proofs.lemmas.Grind.{common_steps}
use Rattle.std.specs.List.{insert}
use Rattle.rtk_collect.specs.Key.{key}
use Rattle.rtk_collect.specs.EpochSet.{cell_under}
use Rattle.rtk_collect.proofs.CellsLemmas.{conflict-is, with_cell-sets, with_cell-absent, lower-length}
use Rattle.rtk_collect.proofs.merging.add_new.Goals as goal

pub returns-in-Some-clause-items : goal.returns-in-Some-clause-items
returns-in-Some-clause-items g c = sym (with_cell-sets g.E.Entry.entries c.args.entry c.in-Some.first c.args.kept.now.items c.requires.rises (sym (rw (c.key_of.ensures, c.deref.ensures.value) at c.in-Some.ensures)))

pub insert-requires : goal.insert-requires
insert-requires g c = let h = lower-length g.E.Entry.entries (key g.E.Entry.entries c.args.entry) c.args.kept.now.items in grind (arith, common_steps, c.requires.place)

pub returns-clause-items : goal.returns-clause-items
returns-clause-items g c = c.in_default-insert.ensures.items ∙ ap (λ t. insert c.args.kept.now.items t c.args.entry) c.requires.place ∙ sym (with_cell-absent g.E.Entry.entries c.args.entry c.args.kept.now.items (sym (rw (c.key_of.ensures, c.deref.ensures.value) at c.in_default.ensures)))

pub returns-in-Some-clause-conflict : goal.returns-in-Some-clause-conflict
returns-in-Some-clause-conflict g c = conflict-is g.E.Entry.entries c.args.entry c.in-Some.first (cell_under g.E.Entry.entries (key g.E.Entry.entries c.args.entry) c.args.kept.now.items) c.differ.result
    (sym (rw (c.key_of.ensures, c.deref.ensures.value) at c.in-Some.ensures)) c.differ.ensures

use Rattle.std.proofs.Common.{◌≤◌, ◌++◌, arith, sym, ap, ◌∙◌, length, take}
use Rattle.std.proofs.lemmas.List.{length-take-le}
use Rattle.rtk_collect.proofs.CellsLemmas.{fresh-length}
use Rattle.rtk_collect.proofs.MergesLemmas.{grown-room, grown-whole}
use Rattle.rtk_collect.proofs.merging.join_rising.Goals as goal

pub slice_bounds-extend_from_slice-end : goal.slice_bounds-extend_from_slice-end
slice_bounds-extend_from_slice-end g c =
    let few : c.args.count ≤ length c.args.cells.now = omega (arith, c.requires.count, fresh-length g.E.Entry.entries c.args.cells.now c.args.list.now.items) in
    sym (length-take-le c.args.count c.args.cells.now few)

pub merge_rising-requires-clause-room : goal.merge_rising-requires-clause-room
merge_rising-requires-clause-room g c =
    grown-room g.E.Entry.entries c.args.cells.now c.args.list.now.items c.deref_mut.result.now c.len-kept.result c.args.count (c.len-kept.ensures ∙ c.args.list.now.ok.0) c.requires.count
    (c.deref_mut.ensures.value ∙ c.in-Ok.ensures.items ∙ ap (λ t. t ++ take c.args.count c.args.cells.now) c.in_ok-reserve_exact.ensures.items)

pub returns-clause-items : goal.returns-clause-items
returns-clause-items g c =
    grown-whole g.E.Entry.entries c.args.cells.now c.args.list.now.items c.deref_mut.result.now c.len-kept.result c.args.count (c.len-kept.ensures ∙ c.args.list.now.ok.0) c.requires.count
    (c.deref_mut.ensures.value ∙ c.in-Ok.ensures.items ∙ ap (λ t. t ++ take c.args.count c.args.cells.now) c.in_ok-reserve_exact.ensures.items)
    c.merge_rising.new.list c.extend_from_slice.new.self.items c.extend_from_slice.new.self.len c.requires.rising c.requires.rises c.merge_rising.ensures (sym c.deref_mut.ensures.len)

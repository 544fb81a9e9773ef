use Rattle.std.proofs.Common.{◌≡◌, ◌++◌, List, arith, subst, sym, ◌∙◌}
use Rattle.std.proofs.lemmas.Result.{err_from_is_err_and}
use Rattle.rtk_collect.specs.Key.{KeysRise}
use Rattle.rtk_collect.specs.EpochSet.{fresh}
use Rattle.rtk_collect.proofs.RisingLemmas.{after-all}
use Rattle.rtk_collect.proofs.CellsLemmas.{with_cells-none}
use Rattle.rtk_collect.proofs.merging.join_list.Goals as goal

-- cells that rise after those of the list

pub returns-in_err-extend_from_slice-clause-refused : goal.returns-in_err-extend_from_slice-clause-refused
returns-in_err-extend_from_slice-clause-refused g c =
    let p = err_from_is_err_and c.from_residual.result c.from_residual.ensures.1 in
    let r = c.requires.rising c.if-rises.true in
    let all = c.are_after.ensures c.if-are_after.true (rw c.as_slice.ensures.value c.requires.rises) r in
    let a = after-all g.E.Entry.entries c.args.cells.now c.args.list.now.items r c.requires.rises (rw c.as_slice.ensures.value at all) in
    rw p.1 (omega (arith, c.in_err-extend_from_slice.ensures.full, c.args.list.now.ok.1, a.fresh))

pub returns-then-are_after-clause-items : goal.returns-then-are_after-clause-items
returns-then-are_after-clause-items g c =
    let r = c.requires.rising c.if-rises.true in
    let all = c.are_after.ensures c.if-are_after.true (rw c.as_slice.ensures.value c.requires.rises) r in
    let a = after-all g.E.Entry.entries c.args.cells.now c.args.list.now.items r c.requires.rises (rw c.as_slice.ensures.value at all) in
    c.in_ok-extend_from_slice.ensures.items ∙ a.items

pub returns-then-are_after-clause-fresh : goal.returns-then-are_after-clause-fresh
returns-then-are_after-clause-fresh g c =
    let r = c.requires.rising c.if-rises.true in
    let all = c.are_after.ensures c.if-are_after.true (rw c.as_slice.ensures.value c.requires.rises) r in
    let a = after-all g.E.Entry.entries c.args.cells.now c.args.list.now.items r c.requires.rises (rw c.as_slice.ensures.value at all) in
    a.fresh

pub returns-then-are_after-clause-conflicts : goal.returns-then-are_after-clause-conflicts
returns-then-are_after-clause-conflicts g c =
    let r = c.requires.rising c.if-rises.true in
    let all = c.are_after.ensures c.if-are_after.true (rw c.as_slice.ensures.value c.requires.rises) r in
    let a = after-all g.E.Entry.entries c.args.cells.now c.args.list.now.items r c.requires.rises (rw c.as_slice.ensures.value at all) in
    c.requires.empty ∙ a.conflicts

-- no key is new

pub returns-then-count-eq0-clause-items : goal.returns-then-count-eq0-clause-items
returns-then-count-eq0-clause-items g c =
    let f = rw c.deref.ensures.value at c.count_new-count.ensures.fresh in
    let none : fresh g.E.Entry.entries c.args.cells.now c.args.list.now.items ≡ 0 = omega (arith, f, c.if-count-eq0.true) in
    sym (with_cells-none g.E.Entry.entries c.args.cells.now c.args.list.now.items c.requires.rises none)

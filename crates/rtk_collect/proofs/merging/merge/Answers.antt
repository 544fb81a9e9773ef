use Rattle.std.proofs.Common.{◌≤◌, ◌+◌, ◌∙◌, [], ◌∷◌, ap, sym, subst, arith, length, get_or, vec_capacity}
use Rattle.std.proofs.lemmas.List.{append-nil}
use Rattle.rtk_collect.specs.Key.{key, KeysRise}
use Rattle.rtk_collect.specs.EpochSet.{with_cell, cell_under, fresh, conflict}
use Rattle.rtk_collect.proofs.CellsLemmas.{push-few, merge-items, merge-conflicts, merge-room, put-room, with_cell-rises, with_cell-longer, lower-length}
use Rattle.rtk_collect.proofs.merging.merge.Goals as goal
use Rattle.rtk_collect.proofs.merging.merge.Goals.{then-add_new, else-add_new}

pub add_new-requires-clause-room : goal.add_new-requires-clause-room
add_new-requires-clause-room g c =
    let h = put-room g.E.Entry.entries c.loop-entry.entry-index c.entry-item.result c.args.cells.now c.loop-entry.kept.items _ c.loop-entry-test.true c.loop-entry.invariant.room in
    rw c.loop-entry.kept.ok.0 (subst (λ (x : _). length c.loop-entry.kept.items + fresh g.E.Entry.entries (x ∷ []) c.loop-entry.kept.items ≤ vec_capacity c.loop-entry.kept) (sym c.entry-item.is) h)

pub loop-entry-preserved : goal.loop-entry-preserved
loop-entry-preserved g c =
    let i = c.loop-entry.entry-index in
    let cells = c.args.cells.now in
    let kept = c.loop-entry.kept.items in
    let new = c.add_new.new.kept.items in
    let l = c.loop-entry-test.true in
    let d = c.entry-item.result in
    let is = c.entry-item.is in
    let p = c.add_new.ensures.items ∙ ap (λ (x : _). with_cell g.E.Entry.entries x kept) is in
    let cell = ap (λ (x : _). conflict g.E.Entry.entries x (cell_under g.E.Entry.entries (key g.E.Entry.entries x) kept)) (sym is) in
    let low = lower-length g.E.Entry.entries c.key_of.result kept in
    let place = rw c.deref.ensures.value at c.place_of_key-at.ensures in
    let longer = with_cell-longer g.E.Entry.entries (get_or cells i d) kept in
    let at_le = ap length p in
    let items = merge-items g.E.Entry.entries i d cells kept new _ l p c.loop-entry.invariant.items in
    let rises : KeysRise g.E.Entry.entries new = rw p (with_cell-rises g.E.Entry.entries (get_or cells i d) kept c.loop-entry.invariant.rises) in
    let room = merge-room g.E.Entry.entries i d cells kept new _ _ l c.loop-entry.invariant.rises p c.loop-entry.invariant.room c.add_new.ensures.capacity in
    elim c.if-add_new.branch [
      | then-add_new w ↦
          let n = cell ∙ rw w.if-add_new.true at c.add_new.ensures.conflict in
          let f = merge-conflicts g.E.Entry.entries i d cells kept new c.loop-entry.found _ _ l p n c.loop-entry.invariant.conflicts in
          record { at = omega arith; rises = rises; room = room; few = rw (w.found-is, w.push.ensures) (push-few c.loop-entry.found _ i c.loop-entry.invariant.few); items = items; conflicts = rw (w.found-is, w.push.ensures, w.signal.ensures) f }
      | else-add_new w ↦
          let n = cell ∙ rw w.if-add_new.false at c.add_new.ensures.conflict in
          let f = merge-conflicts g.E.Entry.entries i d cells kept new c.loop-entry.found _ _ l p n c.loop-entry.invariant.conflicts in
          record { at = omega arith; rises = rises; room = room; few = rw w.found-is (omega (arith, c.loop-entry.invariant.few)); items = items; conflicts = rw (w.found-is, ← append-nil c.loop-entry.found) f }
    ]

use Rattle.std.proofs.Common.{◌+◌, ◌∙◌, [], ◌∷◌, not, Some, refl, sym, ap, arith, drop, get_or}
use Rattle.std.proofs.lemmas.List.{append-nil}
use Rattle.rtk_collect.specs.Key.{key}
use Rattle.rtk_collect.specs.EpochSet.{cell_under, one_more, fresh, conflicts, equal_values}
use Rattle.rtk_collect.proofs.CellsLemmas.{fresh-step, lower-length, push-few, conflict-is, kept-conflicts}
use Rattle.rtk_collect.proofs.RisingLemmas.{none-conflicts}
use Rattle.rtk_collect.proofs.merging.count_new.Goals as goal
use Rattle.rtk_collect.proofs.merging.count_new.Goals.{in-None, in-Some+then-differ, in-Some+else-differ}

pub loop-entry-preserved : goal.loop-entry-preserved
loop-entry-preserved g c =
    let i = c.loop-entry.entry-index in
    let cells = c.args.cells.now in
    let kept = c.args.kept.now in
    let l = c.loop-entry-test.true in
    let d = c.entry-item.result in
    let is = c.entry-item.is in
    let inv = c.loop-entry.invariant in
    let cell = get_or cells i d in
    let rest = fresh g.E.Entry.entries (drop (i + 1) cells) kept in
    let low = lower-length g.E.Entry.entries c.key_of-key.result kept in
    let o = rw c.key_of-key.ensures at c.kept_cell.ensures ∙ ap (λ (x : _). cell_under g.E.Entry.entries (key g.E.Entry.entries x) kept) is in
    let f = fresh-step g.E.Entry.entries i d c.kept_cell.result cells kept l o in
    elim c.match-kept_cell.branch [
      | in-None w ↦
          let n = ap (λ t. one_more t rest) w.in-None.is in
          record {
            at = omega arith;
            bound = omega (arith, w.count-is, inv.bound);
            count = omega (arith, w.count-is, inv.count, f, n);
            few = rw w.found-is (omega (arith, inv.few));
            rising = λ r. rw w.found-is (none-conflicts g.E.Entry.entries i d cells kept c.loop-entry.found (conflicts g.E.Entry.entries cells kept) l r (sym o ∙ w.in-None.is) (inv.rising r));
            conflicts = λ e. absurd (omega (arith, w.count-is, e));
          }
      | in-Some+then-differ w ↦
          let first = w.in-Some.first in
          let n = ap (λ t. one_more t rest) w.in-Some.is in
          let other = w.differ.ensures ∙ ap (λ (x : _). not (equal_values g.E.Entry.entries first x)) is in
          let told = rw w.if-differ.true at (conflict-is g.E.Entry.entries cell first (Some first) w.differ.result refl other) ∙ ap (λ (x : _). g.E.Entry.entries.signal x ∷ []) (sym is) in
          record {
            at = omega arith;
            bound = omega (arith, w.count-is, inv.bound);
            count = omega (arith, w.count-is, inv.count, f, n);
            few = rw (w.found-is, w.push.ensures) (push-few c.loop-entry.found _ i inv.few);
            rising = λ r. rw (w.found-is, w.push.ensures, w.signal.ensures) (kept-conflicts g.E.Entry.entries i d first cells kept c.loop-entry.found _ (conflicts g.E.Entry.entries cells kept) l c.requires.rises (sym o ∙ w.in-Some.is) told (inv.rising r));
            conflicts = λ e. rw (w.found-is, w.push.ensures, w.signal.ensures) (kept-conflicts g.E.Entry.entries i d first cells kept c.loop-entry.found _ (conflicts g.E.Entry.entries cells kept) l c.requires.rises (sym o ∙ w.in-Some.is) told (inv.conflicts (omega (arith, w.count-is, e))));
          }
      | in-Some+else-differ w ↦
          let first = w.in-Some.first in
          let n = ap (λ t. one_more t rest) w.in-Some.is in
          let other = w.differ.ensures ∙ ap (λ (x : _). not (equal_values g.E.Entry.entries first x)) is in
          let told = rw w.if-differ.false at (conflict-is g.E.Entry.entries cell first (Some first) w.differ.result refl other) in
          record {
            at = omega arith;
            bound = omega (arith, w.count-is, inv.bound);
            count = omega (arith, w.count-is, inv.count, f, n);
            few = rw w.found-is (omega (arith, inv.few));
            rising = λ r. rw (w.found-is, ← append-nil c.loop-entry.found) (kept-conflicts g.E.Entry.entries i d first cells kept c.loop-entry.found _ (conflicts g.E.Entry.entries cells kept) l c.requires.rises (sym o ∙ w.in-Some.is) told (inv.rising r));
            conflicts = λ e. rw (w.found-is, ← append-nil c.loop-entry.found) (kept-conflicts g.E.Entry.entries i d first cells kept c.loop-entry.found _ (conflicts g.E.Entry.entries cells kept) l c.requires.rises (sym o ∙ w.in-Some.is) told (inv.conflicts (omega (arith, w.count-is, e))));
          }
    ]

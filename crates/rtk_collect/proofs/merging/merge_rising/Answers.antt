use Rattle.std.proofs.Common.{◌+◌, ◌-◌, ◌≤◌, ◌++◌, arith, take, drop, set, sym, ap, subst, ◌∙◌}
use Rattle.std.proofs.lemmas.List.{length-take-le}
use Rattle.rtk_collect.specs.Key.{key}
use Rattle.rtk_collect.proofs.CellsLemmas.{some_cell}
use Rattle.rtk_collect.proofs.MergesLemmas.{Puts, same-before, puts-first, put-kept, put-same, put-room, put-new, end-room, puts-end}
use Rattle.rtk_collect.proofs.merging.merge_rising.Goals as goal
use Rattle.rtk_collect.proofs.merging.merge_rising.Goals.{then-last-wanted-2, else-last-wanted-2, then-loop-left-test+else-next-gt0, else-loop-left-test}

pub loop-left-init : goal.loop-left-init
loop-left-init g c = record {
  puts = puts-first g.E.Entry.entries c.args.cells.now c.args.list.now c.args.kept c.requires.kept c.requires.rises c.requires.rising c.requires.room;
  last = c.key_before-last.ensures;
  wanted = c.key_before-wanted.ensures;
}

pub loop-left-preserved-then-last-wanted : goal.loop-left-preserved-then-last-wanted
loop-left-preserved-then-last-wanted g c =
    let d = c.index-list-left.result in
    record {
      puts = subst (λ (x : _). Puts g.E.Entry.entries c.args.cells.now (take c.args.kept c.args.list.now) (set c.loop-left.list (c.loop-left.left - 1 + c.loop-left.gap) x) c.loop-left.next (c.loop-left.left - 1) c.loop-left.gap) (sym c.index-list-left.is)
          (put-kept g.E.Entry.entries c.args.cells.now (take c.args.kept c.args.list.now) c.loop-left.list c.loop-left.next c.loop-left.left c.loop-left.gap d c.requires.rising c.requires.rises c.loop-left.invariant.puts c.if-next-gt0.true c.loop-left-test.true (omega (arith, c.loop-left.invariant.last c.loop-left-test.true d, c.loop-left.invariant.wanted c.if-next-gt0.true d, c.if-last-wanted.true)));
      last = c.key_before-last-then-last-wanted.ensures;
      wanted = c.loop-left.invariant.wanted;
    }

pub overflow_sub-gap-then-last-wanted-2 : goal.overflow_sub-gap-then-last-wanted-2
overflow_sub-gap-then-last-wanted-2 g c =
    let d = some_cell c.loop-left.list (omega (arith, c.loop-left.invariant.puts.size, c.loop-left-test.true)) in
    put-room g.E.Entry.entries c.args.cells.now (take c.args.kept c.args.list.now) c.loop-left.list c.loop-left.next c.loop-left.left c.loop-left.gap d c.requires.rising c.requires.rises c.loop-left.invariant.puts c.if-next-gt0.true c.loop-left-test.true (omega (arith, c.loop-left.invariant.last c.loop-left-test.true d, c.loop-left.invariant.wanted c.if-next-gt0.true d, c.if-last-wanted-2.true))

pub bounds-list-left-then-last-wanted-2 : goal.bounds-list-left-then-last-wanted-2
bounds-list-left-then-last-wanted-2 g c =
    let d = some_cell c.loop-left.list (omega (arith, c.loop-left.invariant.puts.size, c.loop-left-test.true)) in
    let room : 1 ≤ c.loop-left.gap = put-room g.E.Entry.entries c.args.cells.now (take c.args.kept c.args.list.now) c.loop-left.list c.loop-left.next c.loop-left.left c.loop-left.gap d c.requires.rising c.requires.rises c.loop-left.invariant.puts c.if-next-gt0.true c.loop-left-test.true (omega (arith, c.loop-left.invariant.last c.loop-left-test.true d, c.loop-left.invariant.wanted c.if-next-gt0.true d, c.if-last-wanted-2.true)) in
    omega (arith, c.loop-left.invariant.puts.size)

pub loop-left-preserved : goal.loop-left-preserved
loop-left-preserved g c =
    let d = some_cell c.loop-left.list (omega (arith, c.loop-left.invariant.puts.size, c.loop-left-test.true)) in
    elim c.if-last-wanted-2.branch [
      | then-last-wanted-2 w ↦
          let x = w.index-cells-next.result in
          let new = subst (λ (t : _). Puts g.E.Entry.entries c.args.cells.now (take c.args.kept c.args.list.now) (set c.loop-left.list (c.loop-left.left + (c.loop-left.gap - 1)) t) (c.loop-left.next - 1) c.loop-left.left (c.loop-left.gap - 1)) (sym w.index-cells-next.is)
          (put-new g.E.Entry.entries c.args.cells.now (take c.args.kept c.args.list.now) c.loop-left.list c.loop-left.next c.loop-left.left c.loop-left.gap x c.requires.rising c.requires.rises c.loop-left.invariant.puts c.if-next-gt0.true c.loop-left-test.true (omega (arith, c.loop-left.invariant.last c.loop-left-test.true x, c.loop-left.invariant.wanted c.if-next-gt0.true x, w.if-last-wanted-2.true))) in
          record {
            puts = rw (w.list-is, w.gap-is) new;
            last = λ l e. rw w.list-is (c.loop-left.invariant.last l e ∙ ap (key g.E.Entry.entries) (same-before _ c.loop-left.list c.loop-left.left (c.loop-left.left - 1) e (c.loop-left.invariant.puts.before ∙ sym new.before) (omega arith)));
            wanted = c.key_before-wanted-in-loop-left.ensures;
          }
      | else-last-wanted-2 w ↦ record {
        puts = rw (w.list-is, w.gap-is) (put-same g.E.Entry.entries c.args.cells.now (take c.args.kept c.args.list.now) c.loop-left.list c.loop-left.next c.loop-left.left c.loop-left.gap d c.requires.rising c.requires.rises c.loop-left.invariant.puts c.if-next-gt0.true c.loop-left-test.true (omega (arith, c.loop-left.invariant.last c.loop-left-test.true d, c.loop-left.invariant.wanted c.if-next-gt0.true d, c.if-last-wanted.false, w.if-last-wanted-2.false)));
        last = λ l e. rw w.list-is (c.loop-left.invariant.last l e);
        wanted = c.key_before-wanted-in-loop-left.ensures;
      }
    ]

pub put_first-requires : goal.put_first-requires
put_first-requires g c =
    let room = end-room g.E.Entry.entries c.args.cells.now (take c.args.kept c.args.list.now) c.loop-left.list c.loop-left.next c.loop-left.left c.loop-left.gap c.requires.rising c.loop-left.invariant.puts (λ l n. elim c.loop-left-test.branch [
      | then-loop-left-test+else-next-gt0 w ↦ absurd (omega (arith, w.if-next-gt0.false))
      | else-loop-left-test w ↦ absurd (omega (arith, w.loop-left-test.false))
    ]) in
    omega (arith, room, length-take-le c.loop-left.next c.args.cells.now c.loop-left.invariant.puts.next)

pub returns : goal.returns
returns g c =
    c.put_first.ensures ∙ ap (λ n. take c.loop-left.next c.args.cells.now ++ drop n c.loop-left.list) (length-take-le c.loop-left.next c.args.cells.now c.loop-left.invariant.puts.next)
    ∙ puts-end g.E.Entry.entries c.args.cells.now (take c.args.kept c.args.list.now) c.loop-left.list c.loop-left.next c.loop-left.left c.loop-left.gap c.requires.rising c.loop-left.invariant.puts (λ l n. elim c.loop-left-test.branch [
      | then-loop-left-test+else-next-gt0 w ↦ absurd (omega (arith, w.if-next-gt0.false))
      | else-loop-left-test w ↦ absurd (omega (arith, w.loop-left-test.false))
    ])

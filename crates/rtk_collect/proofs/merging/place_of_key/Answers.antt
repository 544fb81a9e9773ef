use Rattle.std.proofs.Common.{ap, arith}
use Rattle.std.proofs.lemmas.Grind.{common_steps}
use Rattle.rtk_collect.specs.Key.{key}
use Rattle.rtk_collect.proofs.CellsLemmas.{place-from, place-next, place-ends, lower-length}
use Rattle.rtk_collect.proofs.merging.place_of_key.Goals as goal
use Rattle.rtk_collect.proofs.merging.place_of_key.Goals.{then-loop-at-test+else-key_of-key, else-loop-at-test}

pub loop-at-2-init : goal.loop-at-2-init
loop-at-2-init g c = elim c.loop-at-test.branch [
  | then-loop-at-test+else-key_of-key w ↦
      let h = w.key_of.ensures in
      let is = ap (key g.E.Entry.entries) w.index-kept-at.is in
      place-from g.E.Entry.entries c.args.key c.loop-at.at w.index-kept-at.result c.args.kept.now c.requires.rises c.loop-at.invariant (omega arith) (omega arith)
  | else-loop-at-test w ↦ omega arith
]

pub loop-at-2-preserved : goal.loop-at-2-preserved
loop-at-2-preserved g c =
    let h = c.key_of-in-loop-at-2.ensures in
    let is = ap (key g.E.Entry.entries) c.index-kept-at-in-loop-at-2.is in
    place-next g.E.Entry.entries c.args.key c.loop-at-2.at c.index-kept-at-in-loop-at-2.result c.args.kept.now c.requires.rises (grind (arith, common_steps)) (omega arith)

pub returns-else-key_of-key-2 : goal.returns-else-key_of-key-2
returns-else-key_of-key-2 g c =
    let h = c.key_of-in-loop-at-2.ensures in
    let is = ap (key g.E.Entry.entries) c.index-kept-at-in-loop-at-2.is in
    place-ends g.E.Entry.entries c.args.key c.loop-at-2.at c.index-kept-at-in-loop-at-2.result c.args.kept.now c.loop-at-2.invariant (grind (arith, common_steps)) (omega arith)

pub returns-after-loop-at-2 : goal.returns-after-loop-at-2
returns-after-loop-at-2 g c = let h = lower-length g.E.Entry.entries c.args.key c.args.kept.now in grind (arith, common_steps)

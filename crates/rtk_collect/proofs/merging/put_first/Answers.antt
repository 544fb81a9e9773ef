use Rattle.std.proofs.Common.{◌++◌, ◌∙◌, ap, arith, take, drop, set}
use Rattle.rtk_collect.proofs.MergesLemmas.{first-next}
use Rattle.rtk_collect.proofs.merging.put_first.Goals as goal

pub loop-at-preserved : goal.loop-at-preserved
loop-at-preserved g c = record {
  few = omega (arith, c.loop-at-test.true);
  list = rw c.loop-at.invariant.list (ap (λ (x : _). set (take c.loop-at.at c.args.cells.now ++ drop c.loop-at.at c.args.list.now) c.loop-at.at x) c.index-cells-at.is
      ∙ first-next c.args.cells.now c.args.list.now c.loop-at.at c.index-cells-at.result c.loop-at-test.true (omega (arith, c.requires, c.loop-at-test.true)));
}

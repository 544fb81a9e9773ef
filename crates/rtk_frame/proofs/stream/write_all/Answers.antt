use Rattle.std.proofs.Common.{◌≡◌, ◌-◌, length, take, drop, arith}
use Rattle.std.proofs.lemmas.Grind.{common_steps}
use Rattle.rtk_frame.proofs.StreamLemmas.{with_more-take, failures_after-some}
use Rattle.rtk_frame.proofs.stream.write_all.Goals as goal

pub loop-at-preserved : goal.loop-at-preserved
loop-at-preserved g c =
    let rest : take (length c.args.bytes.now - c.loop-at.at) (drop c.loop-at.at c.args.bytes.now) ≡ drop c.loop-at.at c.args.bytes.now = grind (arith, common_steps) in
    record {
      within = grind (arith, common_steps, c.in_ok-count.ensures.bound);
      taken = rw (c.in_ok-count.ensures.taken, c.loop-at.invariant.taken, rest) (with_more-take _ _ _ _);
      failures = rw (c.in_ok-count.ensures.failures, c.loop-at.invariant.failures) (failures_after-some (g.W.Sink.failures c.args.sink.now) c.in_ok-count.count _ (grind (arith, c.if-count-eq0.false)));
    }

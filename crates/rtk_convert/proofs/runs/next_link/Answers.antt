use Rattle.std.proofs.Common.{ℕ, Option, subst, arith, rules}
use Rattle.rtk_convert.proofs.NextLemmas.{NextBelow, next-closed, next-first, next-end, are_links-length}
use Rattle.rtk_convert.proofs.runs.next_link.Goals as goal

pub loop-link-preserved-then-not-is_open : goal.loop-link-preserved-then-not-is_open
loop-link-preserved-then-not-is_open c = record {
  next = λ h r. next-closed h c.loop-link.link c.loop-link.next (c.loop-link.invariant.next h r) (λ o. let yes = (c.is_open.ensures.of_history h r).1 o in let no = c.if-not-is_open.true in cc);
  within = c.loop-link.invariant.within;
}

pub loop-link-preserved-in_default : goal.loop-link-preserved-in_default
loop-link-preserved-in_default c = record {
  next = λ h r. next-first h c.loop-link.link (subst (λ (o : Option ℕ). NextBelow h c.loop-link.link o) c.in_default.is (c.loop-link.invariant.next h r)) (let yes = (c.is_open.ensures.of_history h r).0 in yes c.if-not-is_open.false);
  within = let lt = c.loop-link-test.true in omega (arith, lt, c.links-link-end.ensures);
}

pub returns-clause-next : goal.returns-clause-next
returns-clause-next c = λ h r. next-end h c.loop-link.link c.loop-link.next (let e = are_links-length c.args.converter.now.links h.links 0 h.found r.links in let a = c.links-link-end.ensures in let b = c.loop-link-test.false in let d = c.loop-link.auto.link-end in omega (arith, e)) (c.loop-link.invariant.next h r)

pub loop-link-preserved : goal.loop-link-preserved
loop-link-preserved c = search rules depth 5 fits 300

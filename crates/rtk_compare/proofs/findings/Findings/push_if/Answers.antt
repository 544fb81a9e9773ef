use Rattle.rtk_compare.proofs.FindingLemmas.{is-told, not-told}
use Rattle.rtk_compare.proofs.findings.Findings.push_if.Goals as goal

pub returns-then-differs : goal.returns-then-differs
returns-then-differs c = is-told c.args.differs c.args.class c.args.what c.args.place.now c.if-differs.true c.push.ensures

pub returns-else-differs : goal.returns-else-differs
returns-else-differs c = not-told c.args.self.now c.args.differs c.args.class c.args.what c.args.place.now c.if-differs.false

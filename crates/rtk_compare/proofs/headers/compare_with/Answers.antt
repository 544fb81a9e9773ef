use Rattle.rtk_compare.proofs.HeaderLemmas.{beside-some, beside-none}
use Rattle.rtk_compare.proofs.headers.compare_with.Goals as goal

pub returns-in-Some : goal.returns-in-Some
returns-in-Some c = beside-some c.args.old.now c.args.new _ c.in-Some.is c.compare_told.ensures

pub returns-in_default : goal.returns-in_default
returns-in_default c = beside-none c.args.findings.now c.args.old.now c.args.new c.in_default.is

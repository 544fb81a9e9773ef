use Rattle.rtk_compare.proofs.HeaderLemmas.{glonass-some, glonass-none}
use Rattle.rtk_compare.proofs.headers.compare_glonass.Goals as goal

pub returns-in-Some : goal.returns-in-Some
returns-in-Some c = glonass-some c.args.old c.args.new _ c.in-Some.is c.compare_with.ensures

pub returns-in_default : goal.returns-in_default
returns-in_default c = glonass-none c.args.findings.now c.args.old c.args.new c.in_default.is

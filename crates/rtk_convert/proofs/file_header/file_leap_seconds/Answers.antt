use Rattle.std.proofs.Common.{ℕ, Option, subst, sym, ◌∙◌, arith}
use Rattle.std.specs.Prelude.{IfSome}
use Rattle.rtk_setup.specs.Setup.{IsLeapSeconds}
use Rattle.rtk_convert.proofs.FileHeaderLemmas.{leap-given, leap-of-table}
use Rattle.rtk_convert.proofs.file_header.file_leap_seconds.Goals as goal

pub returns-in-Some-clause-value : goal.returns-in-Some-clause-value
returns-in-Some-clause-value c = leap-given c.args.setup.now c.args.first c.in-Some.leap_seconds (sym c.leap_seconds.ensures.value ∙ c.in-Some.is)

pub returns-in-Some-clause-bound : goal.returns-in-Some-clause-bound
returns-in-Some-clause-bound c = subst (λ (o : Option ℕ). IfSome o IsLeapSeconds) c.in-Some.is c.leap_seconds.ensures.good

pub returns-in-None-clause-value : goal.returns-in-None-clause-value
returns-in-None-clause-value c = leap-of-table c.args.setup.now c.args.first c.leap_seconds_at.result (sym c.leap_seconds.ensures.value ∙ c.in-None.is) c.leap_seconds_at.ensures

pub returns-in-None-clause-bound : goal.returns-in-None-clause-bound
returns-in-None-clause-bound c = let known = c.leap_seconds_at.ensures.known in omega arith

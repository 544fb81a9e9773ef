use Rattle.std.proofs.Common.{sym, ◌∙◌}
use Rattle.rtk_survey.proofs.ResultLemmas.{both-ok}
use Rattle.rtk_survey.proofs.SystemTellingLemmas.{leap-more, leap-same}
use Rattle.rtk_survey.proofs.system_tellings.take_leap.Goals as goal

pub returns-in-Some : goal.returns-in-Some
returns-in-Some c = both-ok c.take_seconds.result
    (λ own others ts has. leap-more c.args.ranges.now c.take_seconds.new.ranges c.in-Some.leap c.args.message.now ts (sym c.in-Some.is ∙ c.leap_in.ensures) own others has)
    c.take_seconds.ensures.own c.take_seconds.ensures.others

pub returns-in-None : goal.returns-in-None
returns-in-None c = λ ts has. leap-same c.args.ranges.now c.args.message.now ts (sym c.in-None.is ∙ c.leap_in.ensures) has

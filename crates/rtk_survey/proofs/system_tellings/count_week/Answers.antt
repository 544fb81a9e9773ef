use Rattle.std.proofs.Common.{sym, ◌∙◌}
use Rattle.rtk_survey.proofs.ResultLemmas.{both-ok}
use Rattle.rtk_survey.proofs.SystemTellingLemmas.{week-more, week-same}
use Rattle.rtk_survey.proofs.system_tellings.count_week.Goals as goal

pub returns-in-Some : goal.returns-in-Some
returns-in-Some c = both-ok c.count_number.result
    (λ own others ts counts. week-more c.args.number c.args.weeks.now c.count_number.new.counts c.in-Some.week c.args.message.now ts (sym c.in-Some.is ∙ c.system_week_of.ensures) own others counts)
    c.count_number.ensures.own c.count_number.ensures.others

pub returns-in-None : goal.returns-in-None
returns-in-None c = λ ts counts. week-same c.args.number c.args.weeks.now c.args.message.now ts (sym c.in-None.is ∙ c.system_week_of.ensures) counts

use Rattle.std.proofs.Common.{sym, ◌∙◌}
use Rattle.rtk_survey.proofs.DaylessLemmas.{dayless-counted, dayless-passed}
use Rattle.rtk_survey.proofs.ResultLemmas.{both-ok}
use Rattle.rtk_survey.proofs.dayless.count_dayless.Goals as goal

pub returns-then-is_dayless : goal.returns-then-is_dayless
returns-then-is_dayless c = both-ok c.count_number.result
    (λ own others ms counts. dayless-counted c.args.counts.now c.count_number.new.counts c.number.result c.args.message.now ms c.number.ensures (sym c.is_dayless.ensures ∙ c.if-is_dayless.true) own others counts)
    c.count_number.ensures.own c.count_number.ensures.others

pub returns-else-is_dayless : goal.returns-else-is_dayless
returns-else-is_dayless c = λ ms counts. dayless-passed c.args.counts.now c.args.message.now ms (sym c.is_dayless.ensures ∙ c.if-is_dayless.false) counts

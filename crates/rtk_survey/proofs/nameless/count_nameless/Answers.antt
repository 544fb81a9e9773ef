use Rattle.std.proofs.Common.{sym, ◌∙◌}
use Rattle.rtk_survey.proofs.NamelessLemmas.{nameless-counted, nameless-passed}
use Rattle.rtk_survey.proofs.ResultLemmas.{both-ok}
use Rattle.rtk_survey.proofs.nameless.count_nameless.Goals as goal

pub returns-then-has_nameless : goal.returns-then-has_nameless
returns-then-has_nameless c = both-ok c.count_number.result
    (λ own others ms counts. nameless-counted c.args.counts.now c.count_number.new.counts c.number.result c.args.message.now ms c.number.ensures (sym c.has_nameless.ensures ∙ c.if-has_nameless.true) own others counts)
    c.count_number.ensures.own c.count_number.ensures.others

pub returns-else-has_nameless : goal.returns-else-has_nameless
returns-else-has_nameless c = λ ms counts. nameless-passed c.args.counts.now c.args.message.now ms (sym c.has_nameless.ensures ∙ c.if-has_nameless.false) counts

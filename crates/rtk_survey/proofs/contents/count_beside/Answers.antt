use Rattle.std.proofs.Common.{sym, ◌∙◌}
use Rattle.rtk_survey.proofs.ResultLemmas.{both-ok}
use Rattle.rtk_survey.proofs.SystemLemmas.{beside-counted, beside-passed}
use Rattle.rtk_survey.proofs.contents.count_beside.Goals as goal

pub returns-then-is_beside_gps : goal.returns-then-is_beside_gps
returns-then-is_beside_gps c = both-ok c.count_number.result
    (λ own others ms counts. beside-counted c.args.counts.now c.count_number.new.counts c.number.result c.args.message.now ms c.number.ensures (sym c.is_beside_gps.ensures ∙ c.if-is_beside_gps.true) own others counts)
    c.count_number.ensures.own c.count_number.ensures.others

pub returns-else-is_beside_gps : goal.returns-else-is_beside_gps
returns-else-is_beside_gps c = λ ms counts. beside-passed c.args.counts.now c.args.message.now ms (sym c.is_beside_gps.ensures ∙ c.if-is_beside_gps.false) counts

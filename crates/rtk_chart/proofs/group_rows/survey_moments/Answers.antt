use Rattle.std.proofs.Common.{[], refl, sym, ◌∙◌}
use Rattle.rtk_chart.specs.Steps.Standing.{StandsForSurvey}
use Rattle.rtk_chart.proofs.GroupLemmas.{record-more, record-all}
use Rattle.rtk_chart.proofs.group_rows.survey_moments.Goals as goal

pub loop-record-init : goal.loop-record-init
loop-record-init c = λ t is text. ([], t.epochs, (c.records-records.ensures.records t is text).1, refl, c.new-survey.ensures)

pub loop-record-preserved : goal.loop-record-preserved
loop-record-preserved c = λ t is text.
    record-more StandsForSurvey c.loop-record.records c.next.new.self c.loop-record.survey c.count_moment.new.self t.epochs c.in-Some.record
    (c.loop-record.invariant t is text) c.in-Some.ensures.next
    (λ es e of good stands. c.in_ok-count_moment.ensures es e (sym (c.time.ensures ∙ of.time)) stands)

pub returns : goal.returns
returns c = λ t is text.
    record-all StandsForSurvey c.loop-record.records c.loop-record.survey t.epochs (c.loop-record.invariant t is text) c.in_default.ensures.next

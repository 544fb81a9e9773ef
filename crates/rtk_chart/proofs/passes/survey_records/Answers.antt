use Rattle.std.proofs.Common.{[], refl}
use Rattle.rtk_chart.specs.Steps.Standing.{StandsForSurvey}
use Rattle.rtk_tracking.proofs.PublicLaws.{come-more, come-all}
use Rattle.rtk_chart.proofs.passes.survey_records.Goals as goal

pub loop-record-init : goal.loop-record-init
loop-record-init c = λ t is text. ([], t.epochs, (c.records-records.ensures.records t is text).1, refl, c.new-survey.ensures)

pub loop-record-preserved : goal.loop-record-preserved
loop-record-preserved c = λ t is text.
    come-more StandsForSurvey c.loop-record.records c.next.new.self c.loop-record.survey c.count_record.new.self t.epochs c.in-Some._record.now c.next.new.epoch
    (c.loop-record.invariant t is text) c.in-Some.ensures.next c.in_ok-count_record.ensures

pub returns : goal.returns
returns c = λ t is text.
    come-all StandsForSurvey c.loop-record.records c.loop-record.survey t.epochs (c.loop-record.invariant t is text) c.in_default.ensures.next

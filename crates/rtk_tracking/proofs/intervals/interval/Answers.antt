use Rattle.std.proofs.Common.{[], refl}
use Rattle.rtk_tracking.specs.Epochs.{newest_first}
use Rattle.rtk_tracking.specs.Standing.{StandsForStepsBetween}
use Rattle.rtk_tracking.proofs.RecordLemmas.{come-time, come-all}
use Rattle.rtk_tracking.proofs.intervals.interval.Goals as goal

pub loop-time-init : goal.loop-time-init
loop-time-init c = λ t is text. ([], t.epochs, (c.records-records.ensures.records t is text).1, refl, c.new-steps.ensures)

pub loop-time-preserved : goal.loop-time-preserved
loop-time-preserved c = λ t is text.
    come-time StandsForStepsBetween c.loop-time.records c.next_time.new.self c.loop-time.steps c.note_time.new.self t.epochs c.in-Some.time
    (c.loop-time.invariant t is text) c.in-Some.ensures.next c.in_ok-note_time.ensures

pub returns : goal.returns
returns c = λ t is text.
    c.interval.ensures (newest_first t.epochs)
    (come-all StandsForStepsBetween c.loop-time.records c.loop-time.steps t.epochs (c.loop-time.invariant t is text) c.in_default.ensures.next)

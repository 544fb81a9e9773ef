use Rattle.std.proofs.Common.{[], refl}
use Rattle.rtk_rinex.specs.MixedRecords.{AreMixedLeft}
use Rattle.rtk_tracking.specs.Epochs.{newest_first}
use Rattle.rtk_tracking.specs.Standing.{StandsForStepsBetween}
use Rattle.rtk_tracking.proofs.RecordLemmas.{come-time-by, come-all-by, reads-record}
use Rattle.rtk_tracking.proofs.intervals.mixed_interval.Goals as goal

pub loop-rows-init : goal.loop-rows-init
loop-rows-init c = λ t is text. ([], t.epochs, (c.records-records.ensures.records t is text).1, refl, c.new-steps.ensures)

pub loop-rows-preserved : goal.loop-rows-preserved
loop-rows-preserved c = λ t is text.
    come-time-by StandsForStepsBetween (AreMixedLeft c.loop-rows.records) (AreMixedLeft c.next.new.self) c.loop-rows.steps c.note_time.new.self t.epochs c.in-Some.rows.time
    (c.loop-rows.invariant t is text) (λ rest left. reads-record rest c.in-Some.rows c.next.new.self (c.in-Some.ensures.next rest left)) (rw c.time.ensures at c.in_ok-note_time.ensures)

pub returns : goal.returns
returns c = λ t is text.
    c.interval.ensures (newest_first t.epochs)
    (come-all-by StandsForStepsBetween (AreMixedLeft c.loop-rows.records) c.loop-rows.steps t.epochs (c.loop-rows.invariant t is text) c.in_default.ensures.next)

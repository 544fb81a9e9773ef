use Rattle.std.proofs.Common.{[], refl, sym, ◌∙◌}
use Rattle.rtk_quality.specs.Standing.{IsTimesOf}
use Rattle.rtk_quality.proofs.SystemLemmas.{come-record, come-end}
use Rattle.rtk_quality.proofs.file_times.times_of.Goals as goal

pub loop-record-init : goal.loop-record-init
loop-record-init c = λ t is text. ([], t.epochs, (c.records-records.ensures.records t is text).1, refl, c.new-times.ensures c.args.unit_ms)

pub loop-record-preserved : goal.loop-record-preserved
loop-record-preserved c = λ t is text.
    come-record (λ times es. IsTimesOf times c.args.unit_ms es) c.loop-record.records c.next.new.self c.loop-record.times c.note_record.new.self t.epochs c.in-Some.record
    (c.loop-record.invariant t is text) c.in-Some.ensures.next
    (λ es e of good stands. c.in_ok-note_record.ensures es e (sym (c.time.ensures ∙ of.time)) (of.rows.count ∙ sym c.count.ensures.value) stands)

pub returns : goal.returns
returns c = λ t is text.
    come-end (λ times es. IsTimesOf times c.args.unit_ms es) c.loop-record.records c.loop-record.times t.epochs (c.loop-record.invariant t is text) c.in_default.ensures.next

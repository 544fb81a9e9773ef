use Rattle.std.proofs.Common.{◌≡◌, sym, subst, ap, ◌∙◌}
use Rattle.rtk_rinex.specs.MixedRecord.{MixedLinesView, HoldsMixedLines, mixed_record_text}
use Rattle.rtk_rinex.proofs.MixedRecordLemmas.{mixed-record-of}
use Rattle.rtk_rinex.proofs.mixed_record_lines.MixedRecordLines.finish.Goals as goal

pub returns-clause-text : goal.returns-clause-text
returns-clause-text c = λ rows h.
    let d = c.self.inside.doppler in
    let held = subst (λ (v : MixedLinesView). HoldsMixedLines v rows) (sym c.self.view_is) h in
    let text = mixed-record-of d c.args.time c.self.inside.lines c.put_time.new.self rows held c.put_time.ensures in
    subst (λ (v : MixedLinesView). c.put_time.new.self.text ≡ mixed_record_text v.doppler (record { time = c.args.time; rows = rows })) c.self.view_is text

pub returns-clause-lines : goal.returns-clause-lines
returns-clause-lines c = λ rows h.
    let held = subst (λ (v : MixedLinesView). HoldsMixedLines v rows) (sym c.self.view_is) h in
    record { lines = c.put_time.ensures.lines ∙ held.lines; count = c.put_time.ensures.count ∙ held.count }

pub returns-clause-doppler : goal.returns-clause-doppler
returns-clause-doppler c = ap (λ (v : MixedLinesView). v.doppler) c.self.view_is

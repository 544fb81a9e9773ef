use Rattle.std.proofs.Common.{◌∙◌}
use Rattle.rtk_rinex.proofs.RecordLinesLemmas.{record-of}
use Rattle.rtk_rinex.proofs.record_lines.RecordLines.finish.Goals as goal

pub returns-clause-text : goal.returns-clause-text
returns-clause-text c = λ rows h. record-of c.args.time c.args.self.now c.put_time.new.self rows h c.put_time.ensures

pub returns-clause-lines : goal.returns-clause-lines
returns-clause-lines c = λ rows h. record { lines = c.put_time.ensures.lines ∙ h.lines; count = c.put_time.ensures.count ∙ h.count }

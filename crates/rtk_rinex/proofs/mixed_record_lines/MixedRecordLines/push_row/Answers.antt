use Rattle.std.proofs.Common.{◌∙◌}
use Rattle.rtk_rinex.proofs.MixedRecordLemmas.{kept-mixed-lines}
use Rattle.rtk_rinex.proofs.mixed_record_lines.MixedRecordLines.push_row.Goals as goal

pub returns-clause-ok : goal.returns-clause-ok
returns-clause-ok c = λ rows h.
    let opened = kept-mixed-lines c.args.self.now c.open_line.new.self rows c.open_line.ensures.lines h in
    c.close_line.ensures.lines rows c.args.observed.now (kept-mixed-lines c.open_line.new.self c.put_codes.new.self rows c.put_codes.ensures.lines opened) c.put_codes.ensures.open

pub returns-clause-doppler : goal.returns-clause-doppler
returns-clause-doppler c = c.close_line.ensures.doppler ∙ c.put_codes.ensures.lines.doppler ∙ c.open_line.ensures.lines.doppler

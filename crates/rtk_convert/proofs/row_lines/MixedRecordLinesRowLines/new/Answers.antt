use Rattle.rtk_convert.proofs.row_lines.MixedRecordLinesRowLines.new.Goals as goal

pub returns : goal.returns
returns c = record { holds = c.new.ensures.lines; shows = c.new.ensures.doppler }

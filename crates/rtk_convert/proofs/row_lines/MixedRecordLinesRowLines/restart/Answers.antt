use Rattle.rtk_convert.proofs.row_lines.MixedRecordLinesRowLines.restart.Goals as goal

pub returns : goal.returns
returns c = record { holds = c.restart_with.ensures.lines; shows = c.restart_with.ensures.doppler }

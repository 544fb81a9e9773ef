use Rattle.rtk_rinex.proofs.mixed_record_lines.MixedRecordLines.restart_with.Goals as goal

pub returns-clause-lines : goal.returns-clause-lines
returns-clause-lines c = record { lines = c.restart.ensures.lines; count = c.restart.ensures.count }

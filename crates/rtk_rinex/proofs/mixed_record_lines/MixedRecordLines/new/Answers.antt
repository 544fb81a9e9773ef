use Rattle.rtk_rinex.proofs.mixed_record_lines.MixedRecordLines.new.Goals as goal

pub returns-clause-lines : goal.returns-clause-lines
returns-clause-lines c = record { lines = c.new.ensures.lines; count = c.new.ensures.count }

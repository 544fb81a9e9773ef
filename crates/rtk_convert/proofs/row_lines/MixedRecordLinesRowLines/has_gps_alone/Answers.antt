use Rattle.rtk_convert.proofs.row_lines.MixedRecordLinesRowLines.has_gps_alone.Goals as goal

pub returns : goal.returns
returns c = λ alone. absurd cc

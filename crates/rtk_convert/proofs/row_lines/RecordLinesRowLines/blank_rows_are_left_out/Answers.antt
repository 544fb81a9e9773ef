use Rattle.rtk_convert.proofs.RowLinesLemmas.{gps-blank}
use Rattle.rtk_convert.proofs.row_lines.RecordLinesRowLines.blank_rows_are_left_out.Goals as goal

pub returns : goal.returns
returns c = λ lines doppler rows row none h. gps-blank lines doppler rows row none h

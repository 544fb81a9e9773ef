use Rattle.rtk_convert.proofs.RowLinesLemmas.{mixed-blank}
use Rattle.rtk_convert.proofs.row_lines.MixedRecordLinesRowLines.blank_rows_are_left_out.Goals as goal

pub returns : goal.returns
returns c = λ lines doppler rows row none h. mixed-blank lines doppler rows row none h

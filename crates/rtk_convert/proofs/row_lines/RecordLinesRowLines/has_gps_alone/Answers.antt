use Rattle.std.proofs.Common.{arith}
use Rattle.rtk_convert.proofs.row_lines.RecordLinesRowLines.has_gps_alone.Goals as goal

pub returns : goal.returns
returns c = λ alone. omega arith

use Rattle.std.proofs.Common.{rules}
use Rattle.rtk_convert.proofs.report.told_lines.Goals as goal

pub returns : goal.returns
returns g c = search (rules) depth 5 fits 300

use Rattle.std.proofs.Common.{arith}
use Rattle.std.proofs.lemmas.Grind.{common_steps}
use Rattle.rtk_convert.proofs.report.put_conflicts.Goals as goal

pub returns : goal.returns
returns c = grind (arith, common_steps)

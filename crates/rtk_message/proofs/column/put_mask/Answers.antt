use Rattle.std.proofs.Common.{arith}
use Rattle.rtk_message.proofs.ColumnLemmas.{puts_no_bits}
use Rattle.rtk_message.proofs.column.put_mask.Goals as goal

pub returns-else-signals-gt0 : goal.returns-else-signals-gt0
returns-else-signals-gt0 c = puts_no_bits c.args.signals c.args.mask.now c.args.writer.now (omega (arith, c.if-signals-gt0.false))

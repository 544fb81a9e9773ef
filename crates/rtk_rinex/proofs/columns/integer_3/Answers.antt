use Rattle.std.proofs.Common.{arith, decimal}
use Rattle.std.proofs.lemmas.Fmt.{length-decimal-le}
use Rattle.rtk_rinex.proofs.ColumnsLemmas.{right-digits}
use Rattle.rtk_rinex.proofs.columns.integer_3.Goals as goal

pub put_decimal-requires : goal.put_decimal-requires
put_decimal-requires c = length-decimal-le 3 _ (omega arith) (omega arith) (omega arith)

pub returns : goal.returns
returns c = rw (c.put_decimal.ensures.written) (right-digits 3 c.put_decimal.result (decimal c.args.number) c.put_decimal.ensures.start)

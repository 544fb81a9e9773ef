use Rattle.std.proofs.Common.{arith}
use Rattle.std.proofs.lemmas.Fmt.{length-decimal-le}
use Rattle.rtk_label.proofs.time_lines.put_integer.Goals as goal

pub put_right-requires-clause-fits : goal.put_right-requires-clause-fits
put_right-requires-clause-fits c =
    rw (c.as_bytes.ensures.value, c.format.ensures.text) (length-decimal-le 6 c.args.number (omega arith) (omega (arith, c.requires.digits)) (omega (arith, c.requires.digits)))

use Rattle.std.proofs.Common.{sym, arith}
use Rattle.std.proofs.lemmas.List.{take_all}
use Rattle.rtk_rinex.proofs.digits.front.Goals as goal

pub returns-then-text-width-clause-value : goal.returns-then-text-width-clause-value
returns-then-text-width-clause-value c = sym (take_all c.args.width c.args.text.now (omega arith))

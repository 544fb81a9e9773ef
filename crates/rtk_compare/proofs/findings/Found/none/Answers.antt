use Rattle.std.proofs.Common.{refl}
use Rattle.rtk_compare.proofs.findings.Found.none.Goals as goal

pub returns : goal.returns
returns c = λ k. record { count = refl; first = c.new.ensures }

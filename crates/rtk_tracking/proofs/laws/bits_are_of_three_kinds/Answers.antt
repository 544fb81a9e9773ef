use Rattle.rtk_tracking.proofs.BitLemmas.{each-bit, either-of-two}
use Rattle.rtk_tracking.proofs.laws.bits_are_of_three_kinds.Goals as goal

pub returns : goal.returns
returns c = record { one = each-bit; either = either-of-two }

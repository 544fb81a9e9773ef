use Rattle.std.proofs.Common.{◌-◌, refl}
use Rattle.rtk_convert.proofs.SlotsLemmas.{none-marked}
use Rattle.rtk_convert.proofs.slots.Slots.new.Goals as goal

pub invariant_of-result : goal.invariant_of-result
invariant_of-result c = refl

pub returns : goal.returns
returns c = λ slot. none-marked 27 (slot - 1)

use Rattle.rtk_bits.proofs.BitsLemmas.{length-bits_of, bits_of-above, bits_of-mod, bits_of-split}
use Rattle.rtk_bits.proofs.laws.bits_of_a_number.Goals as goal

pub returns : goal.returns
returns c = record { length = length-bits_of; above = bits_of-above; rest = bits_of-mod; split = bits_of-split }

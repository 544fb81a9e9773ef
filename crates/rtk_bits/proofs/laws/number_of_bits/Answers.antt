use Rattle.rtk_bits.proofs.Numbers.{unsigned_lt, unsigned-bits_of, unsigned-append}
use Rattle.rtk_bits.proofs.laws.number_of_bits.Goals as goal

pub returns : goal.returns
returns c = record { bound = unsigned_lt; of_number = unsigned-bits_of; joined = unsigned-append }

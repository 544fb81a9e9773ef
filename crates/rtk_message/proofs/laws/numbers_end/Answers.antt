use Rattle.rtk_message.proofs.NumberLemmas.{number-then}
use Rattle.rtk_message.proofs.laws.numbers_end.Goals as goal

pub returns : goal.returns
returns c = number-then

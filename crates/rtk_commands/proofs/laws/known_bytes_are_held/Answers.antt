use Rattle.rtk_commands.proofs.PassedLemmas.{taken_first, taken_last}
use Rattle.rtk_commands.proofs.laws.known_bytes_are_held.Goals as goal

pub returns : goal.returns
returns c = record { first = taken_first; last = taken_last }

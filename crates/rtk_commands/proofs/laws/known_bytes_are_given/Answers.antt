use Rattle.rtk_commands.proofs.PassedLemmas.{all_given}
use Rattle.rtk_commands.proofs.laws.known_bytes_are_given.Goals as goal

pub returns : goal.returns
returns c = all_given

use Rattle.rtk_message.proofs.AnyDecodedLemmas.{in_week}
use Rattle.rtk_message.proofs.laws.clocks_of_gps_lie_in_a_week.Goals as goal

pub returns : goal.returns
returns c = in_week

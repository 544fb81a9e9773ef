use Rattle.rtk_convert.proofs.GpsLawsLemmas.{gps-messages-stay}
use Rattle.rtk_convert.proofs.laws.gps_messages_stay.Goals as goal

pub returns : goal.returns
returns c = gps-messages-stay

use Rattle.std.proofs.Common.{rules}
use Rattle.rtk_message.proofs.message.Message.station.Goals as goal

pub returns-in-Obs1004 : goal.returns-in-Obs1004
returns-in-Obs1004 c = search rules depth 5 fits 300

use Rattle.std.proofs.Common.{rules}
use Rattle.rtk_collect.proofs.stations.keep_station_message.Goals as goal

pub returns-in-Some : goal.returns-in-Some
returns-in-Some g c = search rules depth 5 fits 300

pub returns-then-full : goal.returns-then-full
returns-then-full g c = search rules depth 5 fits 300

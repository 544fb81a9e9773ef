use Rattle.std.proofs.Common.{rules}
use Rattle.rtk_convert.proofs.conversion.count_message.Goals as goal

pub returns-in-Late : goal.returns-in-Late
returns-in-Late c = search rules depth 5 fits 300

pub returns-in-Taken : goal.returns-in-Taken
returns-in-Taken c = search rules depth 5 fits 300

use Rattle.std.proofs.Common.{rules}
use Rattle.rtk_frame.proofs.stream.read_one.Goals as goal

pub returns-clause-at_end : goal.returns-clause-at_end
returns-clause-at_end g c = search rules depth 5 fits 300

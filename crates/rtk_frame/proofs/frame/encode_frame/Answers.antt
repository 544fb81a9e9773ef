use Rattle.std.proofs.Common.{rules}
use Rattle.rtk_frame.proofs.frame.encode_frame.Goals as goal

pub returns-clause-frame : goal.returns-clause-frame
returns-clause-frame c = search rules depth 5 fits 300

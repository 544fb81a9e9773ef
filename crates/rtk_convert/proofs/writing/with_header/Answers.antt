use Rattle.std.proofs.Common.{rules}
use Rattle.rtk_convert.proofs.writing.with_header.Goals as goal

pub returns : goal.returns
returns c = search rules depth 5 fits 300

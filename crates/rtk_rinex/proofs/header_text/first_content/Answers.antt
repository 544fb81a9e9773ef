use Rattle.std.proofs.Common.{rules}
use Rattle.rtk_rinex.proofs.header_text.first_content.Goals as goal

pub returns-clause-value : goal.returns-clause-value
returns-clause-value c = search rules depth 5 fits 300

use Rattle.rtk_rinex.proofs.LineLemmas.{ends-line}
use Rattle.rtk_rinex.proofs.header_check.line_end.Goals as goal

pub returns-clause-line : goal.returns-clause-line
returns-clause-line c = ends-line c.args.text.now c.memchr.result c.memchr.ensures

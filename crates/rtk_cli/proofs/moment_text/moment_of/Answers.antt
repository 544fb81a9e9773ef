use Rattle.rtk_cli.proofs.MomentTextLemmas.{writes}
use Rattle.rtk_cli.proofs.moment_text.moment_of.Goals as goal

pub returns-clause-moment : goal.returns-clause-moment
returns-clause-moment c = writes c.of_civil.result c.args.text.now c.in-Some.reading c.in-Some.ensures.0 c.in-Some.ensures.1 c.of_civil.ensures

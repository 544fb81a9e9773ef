use Rattle.std.proofs.Common.{refl}
use Rattle.rtk_cli.proofs.MomentTextLemmas.{no-moment}
use Rattle.rtk_cli.proofs.option_texts.moment_said.Goals as goal

pub returns-in-None-clause-cause : goal.returns-in-None-clause-cause
returns-in-None-clause-cause c = (refl, no-moment c.args.text.now c.as_bytes.result.now c.as_bytes.ensures.value c.in-None.ensures.moment)

use Rattle.rtk_cli.proofs.LabelPassingLemmas.{pass-labelled}
use Rattle.rtk_cli.proofs.laws.files_pass_labelled.Goals as goal

pub returns : goal.returns
returns g c = pass-labelled g.W.Write.contents c.files_are_long.ensures

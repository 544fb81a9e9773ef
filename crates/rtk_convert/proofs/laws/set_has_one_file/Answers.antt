use Rattle.rtk_convert.proofs.HeadlineLemmas.{set-has-one-file}
use Rattle.rtk_convert.proofs.laws.set_has_one_file.Goals as goal

pub returns : goal.returns
returns c = set-has-one-file

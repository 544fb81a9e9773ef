use Rattle.rtk_cut.proofs.LawLemmas.{own-step_gives_file}
use Rattle.rtk_cut.proofs.laws.own_step_gives_file.Goals as goal

pub returns : goal.returns
returns c = own-step_gives_file

use Rattle.rtk_survey.proofs.FourLemmas.{four-name-none}
use Rattle.rtk_survey.proofs.laws.four_need_no_option.Goals as goal

pub returns : goal.returns
returns c = four-name-none

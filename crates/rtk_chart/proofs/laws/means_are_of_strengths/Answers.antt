use Rattle.rtk_chart.proofs.StrengthLemmas.{means-are}
use Rattle.rtk_chart.proofs.laws.means_are_of_strengths.Goals as goal

pub returns : goal.returns
returns c = means-are

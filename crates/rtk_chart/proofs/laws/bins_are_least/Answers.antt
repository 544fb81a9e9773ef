use Rattle.rtk_chart.proofs.LawLemmas.{shorter-too-many}
use Rattle.rtk_chart.proofs.ScaleLemmas.{bins-few}
use Rattle.rtk_chart.proofs.laws.bins_are_least.Goals as goal

pub returns-clause-few : goal.returns-clause-few
returns-clause-few c = λ span unit allowed long some. bins-few span unit allowed some long

pub returns-clause-least : goal.returns-clause-least
returns-clause-least c = shorter-too-many

use Rattle.rtk_chart.proofs.FileLemmas.{tables-have-numbers}
use Rattle.rtk_chart.proofs.laws.files_have_numbers.Goals as goal

pub returns : goal.returns
returns c = tables-have-numbers

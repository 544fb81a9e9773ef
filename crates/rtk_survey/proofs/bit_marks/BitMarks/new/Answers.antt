use Rattle.rtk_survey.proofs.BitMarkLemmas.{none-marked}
use Rattle.rtk_survey.proofs.bit_marks.BitMarks.new.Goals as goal

pub returns : goal.returns
returns g c = none-marked g.row.WORDS

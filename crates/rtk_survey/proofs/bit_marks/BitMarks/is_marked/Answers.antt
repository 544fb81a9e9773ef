use Rattle.rtk_survey.proofs.BitMarkLemmas.{marked-by-shift}
use Rattle.rtk_survey.proofs.bit_marks.BitMarks.is_marked.Goals as goal

pub returns : goal.returns
returns g c = marked-by-shift c.args.self.now.words c.args.place

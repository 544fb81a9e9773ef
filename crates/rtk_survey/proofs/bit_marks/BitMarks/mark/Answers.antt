use Rattle.std.proofs.Common.{◌≡◌, ◌/◌, ◌<◌, length, arith, rules}
use Rattle.rtk_survey.proofs.BitMarkLemmas.{marked-more}
use Rattle.rtk_survey.proofs.bit_marks.BitMarks.mark.Goals as goal

pub returns : goal.returns
returns g c = λ n.
    let size : length c.args.self.now.words ≡ g.row.WORDS = search rules in
    marked-more c.args.self.now.words c.args.place n (omega (arith, size, c.requires))

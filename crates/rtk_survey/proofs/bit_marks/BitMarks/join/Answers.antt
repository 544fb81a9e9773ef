use Rattle.std.proofs.Common.{◌≡◌, ◌<◌, ◌∙◌, ℕ, List, length, arith, rules}
use Rattle.std.proofs.lemmas.List.{length-set}
use Rattle.rtk_survey.proofs.BitMarkLemmas.{joined-marks, word-joined, words-left}
use Rattle.rtk_survey.proofs.bit_marks.BitMarks.join.Goals as goal

pub loop-k-preserved : goal.loop-k-preserved
loop-k-preserved g c =
    let i = c.loop-k.invariant in
    let now : List ℕ = c.loop-k.self.words in
    let k : ℕ = c.loop-k.k in
    let within : k < length now = omega arith in
    record {
      size = length-set now k _ ∙ i.size;
      joined = word-joined c.args.self.now.words c.args.more.now.words now k within i.joined i.left;
      left = words-left c.args.self.now.words now k _ i.left;
    }

pub returns : goal.returns
returns g c = λ n.
    let i = c.loop-k.invariant in
    let old : length c.args.self.now.words ≡ g.row.WORDS = search rules in
    let more : length c.args.more.now.words ≡ g.row.WORDS = search rules in
    joined-marks c.args.self.now.words c.args.more.now.words c.loop-k.self.words g.row.WORDS old more i.size
    (λ k lt. i.joined k (omega (arith, lt, c.loop-k-test.false))) n

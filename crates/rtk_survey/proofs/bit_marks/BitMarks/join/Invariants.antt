use Rattle.std.proofs.Common.{◌≡◌, ◌<◌, ◌≤◌, ℕ, length, get_or, bit_or}
use Rattle.rtk_survey.proofs.bit_marks.BitMarks.join.Given as goal

abbrev pub invariant-loop-k : goal.invariant-loop-k
invariant-loop-k g l = record {
  size : length l.self.words ≡ g.row.WORDS;
  joined : (n : ℕ) → n < l.k → get_or l.self.words n 0 ≡ bit_or (get_or l.fn.self.words n 0) (get_or l.more.words n 0);
  left : (n : ℕ) → l.k ≤ n → get_or l.self.words n 0 ≡ get_or l.fn.self.words n 0;
}

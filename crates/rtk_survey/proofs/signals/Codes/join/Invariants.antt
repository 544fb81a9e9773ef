use Rattle.std.proofs.Common.{◌≡◌, ◌<◌, ◌≤◌, ◌||◌, ℕ, false, length, get_or}
use Rattle.rtk_survey.proofs.signals.Codes.join.Given as goal

abbrev pub invariant-loop-place : goal.invariant-loop-place
invariant-loop-place l = record {
  size : length l.self.marks ≡ length l.fn.self.marks;
  joined : (n : ℕ) → n < l.place → get_or l.self.marks n false ≡ (get_or l.more.marks n false || get_or l.fn.self.marks n false);
  left : (n : ℕ) → l.place ≤ n → get_or l.self.marks n false ≡ get_or l.fn.self.marks n false;
}

use Rattle.std.proofs.Common.{◌≡◌, ℕ, Bool, false, ◌&&◌}
use Rattle.std.specs.List.{list_any, range_with_len}
use Rattle.rtk_tracking.specs.Standing.{AreMarked}
use Rattle.rtk_chart.specs.Grid.{marks_at}
use Rattle.rtk_chart.proofs.signs.is_missing.Given as goal

abbrev pub invariant-loop-code : goal.invariant-loop-code
invariant-loop-code l =
    (has : ℕ → Bool) → AreMarked l.had has → list_any (λ code. has code && (marks_at code l.tracking).missing) (range_with_len 0 l.code) ≡ false

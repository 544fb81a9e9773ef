use Rattle.std.proofs.Common.{◌≡◌, ◌<◌, ◌||◌, ℕ, false, cond, ltb, get_or}
use Rattle.rtk_tracking.specs.Epochs.{shows_phase}
use Rattle.rtk_tracking.proofs.passes.add_phases.Given as goal

abbrev pub invariant-loop-place : goal.invariant-loop-place
invariant-loop-place l =
    (k : ℕ) → k < 16 → get_or l.had k false ≡ cond (ltb k l.place) (shows_phase k l.observed || get_or l.fn.had k false) (get_or l.fn.had k false)

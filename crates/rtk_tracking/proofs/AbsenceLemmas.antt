-- Absences in a thinned file, and by a clock that is not steered.
use Rattle.std.proofs.Common.{◌≡◌, ◌<◌, ◌≤◌, ◌+◌, ◌*◌, ℕ, Some, ◌⊎◌, inl, inr, sym, ◌∙◌, arith}
use Rattle.std.proofs.lemmas.Bool.{cases_lt, lt-ltb, le-ltb}
use Rattle.std.proofs.Math.Nat.{mul-le-mul_right, add-mul}
use Rattle.rtk_tracking.specs.Interval.{nearness_of}
use Rattle.rtk_tracking.specs.Passes.{absence_of, is_longer}
use Rattle.rtk_tracking.specs.Laws.{IsThinned, ThinningChangesLess, ThinningKeepsVerdicts, IsBeside, ClockChangesNone}

pub changes-less : ThinningChangesLess
changes-less interval step last next last_step next_step thinned =
    let some = thinned.some in
    let longer = thinned.longer in
    let away = thinned.away in
    let before = thinned.before in
    let last_before = thinned.last_before in
    let after = thinned.after in
    let first_after = thinned.first_after in
    record {
      shorter = omega (arith, some, longer, away, before, after);
      longer = omega (arith, some, longer, away, last_before, first_after);
    }

-- the nearness of a longer interval is no less
nearer : (interval step : ℕ) → interval ≤ step → nearness_of (Some interval) ≤ nearness_of (Some step)
nearer interval step longer = omega (arith, longer)

-- the absence in the thinned file is an interval longer at least than a step less than the absence
at-least : (interval step last next last_step next_step : ℕ) → IsThinned interval step last next last_step next_step
    → absence_of (Some interval) last next ≤ absence_of (Some step) last_step next_step + step
at-least interval step last next last_step next_step thinned =
    let less = changes-less interval step last next last_step next_step thinned in
    let shorter = less.shorter in
    omega (arith, shorter)

pub keeps-verdicts : ThinningKeepsVerdicts
keeps-verdicts longest interval step last next last_step next_step thinned =
    let less = changes-less interval step last next last_step next_step thinned in
    let shorter = less.shorter in
    let longer = less.longer in
    let near = nearer interval step thinned.longer in
    let some = thinned.some in
    record {
      short = λ few. (
        le-ltb (longest + 2 * nearness_of (Some interval)) (absence_of (Some interval) last next) (omega (arith, few)),
        le-ltb (longest + 2 * nearness_of (Some step)) (absence_of (Some step) last_step next_step) (omega (arith, few, longer)),
      );
      long = λ many. (
        lt-ltb (longest + 2 * nearness_of (Some interval)) (absence_of (Some interval) last next) (omega (arith, many, near, some, thinned.longer)),
        lt-ltb (longest + 2 * nearness_of (Some step)) (absence_of (Some step) last_step next_step) (omega (arith, many, shorter)),
      );
    }

-- ---- clocks

-- the absences of the same number of intervals, by the exact clock and by the other one
same-verdict : (interval longest span exact_last last next : ℕ) → 0 < interval
    → IsBeside (nearness_of (Some interval)) exact_last last → IsBeside (nearness_of (Some interval)) (exact_last + span) next
    → (longest + interval + interval ≤ span) ⊎ (span ≤ longest + interval)
    → is_longer (Some interval) longest last next ≡ is_longer (Some interval) longest exact_last (exact_last + span)
same-verdict interval longest span exact_last last next some at_last at_next (inl long) =
    let e1 = at_last.early in
    let l1 = at_last.late in
    let e2 = at_next.early in
    let l2 = at_next.late in
    lt-ltb (longest + 2 * nearness_of (Some interval)) (absence_of (Some interval) last next) (omega (arith, some, e1, l1, e2, l2, long))
    ∙ sym (lt-ltb (longest + 2 * nearness_of (Some interval)) (absence_of (Some interval) exact_last (exact_last + span)) (omega (arith, some, long)))
same-verdict interval longest span exact_last last next some at_last at_next (inr short) =
    let e1 = at_last.early in
    let l1 = at_last.late in
    let e2 = at_next.early in
    let l2 = at_next.late in
    le-ltb (longest + 2 * nearness_of (Some interval)) (absence_of (Some interval) last next) (omega (arith, some, e1, l1, e2, l2, short))
    ∙ sym (le-ltb (longest + 2 * nearness_of (Some interval)) (absence_of (Some interval) exact_last (exact_last + span)) (omega (arith, some, short)))

-- spans of whole intervals are at least an interval apart
apart : (interval intervals away : ℕ) → (intervals * interval + interval + interval ≤ away * interval) ⊎ (away * interval ≤ intervals * interval + interval)
apart interval intervals away = elim (cases_lt (intervals + 1) away) [
  | inl more ↦
      let least : intervals + 2 ≤ away = omega (arith, more) in
      let product = mul-le-mul_right interval least in
      let sum = add-mul intervals 2 interval in
      inl (omega (arith, product, sum))
  | inr few ↦
      let product = mul-le-mul_right interval few in
      let sum = add-mul intervals 1 interval in
      inr (omega (arith, product, sum))
]

pub clock-changes-none : ClockChangesNone
clock-changes-none interval intervals away exact_last last next some at_last at_next =
    same-verdict interval (intervals * interval) (away * interval) exact_last last next some at_last at_next (apart interval intervals away)

-- Laws of the interval, and of passes and outages.
use Rattle.std.specs.Prelude.{◌≡◌, ◌≤◌, ◌<◌, ℕ, ◌+◌, ◌*◌, ◌^◌, ◌==◌, ◌||◌, false, true, List, length, count_by, Option, Some, if◌then◌else◌}
use Rattle.rtk_tracking.specs.Interval.{IsInterval, interval_of, nearness_of}
use Rattle.rtk_tracking.specs.Passes.{Sighting, has_bit_0, absence_of, is_longer, is_rise, is_return, is_rise_or_return, is_slip}

-- the interval is the most frequent step, and of two alike the lesser one
abbrev pub IntervalIsMostFrequent : Type 0
IntervalIsMostFrequent = (steps : List ℕ) → IsInterval steps (interval_of steps)

-- how often a step is among these
abbrev pub times_among : List ℕ → ℕ → ℕ
times_among steps step = count_by (λ s. s == step) steps

-- a step is among these, none is more frequent, and none as frequent is less
pub record IsFirstOfMostFrequent (steps : List ℕ) (step : ℕ) : Type 0 where
  pub there : 0 < times_among steps step
  pub most : (s : ℕ) → times_among steps s ≤ times_among steps step
  pub least : (s : ℕ) → times_among steps s ≡ times_among steps step → step ≤ s

-- the interval is such a step, if there are fewer than 2^64
abbrev pub IntervalCameMostOften : Type 0
IntervalCameMostOften =
    (steps : List ℕ) (step : ℕ) → length steps < 2 ^ 64 → IsInterval steps (Some step) → IsFirstOfMostFrequent steps step

-- there is one such interval
abbrev pub OneInterval : Type 0
OneInterval = (steps : List ℕ) (one other : Option ℕ) → IsInterval steps one → IsInterval steps other → one ≡ other

-- ---- bits

-- each bit 0 is exactly one of three: a rise, a return or a slip
abbrev pub EachBitIsOneOfThree : Type 0
EachBitIsOneOfThree =
    (interval : Option ℕ) (place : ℕ) (before : List Sighting) (s : Sighting)
    → (if is_rise interval place before s then 1 else 0) + (if is_return interval place before s then 1 else 0) + (if is_slip interval place before s then 1 else 0)
    ≡ (if has_bit_0 place s.observed then 1 else 0)

-- a rise or a return is one of these two
abbrev pub RiseOrReturnIsEither : Type 0
RiseOrReturnIsEither =
    (interval : Option ℕ) (place : ℕ) (before : List Sighting) (s : Sighting)
    → is_rise_or_return interval place before s ≡ (is_rise interval place before s || is_return interval place before s)

-- ---- thinning

-- an absence of a file with this interval, from the phase at `last` to the one at `next`, and the same one in
-- the file that has the records at steps: of these the last one before the absence and the first one after it
-- have a phase
pub record IsThinned (interval step last next last_step next_step : ℕ) : Type 0 where
  pub some : 0 < interval
  pub longer : interval ≤ step
  pub away : last + interval ≤ next
  pub before : last_step ≤ last
  pub last_before : last + interval ≤ last_step + step
  pub after : next ≤ next_step
  pub first_after : next_step + interval ≤ next + step

-- an absence changes by less than the step
pub record ChangesByLess (interval step last next last_step next_step : ℕ) : Type 0 where
  pub shorter : absence_of (Some interval) last next < absence_of (Some step) last_step next_step + step
  pub longer : absence_of (Some step) last_step next_step < absence_of (Some interval) last next + step

abbrev pub ThinningChangesLess : Type 0
ThinningChangesLess =
    (interval step last next last_step next_step : ℕ) → IsThinned interval step last next last_step next_step
    → ChangesByLess interval step last next last_step next_step

-- an absence that is shorter or longer than so many ms by a step stays so, with the tolerance
pub record KeepsVerdict (longest interval step last next last_step next_step : ℕ) : Type 0 where
  pub short : absence_of (Some interval) last next + step ≤ longest
      → (is_longer (Some interval) longest last next ≡ false) × (is_longer (Some step) longest last_step next_step ≡ false)
  pub long : longest + 2 * nearness_of (Some step) + step ≤ absence_of (Some interval) last next
      → (is_longer (Some interval) longest last next ≡ true) × (is_longer (Some step) longest last_step next_step ≡ true)

abbrev pub ThinningKeepsVerdicts : Type 0
ThinningKeepsVerdicts =
    (longest interval step last next last_step next_step : ℕ) → IsThinned interval step last next last_step next_step
    → KeepsVerdict longest interval step last next last_step next_step

-- ---- clocks that are not steered

-- a moment lies at most so far beside another one
pub record IsBeside (near exact shown : ℕ) : Type 0 where
  pub early : exact ≤ shown + near
  pub late : shown ≤ exact + near

-- such a clock changes no verdict, if the longest absence is a whole number of intervals
abbrev pub ClockChangesNone : Type 0
ClockChangesNone =
    (interval intervals away exact_last last next : ℕ) → 0 < interval
    → IsBeside (nearness_of (Some interval)) exact_last last
    → IsBeside (nearness_of (Some interval)) (exact_last + away * interval) next
    → is_longer (Some interval) (intervals * interval) last next
    ≡ is_longer (Some interval) (intervals * interval) exact_last (exact_last + away * interval)

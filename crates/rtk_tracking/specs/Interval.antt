-- The interval of a file, the epochs that are missing by it, and how near to a moment an epoch counts
-- (this project's rule). The clocks of some receivers are not steered: their epochs lie some ms beside
-- whole intervals.
use Rattle.std.specs.Prelude.{◌≡◌, ◌≤◌, ◌<◌, ℕ, ◌+◌, ◌-◌, ◌/◌, ◌==◌, nat_lt, Bool, ◌&&◌, ◌||◌, if◌then◌else◌, List, [], ◌∷◌, ◌++◌, count_by, Option, None, Some, min}
use Rattle.rtk_rinex.specs.Record.{EpochTableView}
use Rattle.rtk_rinex.specs.Table.{WellFormedTable}
use Rattle.rtk_tracking.specs.Epochs.{capped, newest_first, newest_moment}

-- the step in ms from the epoch before; the first epoch has none
abbrev pub step_from : Option ℕ → ℕ → List ℕ
step_from None t = []
step_from (Some before) t = (t - before) ∷ []

-- the steps between epochs
abbrev pub steps_in : List EpochTableView → List ℕ
steps_in [] = []
steps_in (e ∷ before) = step_from (newest_moment before) e.time ++ steps_in before

-- how often a step is among these
abbrev pub times_of_step : ℕ → List ℕ → ℕ
times_of_step step steps = capped (count_by (λ s. s == step) steps)

-- formula
-- the most frequent step, the lesser of two alike
pub record IsMostFrequent (steps : List ℕ) (step : ℕ) : Type 0 where
  pub there : 0 < times_of_step step steps
  pub most : (s : ℕ) → times_of_step s steps ≤ times_of_step step steps
  pub lesser : (s : ℕ) → times_of_step s steps ≡ times_of_step step steps → step ≤ s

-- the interval: the most frequent step; with fewer than two epochs there is none
abbrev pub IsInterval : List ℕ → Option ℕ → Type 0
IsInterval steps None = steps ≡ []
IsInterval steps (Some step) = IsMostFrequent steps step

-- one more step: it overtakes the most frequent of these steps, or comes as often and is less
abbrev pub overtakes : ℕ → List ℕ → ℕ → Bool
overtakes step steps best =
    nat_lt (times_of_step best steps) (times_of_step step (step ∷ steps))
    || ((times_of_step step (step ∷ steps) == times_of_step best steps) && nat_lt step best)

-- the more frequent of the most frequent of these steps and one more step
abbrev pub more_frequent : ℕ → List ℕ → Option ℕ → Option ℕ
more_frequent step steps None = Some step
more_frequent step steps (Some best) = if overtakes step steps best then Some step else Some best

-- the interval of these steps, which is as IsInterval says
abbrev pub interval_of : List ℕ → Option ℕ
interval_of [] = None
interval_of (step ∷ steps) = more_frequent step steps (interval_of steps)

-- the interval of the epochs of a file, of GPS or of any systems
abbrev pub interval_of_epochs : List EpochTableView → Option ℕ
interval_of_epochs epochs = interval_of (steps_in (newest_first epochs))

-- the interval of a file
abbrev pub interval_of_file : WellFormedTable → Option ℕ
interval_of_file t = interval_of_epochs t.epochs

-- formula
-- how many intervals long a step is: the nearest whole number, of two alike the lesser one
abbrev pub nearest_intervals : ℕ → ℕ → ℕ
nearest_intervals interval step = (step + (interval - 1) / 2) / interval

-- formula
-- how many epochs are missing before the one at t: one less than its step has intervals
abbrev pub missing_before : ℕ → Option ℕ → ℕ → ℕ
missing_before interval None t = 0
missing_before interval (Some before) t = nearest_intervals interval (t - before) - 1

-- how many epochs are missing in a file
abbrev pub missing_in : ℕ → List EpochTableView → ℕ
missing_in interval [] = 0
missing_in interval (e ∷ before) = missing_in interval before + missing_before interval (newest_moment before) e.time

-- formula
-- how far in ms an epoch may lie from a moment and still counts as being there: a tenth of the interval,
-- and 25 ms at most
abbrev pub nearness_of : Option ℕ → ℕ
nearness_of None = 0
nearness_of (Some interval) = min 25 (interval / 10)

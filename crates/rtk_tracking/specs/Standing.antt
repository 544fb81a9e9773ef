-- What stands for the epochs that came.
use Rattle.std.specs.Prelude.{◌≡◌, ◌<◌, ℕ, Bool, false, List, [], get_or, Option, None, Some, unwrap_or}
use Rattle.std.specs.BTreeMap.{get, BTreeMap}
use Rattle.std.specs.Ordering.{nat_cmp}
use Rattle.rtk_rinex.specs.Record.{EpochTableView}
use Rattle.rtk_tracking.specs.Epochs.{newest_moment}
use Rattle.rtk_tracking.specs.Interval.{times_of_step, steps_in, IsMostFrequent}
use Rattle.rtk_tracking.specs.Passes.{Sighting, last_phase, had_phase, is_known, is_kept, kept_phase}
use Rattle.rtk_tracking.specs.declared.steps.Frequent.{Frequent}
use Rattle.rtk_tracking.specs.declared.steps.Steps.{Steps}
use Rattle.rtk_tracking.specs.declared.steps.StepCounts.{StepCounts}
use Rattle.rtk_tracking.specs.declared.passes.Pass.{Pass}
use Rattle.rtk_tracking.specs.declared.passes.Known.{Known}

-- how often each step came
abbrev pub CountsSteps : BTreeMap ℕ ℕ → List ℕ → Type 0
CountsSteps counts steps = (q : ℕ) → unwrap_or (get nat_cmp counts q) 0 ≡ times_of_step q steps

-- the most frequent step so far, and how often it came
abbrev pub IsFrequent : Option Frequent → List ℕ → Type 0
IsFrequent None steps = steps ≡ []
IsFrequent (Some f) steps = IsMostFrequent steps f.step × (f.count ≡ times_of_step f.step steps)

pub record StandsForSteps (s : Steps) (steps : List ℕ) : Type 0 where
  pub counts : CountsSteps s.counts steps
  pub frequent : IsFrequent s.frequent steps

-- the steps between these epochs, newest first, and the moment of the newest one
pub record StandsForStepsBetween (s : StepCounts) (es : List EpochTableView) : Type 0 where
  pub steps : StandsForSteps s.steps (steps_in es)
  pub last : s.last ≡ newest_moment es

-- each of 16 codes is marked if it passes a test
abbrev pub AreMarked : List Bool → (ℕ → Bool) → Type 0
AreMarked marks test = (place : ℕ) → place < 16 → get_or marks place false ≡ test place

-- a pass after what came of a satellite: its last phase, the codes that had one, and those that had one
-- since the last outage
pub record StandsForPass (p : Pass) (interval : Option ℕ) (before : List Sighting) : Type 0 where
  pub last : p.last_ms ≡ last_phase before
  pub had : AreMarked p.had (λ place. had_phase interval place before)
  pub kept : AreMarked p.kept (λ place. kept_phase interval place before)

-- which codes had a phase before an epoch, in its pass and since the last outage in it
pub record AreKnown (known : Known) (interval : Option ℕ) (before : List Sighting) (s : Sighting) : Type 0 where
  pub had : AreMarked known.had (λ place. is_known interval place before s)
  pub kept : AreMarked known.kept (λ place. is_kept interval place before s)

-- What the parts of a chart hold, tied to the epochs that came so far.
use Rattle.std.specs.Prelude.{◌≡◌, ◌<◌, ℕ, ◌+◌, Bool, false, ◌||◌, List, [], ◌∷◌, length, map, get_or, Option}
use Rattle.rtk_obs.specs.declared.code.Band.{Band}
use Rattle.rtk_rinex.specs.Record.{EpochTableView}
use Rattle.rtk_tracking.specs.Epochs.{capped, newest_moment}
use Rattle.rtk_tracking.specs.Passes.{sightings_of}
use Rattle.rtk_tracking.specs.Standing.{StandsForPass}
use Rattle.rtk_tracking.specs.declared.passes.Pass.{Pass}
use Rattle.rtk_chart.specs.Chart.{slips_at, returns_at, rises_at}
use Rattle.rtk_tracking.specs.Interval.{missing_in}
use Rattle.rtk_tracking.specs.Standing.{StandsForStepsBetween}
use Rattle.rtk_chart.specs.Grid.{bins_of, outages_of, gaps_of, recorded_of}
use Rattle.rtk_chart.specs.Means.{columns_of}
use Rattle.rtk_chart.specs.declared.survey.Survey.{Survey}
use Rattle.rtk_chart.specs.declared.scale.Scale.{Scale}
use Rattle.rtk_chart.specs.declared.grid.Grid.{Grid}

pub record StandsForSurvey (s : Survey) (es : List EpochTableView) : Type 0 where
  pub records : s.records ≡ capped (length es)
  pub steps : StandsForStepsBetween s.steps es

-- marks, one for each bin: those of before stay, and the bins that pass a test get one
pub record AddsMarks (test : ℕ → Bool) (old new : List Bool) : Type 0 where
  pub size : length new ≡ length old
  pub marked : (c : ℕ) → c < length old → get_or new c false ≡ (test c || get_or old c false)

-- which bins have a missing epoch, and how many epochs are missing
pub record StandsForMissing (g : Grid) (s : Scale) (es : List EpochTableView) : Type 0 where
  pub gaps : g.gaps.items ≡ gaps_of s es
  pub count : g.missing ≡ capped (missing_in s.unit es)

-- a grid counts the epochs that are missing before one more epoch
abbrev pub CountsMissing : Grid → Grid → Scale → EpochTableView → Type 0
CountsMissing old new s e =
    (es : List EpochTableView) → old.last ≡ newest_moment es → StandsForMissing old s es → StandsForMissing new s (e ∷ es)

-- the passes of the satellites 1 to 32 after these epochs
abbrev pub StandForPasses : List Pass → Option ℕ → List EpochTableView → Type 0
StandForPasses passes interval es = (place : ℕ) (d : Pass) → place < 32 → StandsForPass (get_or passes place d) interval (sightings_of (place + 1) es)

pub record StandsForGrid (g : Grid) (s : Scale) (listed : List (Option Band)) (es : List EpochTableView) : Type 0 where
  pub bins : g.bins.items ≡ bins_of s es
  pub missing : StandsForMissing g s es
  pub last : g.last ≡ newest_moment es
  pub recorded : g.recorded.items ≡ recorded_of s es
  pub passes : StandForPasses g.passes s.interval es
  pub outages : g.outages.items ≡ outages_of s es
  pub strengths : g.strengths.items ≡ columns_of s listed es
  pub slips : g.slips ≡ slips_at s es
  pub returns : g.returns ≡ returns_at s es
  pub rises : g.rises ≡ rises_at s es

-- an epoch without its rows
abbrev pub bare_epoch : EpochTableView → EpochTableView
bare_epoch e = record { time = e.time; rows = [] }

abbrev pub bare_epochs : List EpochTableView → List EpochTableView
bare_epochs es = map bare_epoch es

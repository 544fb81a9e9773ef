-- The records of a part that were noted so far.
use Rattle.std.specs.Prelude.{◌≡◌, List, ◌∷◌}
use Rattle.rtk_rinex.specs.Record.{EpochTableView}
use Rattle.rtk_tracking.specs.Epochs.{epochs_onto, newest_first}
use Rattle.rtk_tracking.specs.Standing.{StandsForStepsBetween}
use Rattle.rtk_tracking.specs.declared.steps.StepCounts.{StepCounts}
use Rattle.rtk_cut.specs.declared.part.Choice.{Choice}
use Rattle.rtk_cut.specs.Cut.{kept_after}

-- of the file's epochs these earlier ones came, newest first, and those are left; the counts stand for the part's among
-- the earlier ones, and the others of all that the part has are among those that are left
pub record HasNoted (steps : StepCounts) (choice : Choice) (earlier left all : List EpochTableView) : Type 0 where
  pub kept : List EpochTableView
  pub others : epochs_onto (kept_after choice earlier left) kept ≡ newest_first all
  pub stands : StandsForStepsBetween steps kept

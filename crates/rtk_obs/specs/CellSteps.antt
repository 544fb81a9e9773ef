-- Lists of steps over cells, the newest first, and the epochs of one satellite and code.
use Rattle.std.specs.Prelude.{ℕ, ◌<◌, Bool, ◌&&◌, ◌==◌, List, [], ◌∷◌, filter, if◌then◌else◌}
use Rattle.std.specs.List.{AllByRecursion}
use Rattle.rtk_obs.specs.declared.cell.Cell.{Cell}
use Rattle.rtk_obs.specs.declared.code.Code.{Code}
use Rattle.rtk_obs.specs.Code.{place_of}
use Rattle.rtk_obs.specs.Slip.{EpochCell, has_phase, epoch_cell}

-- a step over the cell of a satellite and code at an epoch
pub record Step : Type 0 where
  pub satellite : ℕ
  pub code : Code
  pub seen : EpochCell

abbrev pub step_of : ℕ → Code → ℕ → Cell → Step
step_of satellite code epoch cell = record { satellite = satellite; code = code; seen = epoch_cell epoch cell }

-- the step is one of this satellite and code
abbrev pub is_of : ℕ → Code → Step → Bool
is_of satellite code s = (s.satellite == satellite) && (place_of s.code == place_of code)

-- the epochs of a satellite and code in a list of steps
abbrev pub epoch_cells_of : ℕ → Code → List Step → List EpochCell
epoch_cells_of satellite code [] = []
epoch_cells_of satellite code (s ∷ steps) =
    if is_of satellite code s then s.seen ∷ epoch_cells_of satellite code steps else epoch_cells_of satellite code steps

-- the epochs fall: each is greater than all that stand after it
abbrev pub IsFalling : List EpochCell → Type 0
IsFalling [] = Unit {0}
IsFalling (e ∷ below) = AllByRecursion (λ b. b.epoch < e.epoch) below × IsFalling below

-- the epochs with a phase fall
abbrev pub PhasesFall : List EpochCell → Type 0
PhasesFall es = IsFalling (filter has_phase es)

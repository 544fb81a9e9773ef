-- Loss of lock of a phase (this project's rule, for bit 0 of the LLI of RINEX 3.05, Table A3).
use Rattle.std.specs.Prelude.{ℕ, ◌-◌, Bool, true, false, not, ◌||◌, ◌&&◌, nat_lt, Option, Some, None, is_some}
use Rattle.rtk_obs.specs.declared.cell.Cell.{Cell}
use Rattle.rtk_obs.specs.declared.cell.CellSource.{CellSource}
use Rattle.rtk_obs.specs.declared.cell.CellSource.TheVariants.{Legacy, Msm}
use Rattle.rtk_obs.specs.declared.track.Track.{Track}

-- the cell of one satellite and code at an epoch, in ms
pub record EpochCell : Type 0 where
  pub epoch : ℕ
  pub cell : Cell

abbrev pub has_phase : EpochCell → Bool
has_phase e = is_some e.cell.phase_millicycles

abbrev pub is_legacy : CellSource → Bool
is_legacy Legacy = true
is_legacy Msm = false

-- both come in the same kind of message
abbrev pub is_same_source : CellSource → CellSource → Bool
is_same_source Legacy s = is_legacy s
is_same_source Msm s = not (is_legacy s)

-- formula
-- the lock time is shorter than the time since the last phase, or the last phase came in the same
-- kind of message, with a longer lock time
abbrev pub has_slipped : Track → EpochCell → Bool
has_slipped last e =
    nat_lt e.cell.lock_time_ms (e.epoch - last.epoch)
    || (is_same_source e.cell.source last.source && nat_lt e.cell.lock_time_ms last.lock_time_ms)

-- formula
-- there is no slip if there is no earlier phase
abbrev pub slip_since : Option Track → EpochCell → Bool
slip_since None e = false
slip_since (Some last) e = has_slipped last e

abbrev pub epoch_cell : ℕ → Cell → EpochCell
epoch_cell epoch cell = record { epoch = epoch; cell = cell }

-- What a conversion knows of the epochs that were closed.
use Rattle.std.specs.Prelude.{◌≡◌, ℕ, Bool, List, Option, is_some}
use Rattle.rtk_obs.specs.declared.any_code.AnyCode.{AnyCode}
use Rattle.rtk_obs.specs.declared.signal_cells.SignalEntry.{SignalEntry}
use Rattle.rtk_obs.specs.declared.track.Track.{Track}
use Rattle.rtk_collect.specs.EpochSet.{EpochSetView}
use Rattle.rtk_convert.specs.File.{first_time, record_count}
use Rattle.rtk_convert.specs.LastPhases.{HasLastPhases}

pub record ClosedEpochsView : Type 0 where
  -- the last phase of each satellite and code
  pub tracks : List (Option Track)
  -- the header is out
  pub is_header_out : Bool
  -- how many records are out
  pub count : ℕ

-- these are the closed epochs, falling: each satellite and code has its last phase, the header is
-- written once one of them has a record, and their records are counted
pub record HasClosed (c : ClosedEpochsView) (doppler : Bool) (listed : List AnyCode) (epochs : List (EpochSetView SignalEntry)) : Type 0 where
  pub phases : HasLastPhases c.tracks epochs
  pub is_header_out : c.is_header_out ≡ is_some (first_time doppler listed epochs)
  pub count : c.count ≡ record_count doppler listed epochs

use Rattle.std.proofs.Common.{◌≡◌, ◌<◌, ◌+◌, ℕ, List, length, get_or}
use Rattle.rtk_rinex.specs.Record.{EpochTableView}
use Rattle.rtk_tracking.specs.Epochs.{newest_moment}
use Rattle.rtk_tracking.specs.Passes.{sightings_of}
use Rattle.rtk_chart.specs.Epochs.{sighting_of}
use Rattle.rtk_chart.specs.Grid.{no_tracking}
use Rattle.rtk_chart.specs.Steps.Standing.{StandForPasses}
use Rattle.rtk_chart.specs.Steps.Shown.{tracking_of}
use Rattle.rtk_chart.proofs.time_bin.TimeBin.call_for.Given as goal

abbrev pub invariant-loop-place : goal.invariant-loop-place
invariant-loop-place l = record {
  size : length l.self.satellites ≡ 32;
  filled : (before : List EpochTableView) → StandForPasses l.passes l.interval before → l.record_ms ≡ newest_moment before → (k : ℕ) → k < l.place
      → get_or l.self.satellites k no_tracking ≡ tracking_of l.interval (sightings_of (k + 1) before) (sighting_of (k + 1) l.epoch);
}

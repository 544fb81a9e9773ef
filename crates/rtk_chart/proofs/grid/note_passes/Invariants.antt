use Rattle.std.proofs.Common.{◌≡◌, ◌<◌, ◌+◌, ℕ, ◌∷◌, List, cond, ltb, length, get_or}
use Rattle.rtk_rinex.specs.Record.{EpochTableView}
use Rattle.rtk_tracking.specs.Epochs.{newest_moment}
use Rattle.rtk_tracking.specs.Passes.{sightings_of}
use Rattle.rtk_tracking.specs.Standing.{StandsForPass}
use Rattle.rtk_tracking.specs.declared.passes.Pass.{Pass}
use Rattle.rtk_chart.specs.Steps.Standing.{StandForPasses}
use Rattle.rtk_chart.proofs.grid.note_passes.Given as goal

abbrev pub invariant-loop-place : goal.invariant-loop-place
invariant-loop-place l = record {
  size : length l.passes ≡ 32;
  noted : (es : List EpochTableView) → StandForPasses l.fn.passes l.interval es → l.record_ms ≡ newest_moment es → (k : ℕ) (d : Pass) → k < 32
      → StandsForPass (get_or l.passes k d) l.interval (cond (ltb k l.place) (sightings_of (k + 1) (l.epoch ∷ es)) (sightings_of (k + 1) es));
}

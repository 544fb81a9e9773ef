use Rattle.std.proofs.Common.{◌≡◌, ◌<◌, ℕ, false, List, length, get_or}
use Rattle.rtk_rinex.specs.Record.{EpochTableView}
use Rattle.rtk_tracking.specs.Epochs.{newest_moment}
use Rattle.rtk_chart.specs.Grid.{outages_of}
use Rattle.rtk_chart.specs.Steps.Standing.{StandForPasses}
use Rattle.rtk_chart.proofs.GridLemmas.{out_up_to}
use Rattle.rtk_chart.proofs.outages.note_outages.Given as goal

abbrev pub invariant-loop-place : goal.invariant-loop-place
invariant-loop-place l = record {
  size : length l.outages.items ≡ length l.fn.outages.items;
  noted : (es : List EpochTableView) → StandForPasses l.passes l.scale.interval es → l.record_ms ≡ newest_moment es → l.fn.outages.items ≡ outages_of l.scale es
      → (slot : ℕ) → slot < length l.outages.items → get_or l.outages.items slot false ≡ out_up_to l.scale l.epoch es l.place slot;
}

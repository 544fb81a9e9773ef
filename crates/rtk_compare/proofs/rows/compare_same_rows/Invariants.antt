use Rattle.std.proofs.Common.{ℕ, List}
use Rattle.rtk_rinex.specs.declared.epoch_table.SatelliteRow.{SatelliteRow}
use Rattle.rtk_compare.specs.declared.shared_codes.SharedCode.{SharedCode}
use Rattle.rtk_compare.specs.Pairs.{Pair, side_by_side, by_satellite}
use Rattle.rtk_compare.specs.Steps.Readers.{AreRowsOf, rows_left}
use Rattle.rtk_compare.specs.Steps.SharedCodes.{HasShared}
use Rattle.rtk_compare.specs.Steps.Tracks.{AreTracks, AreTracksOf}
use Rattle.rtk_compare.specs.Steps.Rows.{Rise}
use Rattle.rtk_compare.proofs.RowsLemmas.{HasCompared}
use Rattle.rtk_compare.proofs.rows.compare_same_rows.Given as goal

abbrev pub invariant-loop-side : goal.invariant-loop-side
invariant-loop-side l = record {
  size : AreTracks l.tracks;
  compared : (codes : ℕ → List SharedCode) (earlier : List (List (Pair SatelliteRow))) (olds news : List SatelliteRow)
      → HasShared l.shared codes → AreTracksOf l.fn.tracks codes earlier → AreRowsOf l.fn.rows olds → AreRowsOf l.fn.rows news → Rise olds → Rise news
      → HasCompared l.time codes earlier (side_by_side by_satellite olds news) l.fn.findings l.findings l.tracks l.both l.both;
}

abbrev pub decreases-loop-side : goal.decreases-loop-side
decreases-loop-side l = rows_left l.both

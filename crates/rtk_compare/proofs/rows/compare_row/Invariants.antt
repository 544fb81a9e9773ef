use Rattle.std.proofs.Common.{◌≡◌, ◌<◌, ◌≤◌, ◌+◌, ◌*◌, ℕ, List, ◌∷◌, ◌++◌, take, get_or}
use Rattle.std.specs.Prelude.{◌⊎◌, flat_map}
use Rattle.rtk_rinex.specs.declared.epoch_table.Observed.{Observed}
use Rattle.rtk_rinex.specs.declared.epoch_table.SatelliteRow.{SatelliteRow}
use Rattle.rtk_compare.specs.declared.shared_codes.SharedCode.{SharedCode}
use Rattle.rtk_compare.specs.Pairs.{Pair}
use Rattle.rtk_compare.specs.Differences.{Adds}
use Rattle.rtk_compare.specs.Records.{cells_of, cells_before}
use Rattle.rtk_compare.specs.Steps.Tracks.{no_track, track_at, IsTrackOf, AreTracks, AreTracksAt, lines_if_told}
use Rattle.rtk_compare.specs.Steps.Rows.{row_view, place_at, gone_line}
use Rattle.rtk_compare.proofs.rows.compare_row.Given as goal

abbrev pub invariant-loop-k : goal.invariant-loop-k
invariant-loop-k l = record {
  size : AreTracks l.tracks;
  lines : (shared : ℕ → List SharedCode) (earlier : List (List (Pair SatelliteRow))) → l.codes ≡ shared l.row.satellite → AreTracksAt l.fn.tracks shared earlier l.row.satellite
      → Adds l.fn.findings l.findings (gone_line l.time (row_view l.row)
      ++ flat_map (λ (code : SharedCode). lines_if_told code.shifts (place_at l.time (row_view l.row) code) (cells_before l.row.satellite code earlier) (cells_of code (row_view l.row))) (take l.k l.codes));
  own : (j : ℕ) (code : SharedCode) (es : List (Pair Observed)) → j < l.k → IsTrackOf (track_at l.fn.tracks l.row.satellite j) es
      → IsTrackOf (track_at l.tracks l.row.satellite j) (cells_of (get_or l.codes j code) (row_view l.row) ∷ es);
  others : (n : ℕ) → (n < 16 * l.row.satellite) ⊎ (16 * l.row.satellite + l.k ≤ n) → get_or l.tracks n no_track ≡ get_or l.fn.tracks n no_track;
}

-- The differences of the records of two files. What is gone with something greater is not told again: values
-- with their satellite, and satellites with their epoch.
use Rattle.std.specs.Prelude.{ℕ, ◌==◌, if◌then◌else◌, List, [], ◌∷◌, ◌++◌, length, map, flat_map}
use Rattle.rtk_rinex.specs.declared.epoch_table.Observed.{Observed}
use Rattle.rtk_rinex.specs.declared.epoch_table.SatelliteRow.{SatelliteRow}
use Rattle.rtk_rinex.specs.Record.{EpochTableView}
use Rattle.rtk_tracking.specs.Epochs.{shown_at}
use Rattle.rtk_compare.specs.declared.difference.Class.TheVariants.{Lost}
use Rattle.rtk_compare.specs.declared.difference.What.TheVariants as what
use Rattle.rtk_compare.specs.declared.difference.Difference.{Difference}
use Rattle.rtk_compare.specs.declared.shared_codes.SharedCode.{SharedCode}
use Rattle.rtk_compare.specs.Places.{at_epoch, at_satellite, at_signal}
use Rattle.rtk_compare.specs.Pairs.{Pair, by_time, by_satellite, side_by_side, rows_beside}
use Rattle.rtk_compare.specs.Cells.{cell_lines}

-- what the rows of a satellite show of a code
abbrev pub cells_of : SharedCode → Pair SatelliteRow → Pair Observed
cells_of k p = record { old = shown_at k.old p.old.observed.items; new = shown_at k.new p.new.observed.items }

-- the rows of a satellite among rows side by side, without a value if there are none
abbrev pub rows_of : ℕ → List (Pair SatelliteRow) → Pair SatelliteRow
rows_of s [] = record { old = by_satellite.without (record { satellite = s; observed = record { items = [] } }); new = record { satellite = s; observed = record { items = [] } } }
rows_of s (p ∷ ps) = if p.old.satellite == s then p else rows_of s ps

-- the cells of a satellite and code at earlier moments
abbrev pub cells_before : ℕ → SharedCode → List (List (Pair SatelliteRow)) → List (Pair Observed)
cells_before s k earlier = map (λ rows. cells_of k (rows_of s rows)) earlier

-- the differences of the rows of a satellite at a moment, after rows of earlier moments, newest first
abbrev pub row_lines : (ℕ → List SharedCode) → List (List (Pair SatelliteRow)) → ℕ → Pair SatelliteRow → List Difference
row_lines shared earlier time p =
    if length p.old.observed.items == 0 then []
    else if length p.new.observed.items == 0 then record { class = Lost; what = what.Satellite; place = at_satellite time p.old.satellite } ∷ []
    else flat_map (λ k. cell_lines k.shifts (cells_before p.old.satellite k earlier) (cells_of k p) (at_signal time p.old.satellite k.code)) (shared p.old.satellite)

-- the differences of the epochs of a moment
abbrev pub epoch_lines : (ℕ → List SharedCode) → List (List (Pair SatelliteRow)) → Pair EpochTableView → List Difference
epoch_lines shared earlier p =
    if length p.old.rows == 0 then []
    else if length p.new.rows == 0 then record { class = Lost; what = what.Epoch; place = at_epoch p.old.time } ∷ []
    else flat_map (row_lines shared earlier p.old.time) (rows_beside p)

-- the differences of epochs side by side, after rows of earlier moments, newest first
abbrev pub lines_after : (ℕ → List SharedCode) → List (List (Pair SatelliteRow)) → List (Pair EpochTableView) → List Difference
lines_after shared earlier [] = []
lines_after shared earlier (p ∷ ps) = epoch_lines shared earlier p ++ lines_after shared (rows_beside p ∷ earlier) ps

-- the differences of the epochs of two files
abbrev pub record_lines : (ℕ → List SharedCode) → List EpochTableView → List EpochTableView → List Difference
record_lines shared olds news = lines_after shared [] (side_by_side by_time olds news)

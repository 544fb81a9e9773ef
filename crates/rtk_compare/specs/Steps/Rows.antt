-- The rows of two records side by side, and what is remembered of them.
use Rattle.std.specs.Prelude.{◌≡◌, ℕ, ◌+◌, ◌*◌, ◌<◌, ◌≤◌, ◌==◌, ◌||◌, ◌&&◌, not, Bool, true, false, if◌then◌else◌, ◌⊎◌, List, [], ◌∷◌, length, flat_map, get_or, AllPairs, Option, None, Some}
use Rattle.rtk_rinex.specs.declared.epoch_table.Observed.{Observed}
use Rattle.rtk_rinex.specs.declared.epoch_table.SatelliteRow.{SatelliteRow}
use Rattle.rtk_compare.specs.declared.difference.Class.TheVariants.{Lost}
use Rattle.rtk_compare.specs.declared.difference.What.TheVariants as what
use Rattle.rtk_compare.specs.declared.difference.Place.{Place}
use Rattle.rtk_compare.specs.declared.difference.Difference.{Difference}
use Rattle.rtk_compare.specs.declared.rows.RowPair.{RowPair}
use Rattle.rtk_compare.specs.declared.findings.Findings.{Findings}
use Rattle.rtk_compare.specs.declared.row_reader.RowReader.{RowReader}
use Rattle.rtk_compare.specs.declared.shared_codes.SharedCode.{SharedCode}
use Rattle.rtk_compare.specs.declared.side.Side.{Side}
use Rattle.rtk_compare.specs.declared.side.Side.TheVariants.{Old, New, Both}
use Rattle.rtk_compare.specs.declared.track.Track.{Track}
use Rattle.rtk_compare.specs.Places.{at_satellite, at_signal}
use Rattle.rtk_compare.specs.Pairs.{Pair}
use Rattle.rtk_compare.specs.Cells.{told_if}
use Rattle.rtk_compare.specs.Differences.{Adds}
use Rattle.rtk_compare.specs.Records.{cells_of, row_lines}
use Rattle.rtk_compare.specs.Steps.Sides.{has_old, has_new}
use Rattle.rtk_compare.specs.Steps.Tracks.{no_track, track_at, IsTrackOf, AreTracksOf}

-- the rows of a satellite
abbrev pub row_view : RowPair → Pair SatelliteRow
row_view r =
    record {
      old = record { satellite = r.satellite; observed = record { items = r.old.now } };
      new = record { satellite = r.satellite; observed = record { items = r.new.now } };
    }

-- one of the rows shows nothing
abbrev pub is_alone : Pair SatelliteRow → Bool
is_alone p = (length p.old.observed.items == 0) || (length p.new.observed.items == 0)

-- where the differences of a code are told, if they are
abbrev pub place_at : Option ℕ → Pair SatelliteRow → SharedCode → Option Place
place_at None p k = None
place_at (Some time) p k = if is_alone p then None else Some (at_signal time p.old.satellite k.code)

-- the old file has a row of the satellite, and the new one has none
abbrev pub is_gone_row : Pair SatelliteRow → Bool
is_gone_row p = not (length p.old.observed.items == 0) && (length p.new.observed.items == 0)

abbrev pub gone_line : Option ℕ → Pair SatelliteRow → List Difference
gone_line None p = []
gone_line (Some time) p = told_if (is_gone_row p) Lost what.Satellite (at_satellite time p.old.satellite)

-- the differences of a satellite, if there is a time
abbrev pub lines_told : Option ℕ → (ℕ → List SharedCode) → List (List (Pair SatelliteRow)) → Pair SatelliteRow → List Difference
lines_told None shared earlier p = []
lines_told (Some time) shared earlier p = row_lines shared earlier time p

-- what the rows show of these codes is remembered, and nothing else changes
pub record NotesRow (old new : List Track) (codes : List SharedCode) (p : Pair SatelliteRow) : Type 0 where
  pub own : (k : ℕ) (code : SharedCode) (earlier : List (Pair Observed)) → k < length codes → IsTrackOf (track_at old p.old.satellite k) earlier
      → IsTrackOf (track_at new p.old.satellite k) (cells_of (get_or codes k code) p ∷ earlier)
  pub others : (n : ℕ) → (n < 16 * p.old.satellite) ⊎ (16 * p.old.satellite + length codes ≤ n) → get_or new n no_track ≡ get_or old n no_track

-- the satellite that comes next
abbrev pub next_view : Side → Option ℕ → Option ℕ → Option ℕ
next_view Old a b = a
next_view New a b = b
next_view Both a b = a

-- what a reader shows, if it has a row
abbrev pub observed_of : Bool → RowReader → List Observed
observed_of true r = r.observed.items
observed_of false r = []

-- the rows that come next
abbrev pub satellite_or_none : Option ℕ → ℕ
satellite_or_none None = 0
satellite_or_none (Some s) = s

abbrev pub row_with : ℕ → List Observed → SatelliteRow
row_with satellite observed = record { satellite = satellite; observed = record { items = observed } }

abbrev pub next_rows : Side → RowReader → RowReader → Pair SatelliteRow
next_rows side old new =
    record {
      old = row_with (satellite_or_none (next_view side old.satellite new.satellite)) (observed_of (has_old side) old);
      new = row_with (satellite_or_none (next_view side old.satellite new.satellite)) (observed_of (has_new side) new);
    }

-- the satellites rise
abbrev pub Rise : List SatelliteRow → Type 0
Rise rows = AllPairs (λ a b. a.satellite < b.satellite) rows

-- rows side by side were compared: their differences were added, and they are remembered
pub record ComparesRows (time : Option ℕ) (codes : ℕ → List SharedCode) (earlier : List (List (Pair SatelliteRow))) (rows : List (Pair SatelliteRow)) (before after : Findings) (noted : List Track) : Type 0 where
  pub lines : Adds before after (flat_map (lines_told time codes earlier) rows)
  pub tracks : AreTracksOf noted codes (rows ∷ earlier)

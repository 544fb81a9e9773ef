-- The codes of which satellites have no phase, code by code (this project's rule).
use Rattle.std.specs.Prelude.{ℕ, ◌+◌, ◌%◌, ◌==◌, Bool, ◌&&◌, List, [], ◌∷◌, ◌++◌, flat_map, count_by, Option, if◌then◌else◌}
use Rattle.std.specs.List.{range_with_len}
use Rattle.rtk_obs.specs.declared.any_code.AnyCode.{AnyCode}
use Rattle.rtk_obs.specs.AnyCode.{name_of}
use Rattle.rtk_rinex.specs.Record.{EpochTableView}
use Rattle.rtk_tracking.specs.Passes.{Sighting, sightings_of}
use Rattle.rtk_quality.specs.Quality.{numbers_of, is_in_file}
use Rattle.rtk_quality.specs.Rows.{satellite_mark}

-- a satellite of the file has no phase of the code at a place
abbrev pub is_without : Option ℕ → List Sighting → ℕ → Bool
is_without interval before at = is_in_file interval before && ((numbers_of interval before at).counts.phases == 0)

-- that of the satellite at a place, which is one less than its number
abbrev pub is_without_at : Option ℕ → List EpochTableView → ℕ → ℕ → Bool
is_without_at interval es at place = is_without interval (sightings_of (place + 1) es) at

-- how many satellites before a place have no phase of the code
unfoldable pub without_before : Option ℕ → List EpochTableView → ℕ → ℕ → ℕ
without_before interval es at place = count_by (is_without_at interval es at) (range_with_len 0 place)

-- formula
-- the end of a row, unless none has begun
abbrev pub row_end : ℕ → List ℕ
row_end n = if n == 0 then [] else 10 ∷ []

-- formula
-- what stands before a satellite that follows so many others: at the beginning of a row the code, as in 2W G27. A row
-- of 80 columns has 19 satellites behind a code.
abbrev pub row_start : AnyCode → ℕ → List ℕ
row_start code n = if n % 19 == 0 then row_end n ++ name_of code else []

-- formula
abbrev pub row_part : Option ℕ → List EpochTableView → AnyCode → ℕ → ℕ → List ℕ
row_part interval es code at place =
    if is_without_at interval es at place then row_start code (without_before interval es at place) ++ 32 ∷ satellite_mark (place + 1) else []

-- formula
-- the satellites that have no phase of a code
unfoldable pub never_row : ℕ → Option ℕ → List EpochTableView → ℕ → AnyCode → List ℕ
never_row most interval es at code = flat_map (row_part interval es code at) (range_with_len 0 most) ++ row_end (without_before interval es at most)

-- the codes from a place on
abbrev pub rows_from : ℕ → Option ℕ → List EpochTableView → ℕ → List AnyCode → List ℕ
rows_from most interval es at [] = []
rows_from most interval es at (c ∷ cs) = never_row most interval es at c ++ rows_from most interval es (at + 1) cs

unfoldable pub never_rows : ℕ → Option ℕ → List EpochTableView → List AnyCode → List ℕ
never_rows most interval es listed = rows_from most interval es 0 listed

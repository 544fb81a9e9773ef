-- Which captures are converted (this project's rule). A capture is named by its place among all, as they
-- are given, from 0.
use Rattle.std.specs.Prelude.{ℕ, ◌+◌, Bool, false, not, List, [], ◌∷◌, slice_get, if◌then◌else◌}
use Rattle.std.specs.Option.{option_map_or}
use Rattle.rtk_captures.specs.declared.station_capture.StationCapture.{StationCapture}

-- the capture has something of the station
abbrev pub is_heard : StationCapture → Bool
is_heard c = c.is_heard

-- the same of the capture at a place
abbrev pub is_heard_at : List StationCapture → ℕ → Bool
is_heard_at cs place = option_map_or is_heard (slice_get cs place) false

-- the places of the captures that pass a test; the first capture is at this place
abbrev pub places_from : ℕ → (StationCapture → Bool) → List StationCapture → List ℕ
places_from at test [] = []
places_from at test (c ∷ cs) = if test c then at ∷ places_from (at + 1) test cs else places_from (at + 1) test cs

-- the captures that have something of the station
abbrev pub kept_captures : List StationCapture → List ℕ
kept_captures cs = places_from 0 is_heard cs

-- those that have nothing of it
abbrev pub empty_captures : List StationCapture → List ℕ
empty_captures cs = places_from 0 (λ c. not (is_heard c)) cs

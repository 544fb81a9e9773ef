-- Where the captures say that the station is (this project's rule).
use Rattle.std.specs.Prelude.{ℕ, Bool, false, List, [], ◌∷◌, flat_map, Option, None, Some, codes, if◌then◌else◌}
use Rattle.std.specs.List.{list_any}
use Rattle.rtk_survey.specs.Points.{are_far}
use Rattle.rtk_captures.specs.declared.station_capture.StationCapture.{StationCapture}
use Rattle.rtk_survey.specs.declared.reference_point.ReferencePoint.{ReferencePoint}

-- the reference points of the station in a capture: the first one, and the first one that is far from it
abbrev pub points_of : StationCapture → List (Option ReferencePoint)
points_of c = c.point ∷ c.far_point ∷ []

abbrev pub points_in : List StationCapture → List (Option ReferencePoint)
points_in cs = flat_map points_of cs

-- ---- captures that differ

-- two positions, if both are known, are more than 100 m apart
abbrev pub are_points_apart : Option ReferencePoint → Option ReferencePoint → Bool
are_points_apart None b = false
are_points_apart (Some a) None = false
are_points_apart (Some a) (Some b) = are_far a b

-- one of these positions is far from one of those
abbrev pub some_apart : List (Option ReferencePoint) → List (Option ReferencePoint) → Bool
some_apart points others = list_any (λ p. list_any (are_points_apart p) others) points

-- captures have reference points of the station that are far from one another
abbrev pub some_are_far : List StationCapture → Bool
some_are_far cs = some_apart (points_in cs) (points_in cs)

-- ---- no position

-- formula
-- a header without a position has zeros
unfoldable pub no_position_line : Bool → List ℕ
no_position_line has_position =
    if has_position then [] else codes " no-position: the header has zeros, as no 1005 or 1006 came in time, or the first one has zeros\n"

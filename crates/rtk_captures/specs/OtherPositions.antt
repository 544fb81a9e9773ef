-- The captures that tell another position than the first one (this project's rule).
use Rattle.std.specs.Prelude.{ℕ, Bool, ◌||◌, List, [], ◌∷◌, slice_get, codes, Option, None, Some, if◌then◌else◌}
use Rattle.std.specs.Borrow.{Bor}
use Rattle.rtk_survey.specs.ReferencePoints.{first_point_or, is_other_point}
use Rattle.rtk_survey.specs.declared.reference_point.ReferencePoint.{ReferencePoint}
use Rattle.rtk_captures.specs.CaptureNames.{capture_name, lines_by}
use Rattle.rtk_captures.specs.Lists.{name_line}
use Rattle.rtk_captures.specs.declared.station_capture.StationCapture.{StationCapture}

abbrev pub position_if_any : Option StationCapture → Option ReferencePoint
position_if_any None = None
position_if_any (Some c) = c.point

-- the first position of the capture at a place
abbrev pub position_at : List StationCapture → ℕ → Option ReferencePoint
position_at cs place = position_if_any (slice_get cs place)

-- the first position that the captures of a link tell, and those of links
abbrev pub position_of_link : List StationCapture → List ℕ → Option ReferencePoint
position_of_link cs [] = None
position_of_link cs (place ∷ places) = first_point_or (position_at cs place) (position_of_link cs places)

abbrev pub position_of_links : List StationCapture → List (List ℕ) → Option ReferencePoint
position_of_links cs [] = None
position_of_links cs (link ∷ links) = first_point_or (position_of_link cs link) (position_of_links cs links)

-- a capture tells another position than the first one
abbrev pub tells_other_position : Option ReferencePoint → StationCapture → Bool
tells_other_position first c = c.has_other_point || is_other_point first c.point

-- formula
unfoldable pub other_position_line : Option ReferencePoint → StationCapture → List ℕ → List ℕ
other_position_line first c name = if tells_other_position first c then name_line (codes " other-position ") name else []

abbrev pub all_other_positions : List (Bor (List ℕ)) → List StationCapture → Option ReferencePoint → List ℕ
all_other_positions names cs first = lines_by (λ at c. other_position_line first c (capture_name names at)) 0 cs

-- the captures that tell another position than the first one of these links
abbrev pub other_position_lines : List (Bor (List ℕ)) → List StationCapture → List (List ℕ) → List ℕ
other_position_lines names cs links = all_other_positions names cs (position_of_links cs links)

-- How the captures of the station are grouped in links (this project's rule). A link is the list of the
-- places of its captures.
use Rattle.std.specs.Prelude.{ℕ, ◌-◌, ◌==◌, slice_get, Bool, not, List, [], ◌∷◌, length, map, filter, flat_map, Option, None, Some, if◌then◌else◌}
use Rattle.std.specs.List.{range_with_len}
use Rattle.rtk_survey.specs.declared.placing.Placed.{Placed}
use Rattle.rtk_captures.specs.Joining.{in_order, links_of}
use Rattle.rtk_captures.specs.declared.station_capture.StationCapture.{StationCapture}
use Rattle.rtk_captures.specs.declared.joining.Ordered.{Ordered}
use Rattle.rtk_captures.specs.Kept.{is_heard_at, kept_captures}

-- ---- captures that follow one another are joined

-- captures that have something of the station
abbrev pub kept_in_order : List StationCapture → List Ordered → List Ordered
kept_in_order cs os = filter (λ o. is_heard_at cs o.given) os

-- the captures of one link, in the order in which they are taken; `numbers` has the link of each capture
abbrev pub captures_of_link : ℕ → List Ordered → List ℕ → List ℕ
captures_of_link link [] numbers = []
captures_of_link link (o ∷ os) [] = []
captures_of_link link (o ∷ os) (n ∷ ns) =
    if n == link then o.given ∷ captures_of_link link os ns else captures_of_link link os ns

abbrev pub is_nonempty : List ℕ → Bool
is_nonempty places = not (length places == 0)

-- the links 0, 1 and so on to which captures go
abbrev pub joined_links : List Ordered → List (List ℕ)
joined_links os = filter is_nonempty (map (λ link. captures_of_link link os (links_of os)) (range_with_len 0 (length os)))

-- the links of captures with these dated epochs
abbrev pub links_found : List StationCapture → List (Option Placed) → List (List ℕ)
links_found cs placed = joined_links (kept_in_order cs (in_order placed))

-- ---- the last captures of links

abbrev pub last_of : List ℕ → Option ℕ
last_of places = slice_get places (length places - 1)

abbrev pub place_if_any : Option ℕ → List ℕ
place_if_any None = []
place_if_any (Some place) = place ∷ []

abbrev pub last_places : List ℕ → List ℕ
last_places link = place_if_any (last_of link)

abbrev pub last_captures : List (List ℕ) → List ℕ
last_captures links = flat_map last_places links

-- ---- each capture is a link

abbrev pub one_place : ℕ → List ℕ
one_place place = place ∷ []

abbrev pub links_as_given : List StationCapture → List (List ℕ)
links_as_given cs = map one_place (kept_captures cs)

-- The differences of the headers of two files. All of it is this project's rule.
use Rattle.std.specs.Prelude.{ℕ, nat_lt, ◌==◌, Bool, not, ◌&&◌, List, [], ◌++◌, flat_map, bytes_eq, pos, Option, None, Some}
use Rattle.std.specs.List.{list_any, range_with_len}
use Rattle.std.specs.Ordering.{int_eq}
use Rattle.rtk_obs.specs.declared.any_code.AnyCode.{AnyCode}
use Rattle.rtk_obs.specs.AnyCode.{number_of}
use Rattle.rtk_obs.specs.Carriers.{channel_at}
use Rattle.rtk_rinex.specs.Header.{PositionView}
use Rattle.rtk_rinex.specs.MixedHead.{GlonassView, MixedHeadView}
use Rattle.rtk_compare.specs.declared.difference.Class.TheVariants.{Lost, Changed}
use Rattle.rtk_compare.specs.declared.difference.What.{What}
use Rattle.rtk_compare.specs.declared.difference.What.TheVariants.{Marker, Position, Height, Code, Doppler, Channel, LeapSeconds}
use Rattle.rtk_compare.specs.declared.difference.Difference.{Difference}
use Rattle.rtk_compare.specs.Places.{in_header, at_code, at_slot}
use Rattle.rtk_compare.specs.Cells.{told_if, is_gone, is_other_number}

-- something that both can have or not is lost, or has changed
abbrev pub lines_of : Bool → Bool → Bool → What → List Difference
lines_of was is same what =
    told_if (was && not is) Lost what in_header ++ told_if (was && is && not same) Changed what in_header

-- zeros stand for a position that is not known
abbrev pub is_known : PositionView → Bool
is_known s = not (int_eq s.x (pos 0) && int_eq s.y (pos 0) && int_eq s.z (pos 0))

abbrev pub is_same_place : PositionView → PositionView → Bool
is_same_place s r = int_eq s.x r.x && int_eq s.y r.y && int_eq s.z r.z

abbrev pub position_differences : PositionView → PositionView → List Difference
position_differences s r =
    lines_of (is_known s) (is_known r) (is_same_place s r) Position
    ++ lines_of (nat_lt 0 s.height) (nat_lt 0 r.height) (s.height == r.height) Height

abbrev pub is_listed : AnyCode → List AnyCode → Bool
is_listed c listed = list_any (λ d. number_of c == number_of d) listed

-- codes that are not listed any more; their values are not told
abbrev pub code_line : AnyCode → List AnyCode → List Difference
code_line c news = told_if (not (is_listed c news)) Lost Code (at_code c)

abbrev pub code_lines : List AnyCode → List AnyCode → List Difference
code_lines olds news = flat_map (λ c. code_line c news) olds

-- the channel of a slot of GLONASS
abbrev pub slot_lines : GlonassView → GlonassView → ℕ → List Difference
slot_lines g h slot =
    told_if (is_gone (channel_at g.channels slot) (channel_at h.channels slot)) Lost Channel (at_slot slot)
    ++ told_if (is_other_number (channel_at g.channels slot) (channel_at h.channels slot)) Changed Channel (at_slot slot)

abbrev pub channel_lines : GlonassView → GlonassView → List Difference
channel_lines g h = flat_map (slot_lines g h) (range_with_len 1 27)

abbrev pub lines_of_told : GlonassView → GlonassView → List Difference
lines_of_told g h = channel_lines g h ++ told_if (not (g.leap_seconds == h.leap_seconds)) Changed LeapSeconds in_header

abbrev pub told_beside : GlonassView → Option GlonassView → List Difference
told_beside g None = []
told_beside g (Some h) = lines_of_told g h

-- what is told of GLONASS, if both files have its codes
abbrev pub glonass_differences : Option GlonassView → Option GlonassView → List Difference
glonass_differences None h = []
glonass_differences (Some g) h = told_beside g h

abbrev pub marker_lines : List ℕ → List ℕ → List Difference
marker_lines a b = told_if (not (bytes_eq a b)) Changed Marker in_header

-- the old file shows Doppler shifts, and the new one none; the values are not told
abbrev pub shifts_line : Bool → Bool → List Difference
shifts_line was is = told_if (was && not is) Lost Doppler in_header

-- the differences of two headers, of which these are the heads and the positions
abbrev pub header_lines : MixedHeadView → PositionView → MixedHeadView → PositionView → List Difference
header_lines h s g r =
    marker_lines h.marker g.marker
    ++ position_differences s r
    ++ code_lines h.listed g.listed
    ++ glonass_differences h.glonass g.glonass
    ++ shifts_line h.doppler g.doppler

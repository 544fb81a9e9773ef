-- The antenna reference point that the messages of a station tell (this project's rule). Lists of
-- messages are newest first.
use Rattle.std.specs.Prelude.{ℤ, ◌==◌, Bool, false, not, ◌&&◌, ◌||◌, unsigned_abs, List, [], ◌∷◌, Option, None, Some, if◌then◌else◌}
use Rattle.std.specs.Ordering.{int_eq}
use Rattle.rtk_message.specs.declared.any_message.AnyMessage.{AnyMessage}
use Rattle.rtk_message.specs.declared.any_message.AnyMessage.TheVariants as any
use Rattle.rtk_message.specs.declared.arp1005.Arp1005.{Arp1005 as Message1005}
use Rattle.rtk_message.specs.declared.message.Message.{Message}
use Rattle.rtk_message.specs.declared.message.Message.TheVariants.{Obs1004, Arp1005, Arp1006, Msm1074}
use Rattle.rtk_survey.specs.Points.{are_far}
use Rattle.rtk_survey.specs.declared.reference_point.ReferencePoint.{ReferencePoint}

-- formula
-- the antenna reference point (DF025 to DF027) of a message
abbrev pub point_of_arp : Message1005 → ReferencePoint
point_of_arp arp = record { x = arp.x; y = arp.y; z = arp.z }

-- formula
-- a station that does not know its position sends zeros
abbrev pub is_zero : ℤ → Bool
is_zero z = unsigned_abs z == 0

abbrev pub is_unknown : ReferencePoint → Bool
is_unknown p = is_zero p.x && (is_zero p.y && is_zero p.z)

abbrev pub known_point : ReferencePoint → Option ReferencePoint
known_point p = if is_unknown p then None else Some p

abbrev pub point_of_four : Message → Option ReferencePoint
point_of_four (Obs1004 m) = None
point_of_four (Arp1005 m) = known_point (point_of_arp m)
point_of_four (Arp1006 m) = known_point (point_of_arp m.arp)
point_of_four (Msm1074 m) = None

abbrev pub point_of : AnyMessage → Option ReferencePoint
point_of (any.Message m) = point_of_four m
point_of (any.Msm m) = None
point_of (any.Obs1012 m) = None

-- the first of two, if there is one
abbrev pub first_point_or : Option ReferencePoint → Option ReferencePoint → Option ReferencePoint
first_point_or None later = later
first_point_or (Some p) later = Some p

-- the reference point of the first 1005 or 1006 that has one
abbrev pub first_point : List AnyMessage → Option ReferencePoint
first_point [] = None
first_point (m ∷ before) = first_point_or (first_point before) (point_of m)

-- a point, if it is far from the first one
abbrev pub if_far : Option ReferencePoint → Option ReferencePoint → Option ReferencePoint
if_far None p = None
if_far (Some first) None = None
if_far (Some first) (Some p) = if are_far first p then Some p else None

-- the first reference point that is far from the first one
abbrev pub far_point : List AnyMessage → Option ReferencePoint
far_point [] = None
far_point (m ∷ before) = first_point_or (far_point before) (if_far (first_point before) (point_of m))

-- formula
-- two points differ in a coordinate
abbrev pub are_other : ReferencePoint → ReferencePoint → Bool
are_other a b = not (int_eq a.x b.x && (int_eq a.y b.y && int_eq a.z b.z))

-- a point is another one than the first
abbrev pub is_other_point : Option ReferencePoint → Option ReferencePoint → Bool
is_other_point None p = false
is_other_point (Some first) None = false
is_other_point (Some first) (Some p) = are_other first p

-- some 1005 or 1006 has another reference point than the first that has one
abbrev pub has_other_point : List AnyMessage → Bool
has_other_point [] = false
has_other_point (m ∷ before) = has_other_point before || is_other_point (first_point before) (point_of m)

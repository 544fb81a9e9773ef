-- The multiple signal messages (MSM) of the satellite systems: their numbers and their clocks.
-- Source: RTCM 10403.3, messages 1071 to 1137
use Rattle.std.specs.Prelude.{ℕ, ◌+◌, ◌*◌, ◌/◌, ◌%◌, ◌^◌, ◌==◌, Bool, false, ◌&&◌, ◌||◌, Option, Some, None, nat_lt, if◌then◌else◌}
use Rattle.rtk_message.specs.Fields.{week_ms, longest_day_ms}
use Rattle.rtk_message.specs.declared.msm_kind.MsmKind.{MsmKind}
use Rattle.rtk_message.specs.declared.msm_kind.MsmKind.TheVariants.{Msm4, Msm5, Msm6, Msm7}
use Rattle.rtk_message.specs.declared.msm_type.MsmType.{MsmType}
use Rattle.rtk_message.specs.declared.system.System.{System}
use Rattle.rtk_message.specs.declared.system.System.TheVariants.{Gps, Glonass, Galileo, Beidou, Qzss, Sbas, Navic}

-- ---- numbers

-- table
-- the message numbers (DF002) of a system without their last digit
abbrev pub tens_of : System → ℕ
tens_of Gps = 107
tens_of Glonass = 108
tens_of Galileo = 109
tens_of Sbas = 110
tens_of Qzss = 111
tens_of Beidou = 112
tens_of Navic = 113

-- table
-- the last digit of the message numbers of a kind
abbrev pub digit_of : MsmKind → ℕ
digit_of Msm4 = 4
digit_of Msm5 = 5
digit_of Msm6 = 6
digit_of Msm7 = 7

-- formula
-- the message number (DF002)
abbrev pub number_of_type : MsmType → ℕ
number_of_type t = 10 * tens_of t.system + digit_of t.kind

-- the type of GPS of this kind
abbrev pub gps : MsmKind → MsmType
gps k = record { system = Gps; kind = k }

-- formula
-- the message number (DF002) of this kind of GPS
abbrev pub number_of_kind : MsmKind → ℕ
number_of_kind k = number_of_type (gps k)

-- table
-- the system whose message numbers without their last digit are these
abbrev pub system_of_tens : ℕ → Option System
system_of_tens n =
    if n == 107 then Some Gps else if n == 108 then Some Glonass else if n == 109 then Some Galileo else
    if n == 110 then Some Sbas else if n == 111 then Some Qzss else if n == 112 then Some Beidou else
    if n == 113 then Some Navic else None

-- table
-- the kind whose message numbers have this last digit
abbrev pub kind_of_digit : ℕ → Option MsmKind
kind_of_digit n =
    if n == 4 then Some Msm4 else if n == 5 then Some Msm5 else if n == 6 then Some Msm6 else
    if n == 7 then Some Msm7 else None

-- the type of a system and a kind, if there are both
abbrev pub type_of_both : Option System → Option MsmKind → Option MsmType
type_of_both None k = None
type_of_both (Some s) None = None
type_of_both (Some s) (Some k) = Some (record { system = s; kind = k })

-- formula
-- the type of a message number (DF002), if it is the number of an MSM4 to MSM7
abbrev pub type_of_number : ℕ → Option MsmType
type_of_number n = type_of_both (system_of_tens (n / 10)) (kind_of_digit (n % 10))

-- ---- clocks

-- table
-- whether a clock tells a time. That of GLONASS is a day of the week (DF416, 3 bits; 7 is unknown) before a
-- time of day in ms (DF034, 27 bits), of a day that can end with a leap second; its day is known, or any day
-- is taken. That of any other system is a time of week in ms (DF004, DF248, DF427, DF428, DF004 and DF546)
abbrev pub tells_time : Bool → System → ℕ → Bool
tells_time any_day Gps c = nat_lt c week_ms
tells_time any_day Glonass c = (any_day || nat_lt (c / 2 ^ 27) 7) && nat_lt (c % 2 ^ 27) longest_day_ms
tells_time any_day Galileo c = nat_lt c week_ms
tells_time any_day Beidou c = nat_lt c week_ms
tells_time any_day Qzss c = nat_lt c week_ms
tells_time any_day Sbas c = nat_lt c week_ms
tells_time any_day Navic c = nat_lt c week_ms

-- a clock lies in a week if it tells a time, on a day that is known
abbrev pub is_in_week : System → ℕ → Bool
is_in_week s c = tells_time false s c

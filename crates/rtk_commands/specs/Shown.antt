-- The line that is shown of a payload, and the lines of a capture. The forms of the lines are this
-- project's rule; the fields are those of RTCM 10403.3.
use Rattle.std.specs.Prelude.{◌≡◌, ℕ, ◌+◌, ◌/◌, ◌%◌, ℤ, List, [], ◌∷◌, ◌++◌, length, take, codes, decimal, unsigned_abs, Option, Result, Ok, Err}
use Rattle.std.specs.Fmt.{sign_text}
use Rattle.std.specs.Int.{is_negative}
use Rattle.rtk_bits.specs.Bits.{bits}
use Rattle.rtk_frame.specs.Frames.{Frame, frames}
use Rattle.rtk_frame.specs.Stream.{with_more, TakesPart}
use Rattle.rtk_message.specs.declared.message.Message.{Message}
use Rattle.rtk_message.specs.declared.message.Message.TheVariants.{Obs1004 as Of1004, Arp1005 as Of1005, Arp1006 as Of1006, Msm1074 as Of1074}
use Rattle.rtk_message.specs.declared.obs1004.Obs1004.{Obs1004}
use Rattle.rtk_message.specs.declared.arp1005.Arp1005.{Arp1005}
use Rattle.rtk_message.specs.declared.arp1006.Arp1006.{Arp1006}
use Rattle.rtk_message.specs.declared.msm1074.Msm1074.{Msm1074}
use Rattle.rtk_message.specs.declared.msm1074.MsmHeader.{MsmHeader}
use Rattle.rtk_message.specs.declared.system.System.{System}
use Rattle.rtk_message.specs.declared.system.System.TheVariants.{Gps, Glonass, Galileo, Beidou, Qzss, Sbas, Navic}
use Rattle.rtk_message.specs.declared.fault.DecodeFault.{DecodeFault}
use Rattle.rtk_message.specs.declared.fault.DecodeFault.TheVariants.{NoNumber, Other, Short, EpochRange, TooManyCells}
use Rattle.rtk_message.specs.Decoded.{Decodes}
use Rattle.rtk_message.specs.FaultCode.{fault_text}
use Rattle.rtk_message.specs.Msm1074.{satellite_count, signal_count, cell_count}

-- formula
-- a point and four digits: the part of a whole metre, of a number of 0.0001 m
abbrev pub four_decimals : ℕ → List ℕ
four_decimals n = 46 ∷ (48 + n / 1000 % 10) ∷ (48 + n / 100 % 10) ∷ (48 + n / 10 % 10) ∷ (48 + n % 10) ∷ []

-- formula
-- a length in 0.0001 m, written in metres: the whole metres without padding, and four decimals
unfoldable pub metres : ℕ → List ℕ
metres n = decimal (n / 10000) ++ four_decimals n

-- a coordinate in 0.0001 m: a minus sign if it is negative, and its length
unfoldable pub coordinate : ℤ → List ℕ
coordinate v = sign_text (is_negative v) ++ metres (unsigned_abs v)

-- formula
-- a station (DF003) and its antenna reference point (DF025, DF026, DF027)
unfoldable pub reference_point : Arp1005 → List ℕ
reference_point m =
    codes " station " ++ decimal m.station ++ codes " x " ++ coordinate m.x ++ codes " y " ++ coordinate m.y
    ++ codes " z " ++ coordinate m.z

-- formula
-- a message: its number, its station (DF003), and then the time of week (DF004) and the numbers of
-- satellites, signals and cells, or the antenna reference point and its height (DF028)
abbrev pub text_1004 : Obs1004 → List ℕ
text_1004 m =
    codes "1004 station " ++ decimal m.station ++ codes " tow " ++ decimal m.tow
    ++ codes " satellites " ++ decimal (length m.satellites)

-- formula
abbrev pub text_1005 : Arp1005 → List ℕ
text_1005 m = codes "1005" ++ reference_point m

-- formula
abbrev pub text_1006 : Arp1006 → List ℕ
text_1006 m = codes "1006" ++ reference_point m.arp ++ codes " height " ++ metres m.height

-- table
-- the word before the clock of a multiple signal message (MSM) of a system: `tow` if the clock is the GPS time of
-- week (DF004, and DF248, DF428 and DF546, which are equal to it), and else `clock` (DF416 and DF034 of GLONASS, and
-- DF427 of BeiDou)
abbrev pub clock_word : System → List ℕ
clock_word Gps = codes " tow "
clock_word Glonass = codes " clock "
clock_word Galileo = codes " tow "
clock_word Beidou = codes " clock "
clock_word Qzss = codes " tow "
clock_word Sbas = codes " tow "
clock_word Navic = codes " tow "

-- formula
-- an MSM of this number and system, with so many cells
abbrev pub msm_text : ℕ → System → MsmHeader → ℕ → List ℕ
msm_text number system h cells =
    decimal number ++ codes " station " ++ decimal h.station ++ clock_word system ++ decimal h.tow
    ++ codes " satellites " ++ decimal (satellite_count h) ++ codes " signals " ++ decimal (signal_count h)
    ++ codes " cells " ++ decimal cells

-- formula
abbrev pub text_1074 : Msm1074 → List ℕ
text_1074 m = msm_text 1074 Gps m.header (cell_count m)

abbrev pub message_text : Message → List ℕ
message_text (Of1004 m) = text_1004 m
message_text (Of1005 m) = text_1005 m
message_text (Of1006 m) = text_1006 m
message_text (Of1074 m) = text_1074 m

-- formula
-- as in: refused M3 1005
abbrev pub refusal_text : DecodeFault → List ℕ
refusal_text fault = codes "refused " ++ fault_text fault

-- formula
-- a payload that is no message: the number of another message, or why it is refused
abbrev pub unread_text : DecodeFault → List ℕ
unread_text NoNumber = refusal_text NoNumber
unread_text (Other number) = decimal number ++ codes " other"
unread_text (Short number) = refusal_text (Short number)
unread_text (EpochRange number) = refusal_text (EpochRange number)
unread_text TooManyCells = refusal_text TooManyCells

-- formula
-- the line of a message or of a payload that is no message: its text, and a line feed
abbrev pub line_of : Result Message DecodeFault → List ℕ
line_of (Ok m) = message_text m ++ 10 ∷ []
line_of (Err fault) = unread_text fault ++ 10 ∷ []

-- the line of a payload is the line of what it decodes to
abbrev pub IsLineOf : List ℕ → List ℕ → Type 0
IsLineOf payload line = (reading : Result Message DecodeFault) × Decodes (bits payload) reading × (line ≡ line_of reading)

-- ---- the lines of frames, by what is the line of a payload

-- these are the lines of the frames' payloads, in the order of the frames
abbrev pub AreLinesBy : (List ℕ → List ℕ → Type 0) → List Frame → List ℕ → Type 0
AreLinesBy IsLine [] text = text ≡ []
AreLinesBy IsLine (frame ∷ rest) text =
    (line : List ℕ) × (others : List ℕ) × IsLine frame.payload line × AreLinesBy IsLine rest others × (text ≡ line ++ others)

-- the lines of all frames of the capture were taken
abbrev pub Shows : (List ℕ → List ℕ → Type 0) → List ℕ → Option (List ℕ) → Option (List ℕ) → Type 0
Shows IsLine capture before after = (text : List ℕ) × AreLinesBy IsLine (frames capture) text × (after ≡ with_more before text)

-- a first part of the lines of the capture's first frames was taken, perhaps none or all of it
abbrev pub ShowsPart : (List ℕ → List ℕ → Type 0) → List ℕ → Option (List ℕ) → Option (List ℕ) → Type 0
ShowsPart IsLine capture before after =
    (n : ℕ) × (text : List ℕ) × AreLinesBy IsLine (take n (frames capture)) text × TakesPart before after text

-- the lines of `show`
abbrev pub AreLinesOf : List Frame → List ℕ → Type 0
AreLinesOf = AreLinesBy IsLineOf

-- The lines of messages that captures hold, and of those that are not in the file (this project's rule).
use Rattle.std.specs.Prelude.{ℕ, ◌+◌, ◌==◌, Bool, not, ◌&&◌, ◌||◌, nat_le, List, [], ◌++◌, flat_map, codes, decimal, if◌then◌else◌}
use Rattle.std.specs.List.{range_with_len}
use Rattle.rtk_message.specs.declared.accepted.Accepted.{Accepted}
use Rattle.rtk_message.specs.declared.msm_kind.MsmKind.{MsmKind}
use Rattle.rtk_message.specs.declared.msm_kind.MsmKind.TheVariants.{Msm4, Msm5, Msm6, Msm7}
use Rattle.rtk_message.specs.Accepted.{accepts}
use Rattle.rtk_message.specs.Systems.{number_of_kind}
use Rattle.rtk_survey.specs.declared.survey.CaptureSurvey.{CaptureSurvey}
use Rattle.rtk_systems.specs.Values.{all_1012_in_captures, held_in_captures, messages_in_captures, obs_1004_in_captures, others_in_captures, sbas_in_captures, with_refused}

-- formula
-- words, a message number and its count; a count of 0 has no line
abbrev pub count_line_of : List ℕ → ℕ → ℕ → List ℕ
count_line_of words number count = if count == 0 then [] else words ++ decimal number ++ codes ", " ++ decimal count ++ codes " messages\n"

-- formula
-- a line for each of so many message numbers from a first one, with how many such messages are in the captures, but for
-- those that are taken
abbrev pub unread_line : List ℕ → Accepted → List CaptureSurvey → ℕ → List ℕ
unread_line words taken ss number = if accepts taken number then [] else count_line_of words number (others_in_captures ss number)

abbrev pub unread_lines_from : List ℕ → Accepted → List CaptureSurvey → ℕ → ℕ → List ℕ
unread_lines_from words taken ss first count = flat_map (unread_line words taken ss) (range_with_len first count)

-- table
-- GPS observations that no conversion takes: 1001 to 1003, and MSM 1071 to 1073
-- Source: RTCM 10403.3, message types
unfoldable pub unread_gps : Accepted → List CaptureSurvey → List ℕ
unread_gps taken ss = unread_lines_from (codes " not in the file: GPS ") taken ss 1001 3 ++ unread_lines_from (codes " not in the file: GPS ") taken ss 1071 3

-- formula
-- words, a count and an end; a count of 0 has no line
abbrev pub ended_count_line : List ℕ → ℕ → List ℕ → List ℕ
ended_count_line words count end = if count == 0 then [] else words ++ decimal count ++ end

-- formula
-- the 1012 of captures in which they can't be dated
abbrev pub long_line : ℕ → List ℕ
long_line count = ended_count_line (codes " untaken GLONASS 1012 ") count (codes ": more than a day\n")

-- formula
-- so many messages of GLONASS of a number, unless they are taken
abbrev pub glonass_line_of : Accepted → ℕ → ℕ → List ℕ
glonass_line_of taken number count =
    if accepts taken number then [] else count_line_of (codes " not in the file: GLONASS ") number count

-- 1012, unless they are taken
abbrev pub untaken_1012_line : Accepted → List CaptureSurvey → List ℕ
untaken_1012_line taken ss = glonass_line_of taken 1012 (all_1012_in_captures ss)

-- the same; they may be left out since they can't be dated
abbrev pub line_of_1012 : Bool → Accepted → List CaptureSurvey → List ℕ
line_of_1012 is_long taken ss = if is_long then long_line (all_1012_in_captures ss) else untaken_1012_line taken ss

-- table
-- observations of GLONASS by themselves: 1009 to 1012
-- Source: RTCM 10403.3, message types
unfoldable pub unread_legacy_glonass : Bool → Accepted → List CaptureSurvey → List ℕ
unread_legacy_glonass is_long taken ss =
    unread_lines_from (codes " not in the file: GLONASS ") taken ss 1009 3 ++ line_of_1012 is_long taken ss

-- table
-- observations of GLONASS: 1009 to 1012, and MSM 1081 to 1087; of Galileo: MSM 1091 to 1097; of SBAS: MSM
-- 1101 to 1107
-- Source: RTCM 10403.3, message types
unfoldable pub unread_glonass_to_sbas : Bool → Accepted → List CaptureSurvey → List ℕ
unread_glonass_to_sbas is_long taken ss =
    unread_legacy_glonass is_long taken ss ++ unread_lines_from (codes " not in the file: GLONASS ") taken ss 1081 7
    ++ unread_lines_from (codes " not in the file: Galileo ") taken ss 1091 7 ++ unread_lines_from (codes " not in the file: SBAS ") taken ss 1101 7

-- table
-- observations of QZSS: MSM 1111 to 1117; of BeiDou: MSM 1121 to 1127; of NavIC: MSM 1131 to 1137
-- Source: RTCM 10403.3, message types
unfoldable pub unread_qzss_to_navic : Accepted → List CaptureSurvey → List ℕ
unread_qzss_to_navic taken ss =
    unread_lines_from (codes " not in the file: QZSS ") taken ss 1111 7 ++ unread_lines_from (codes " not in the file: BeiDou ") taken ss 1121 7
    ++ unread_lines_from (codes " not in the file: NavIC ") taken ss 1131 7

-- formula
-- all observations that are not taken, but for the MSM of GPS that a survey reads; 1012 may be left out since they can't be
-- dated
unfoldable pub all_unread : Bool → Accepted → List CaptureSurvey → List ℕ
all_unread is_long taken ss = unread_gps taken ss ++ unread_glonass_to_sbas is_long taken ss ++ unread_qzss_to_navic taken ss

-- formula
-- an MSM of GPS of a station, unless it is taken; messages that can't be read are counted too
abbrev pub msm_line_of : Accepted → List CaptureSurvey → ℕ → ℕ → List ℕ
msm_line_of taken ss number count =
    if accepts taken number then [] else count_line_of (codes " not in the file: GPS ") number (with_refused ss number count)

abbrev pub msm_line : Accepted → List CaptureSurvey → ℕ → MsmKind → List ℕ
msm_line taken ss station kind = msm_line_of taken ss (number_of_kind kind) (messages_in_captures ss station kind)

unfoldable pub msm_lines : Accepted → List CaptureSurvey → ℕ → List ℕ
msm_lines taken ss station =
    msm_line taken ss station Msm4 ++ msm_line taken ss station Msm5 ++ msm_line taken ss station Msm6 ++ msm_line taken ss station Msm7

-- values of the 1004 of a station are taken: those of GPS, or those of satellites of SBAS if it has some
abbrev pub takes_of_1004 : Bool → Bool → List CaptureSurvey → ℕ → Bool
takes_of_1004 has_gps has_sbas ss station = has_gps || (has_sbas && not (sbas_in_captures ss station == 0))

-- formula
-- the 1004 of a station, unless values of them are taken
abbrev pub obs_1004_line : Bool → Bool → List CaptureSurvey → ℕ → List ℕ
obs_1004_line has_gps has_sbas ss station =
    if takes_of_1004 has_gps has_sbas ss station then [] else count_line_of (codes " not in the file: GPS ") 1004 (obs_1004_in_captures ss station)

-- formula
-- the 1004 of a station that have satellites of SBAS, unless these are taken
abbrev pub sbas_line : Bool → List CaptureSurvey → ℕ → List ℕ
sbas_line is_taken ss station = if is_taken then [] else count_line_of (codes " not in the file: SBAS of ") 1004 (sbas_in_captures ss station)

abbrev pub is_among : ℕ → ℕ → ℕ → Bool
is_among first last number = nat_le first number && nat_le number last

-- table
-- the systems of MSM by their numbers
-- Source: RTCM 10403.3, message types
abbrev pub msm_words : ℕ → List ℕ
msm_words n =
    if is_among 1071 1077 n then codes " holds GPS " else
    if is_among 1081 1087 n then codes " holds GLONASS " else
    if is_among 1091 1097 n then codes " holds Galileo " else
    if is_among 1101 1107 n then codes " holds SBAS " else
    if is_among 1111 1117 n then codes " holds QZSS " else
    if is_among 1121 1127 n then codes " holds BeiDou " else
    if is_among 1131 1137 n then codes " holds NavIC " else codes " holds "

-- table
-- the systems of all observation messages
-- Source: RTCM 10403.3, message types
abbrev pub system_words : ℕ → List ℕ
system_words n =
    if is_among 1001 1004 n then codes " holds GPS " else if is_among 1009 1012 n then codes " holds GLONASS " else msm_words n

-- formula
-- the messages of a number that captures have
abbrev pub held_line : List CaptureSurvey → ℕ → List ℕ
held_line ss n = count_line_of (system_words n) n (held_in_captures ss n)

-- those of all numbers (DF002)
unfoldable pub held_lines : List CaptureSurvey → List ℕ
held_lines ss = flat_map (held_line ss) (range_with_len 0 4096)

-- The lines of a summary (this project's rule): a keyword at the head of each, those of a station
-- after a blank.
use Rattle.std.specs.Prelude.{ℕ, ◌+◌, ◌-◌, ◌/◌, ◌%◌, ◌==◌, nat_eq, nat_lt, Bool, not, ◌&&◌, List, [], ◌∷◌, ◌++◌, filter, flat_map, codes, decimal, Option, None, Some, if◌then◌else◌}
use Rattle.std.specs.Cmp.Lexicographic.{pointwise}
use Rattle.std.specs.List.{range_with_len}
use Rattle.rtk_survey.specs.Telling.{moment_of}
use Rattle.rtk_survey.specs.declared.date_message.UtcDate.{UtcDate}
use Rattle.rtk_message.specs.ShellText.{sh_quoted}
use Rattle.rtk_message.specs.declared.msm_kind.MsmKind.{MsmKind}
use Rattle.rtk_message.specs.declared.msm_kind.MsmKind.TheVariants.{Msm4, Msm5, Msm6, Msm7}
use Rattle.rtk_message.specs.Systems.{number_of_kind}
use Rattle.rtk_obs.specs.declared.any_code.AnyCode.{AnyCode}
use Rattle.rtk_obs.specs.declared.code.Code.{Code}
use Rattle.rtk_obs.specs.declared.code.Code.TheVariants.{G2P, G2W}
use Rattle.rtk_obs.specs.CivilText.{last_digits, date_text, clock_text}
use Rattle.rtk_obs.specs.AnyCode.{text_of, all_any_codes}
use Rattle.rtk_obs.specs.Code.{name_of, all_codes}
use Rattle.rtk_obs.specs.Reading.{reading_of}
use Rattle.rtk_obs.specs.SatelliteIndex.{index_name}
use Rattle.rtk_survey.specs.Counting.{shown_count}
use Rattle.rtk_survey.specs.Look.{look_of, look_name}
use Rattle.rtk_survey.specs.Proposal.{proposed}
use Rattle.rtk_survey.specs.Tracing.{newest_time, oldest_time, changes_in}
use Rattle.rtk_survey.specs.declared.station_dates.DateCount.{DateCount}
use Rattle.rtk_survey.specs.declared.station_dates.StationDates.{StationDates}

-- formula
-- words and a number
abbrev pub number_line : List ℕ → ℕ → List ℕ
number_line words n = words ++ decimal n ++ 10 ∷ []

-- words and a count; a count of 0 has no line
abbrev pub counted_line : List ℕ → ℕ → List ℕ
counted_line words n = if n == 0 then [] else number_line words n

-- formula
-- words, a message number and its count
abbrev pub numbered_line : List ℕ → ℕ → ℕ → List ℕ
numbered_line words number n = counted_line (words ++ decimal number ++ codes " ") n

-- formula
-- a hyphen in the place of an empty list
abbrev pub or_hyphen : List ℕ → List ℕ
or_hyphen [] = codes " -"
or_hyphen (x ∷ xs) = x ∷ xs

-- formula
-- words and a list
abbrev pub list_line : List ℕ → List ℕ → List ℕ
list_line words list = words ++ or_hyphen list ++ 10 ∷ []

-- ---- messages

-- table
-- the messages that are read: 1004 to 1006, 1012, and MSM4 to MSM7 of all systems
-- Source: RTCM 10403.3, DF002
abbrev pub message_numbers : List ℕ
message_numbers =
    1004 ∷ 1005 ∷ 1006 ∷ 1012 ∷ 1074 ∷ 1075 ∷ 1076 ∷ 1077 ∷ 1084 ∷ 1085 ∷ 1086 ∷ 1087 ∷ 1094 ∷ 1095 ∷ 1096 ∷ 1097 ∷
    1104 ∷ 1105 ∷ 1106 ∷ 1107 ∷ 1114 ∷ 1115 ∷ 1116 ∷ 1117 ∷ 1124 ∷ 1125 ∷ 1126 ∷ 1127 ∷ 1134 ∷ 1135 ∷ 1136 ∷ 1137 ∷ []

-- table
-- those of other systems than GPS
abbrev pub beside_numbers : List ℕ
beside_numbers =
    1012 ∷ 1084 ∷ 1085 ∷ 1086 ∷ 1087 ∷ 1094 ∷ 1095 ∷ 1096 ∷ 1097 ∷ 1104 ∷ 1105 ∷ 1106 ∷ 1107 ∷
    1114 ∷ 1115 ∷ 1116 ∷ 1117 ∷ 1124 ∷ 1125 ∷ 1126 ∷ 1127 ∷ 1134 ∷ 1135 ∷ 1136 ∷ 1137 ∷ []

-- formula
-- how many messages of each number there are
unfoldable pub message_lines : (ℕ → ℕ) → List ℕ
message_lines count = flat_map (λ n. numbered_line (codes " message ") n (count n)) message_numbers

-- formula
-- how many epochs with a value the messages of each number of another system than GPS have
unfoldable pub system_epoch_lines : (ℕ → ℕ) → List ℕ
system_epoch_lines epochs = flat_map (λ n. numbered_line (codes " epochs ") n (epochs n)) beside_numbers

-- ---- times

-- formula
-- the first and the last time of week, in ms, or a hyphen if no time came
abbrev pub time_line : Option ℕ → Option ℕ → List ℕ
time_line None last = codes " time-of-week -\n"
time_line (Some first) None = codes " time-of-week -\n"
time_line (Some first) (Some last) = codes " time-of-week " ++ decimal first ++ codes " " ++ decimal last ++ 10 ∷ []

-- formula
-- the lines of the GPS times of a station's observation messages, newest first
abbrev pub time_lines : List ℕ → List ℕ
time_lines ts =
    time_line (oldest_time ts) (newest_time ts)
    ++ number_line (codes " changes-of-time ") (shown_count (changes_in ts))

-- ---- dates

-- formula
-- a date and a time of day, as in 2011-03-01T05:56:37
abbrev pub date_time_text : UtcDate → List ℕ
date_time_text d = date_text (reading_of (moment_of d)) ++ codes "T" ++ clock_text (reading_of (moment_of d))

-- formula
-- the first date that messages of this number tell, and how many messages do; without one there is none
abbrev pub first_date_line : ℕ → ℕ → Option UtcDate → List ℕ
first_date_line number count None = []
first_date_line number count (Some d) = number_line (codes " date " ++ date_time_text d ++ codes " " ++ decimal number ++ codes " ") count

abbrev pub date_line : ℕ → DateCount → List ℕ
date_line number c = first_date_line number c.count c.first

-- formula
-- the lines of the dates of a station
abbrev pub date_lines : StationDates → List ℕ
date_lines d = date_line 1013 d.of_1013 ++ date_line 1029 d.of_1029

-- formula
-- a week modulo 1,024, and how many 1019 name it
abbrev pub week_line : ℕ → ℕ → List ℕ
week_line week n = counted_line (codes "week " ++ decimal week ++ codes " 1019 ") n

-- formula
-- a week of a system, and how many messages of this number name it
abbrev pub system_week_line : ℕ → ℕ → ℕ → List ℕ
system_week_line number week n = counted_line (codes "week " ++ decimal week ++ codes " " ++ decimal number ++ codes " ") n

-- formula
-- what a file without a frame looks like, by its first bytes
abbrev pub look_line : ℕ → List ℕ → List ℕ
look_line frames head = if frames == 0 then codes "looks-like " ++ look_name (look_of head) ++ 10 ∷ [] else []

-- ---- satellites and codes, by the tests which of them have a value

-- formula
-- as in: G05
abbrev pub satellite_name : ℕ → List ℕ
satellite_name n = 71 ∷ (48 + n / 10) ∷ (48 + n % 10) ∷ []

-- formula
abbrev pub listed_satellite : (ℕ → Bool) → ℕ → List ℕ
listed_satellite test n = if test n then 32 ∷ satellite_name n else []

-- formula
-- the satellites from 1 to 32 that have a value, each after a blank
unfoldable pub satellites_text : (ℕ → Bool) → List ℕ
satellites_text test = flat_map (listed_satellite test) (range_with_len 1 32)

-- formula
-- the names of codes, the first after this separator and each other one after a comma
abbrev pub joined_names : ℕ → List Code → List ℕ
joined_names separator [] = []
joined_names separator (c ∷ cs) = separator ∷ name_of c ++ joined_names 44 cs

-- formula
-- the codes that have a value, as an option lists them, after a blank
unfoldable pub codes_text : (Code → Bool) → List ℕ
codes_text test = joined_names 32 (filter test all_codes)

-- formula
-- the second frequency is 2P, which an option with 2W would leave out
abbrev pub second_frequency_line : (Code → Bool) → List ℕ
second_frequency_line test = if test G2P && not (test G2W) then codes " second-frequency 2P\n" else []

-- formula
-- the satellite of another system than GPS with this index after a blank, if it has a value
abbrev pub listed_index : (ℕ → Bool) → ℕ → List ℕ
listed_index test n = if test n then 32 ∷ index_name n else []

-- formula
-- the satellites of other systems than GPS that have a value, in the order of the index
unfoldable pub indices_text : (ℕ → Bool) → List ℕ
indices_text test = flat_map (listed_index test) (range_with_len 33 189)

-- formula
-- the names of codes with the letters of their systems, the first after this separator and each other one after a comma
abbrev pub joined_texts : ℕ → List AnyCode → List ℕ
joined_texts separator [] = []
joined_texts separator (c ∷ cs) = separator ∷ text_of c ++ joined_texts 44 cs

-- formula
-- what separates a name from those before it: a comma, or a blank if there is none
abbrev pub separator_behind : List ℕ → ℕ
separator_behind [] = 32
separator_behind (x ∷ xs) = 44

-- formula
-- the codes of other systems than GPS that have a value, as an option lists them behind those of GPS
unfoldable pub any_codes_text : List ℕ → (AnyCode → Bool) → List ℕ
any_codes_text before test = joined_texts (separator_behind before) (filter test all_any_codes)

-- formula
-- the codes of all systems that have a value, as an option lists them, after a blank
unfoldable pub all_codes_text : (Code → Bool) → (AnyCode → Bool) → List ℕ
all_codes_text code other = codes_text code ++ any_codes_text (codes_text code) other

-- formula
-- the satellites and codes of GPS, and those of other systems, by the tests which of them have a value
unfoldable pub signal_lines : (ℕ → Bool) → (Code → Bool) → (ℕ → Bool) → (AnyCode → Bool) → List ℕ
signal_lines satellite code index other =
    list_line (codes " satellites") (satellites_text satellite ++ indices_text index) ++ list_line (codes " codes") (all_codes_text code other)

-- ---- channels of GLONASS, by the test which messages tell

-- formula
-- the channel that a field tells (DF040, DF419): 7 less
abbrev pub field_channel_text : ℕ → List ℕ
field_channel_text field = if nat_lt field 7 then 45 ∷ (48 + (7 - field)) ∷ [] else decimal (field - 7)

-- formula
-- a slot and a channel, as in 10:-5, by the place of the slot and the field
abbrev pub told_channel_text : ℕ → List ℕ
told_channel_text place = decimal (place / 21) ++ 58 ∷ field_channel_text (place % 21)

-- formula
abbrev pub joined_channels : ℕ → List ℕ → List ℕ
joined_channels separator [] = []
joined_channels separator (p ∷ ps) = separator ∷ told_channel_text p ++ joined_channels 44 ps

-- formula
-- the channels of slots 1 to 27 that messages tell, as an option lists them; a slot with several is named with each
unfoldable pub told_channels_text : (ℕ → Bool) → List ℕ
told_channels_text told = joined_channels 32 (filter told (range_with_len 21 567))

-- formula
-- without a channel there is no line
abbrev pub line_if_some : List ℕ → List ℕ → List ℕ
line_if_some words [] = []
line_if_some words (x ∷ xs) = words ++ (x ∷ xs) ++ 10 ∷ []

unfoldable pub channel_line : (ℕ → Bool) → List ℕ
channel_line told = line_if_some (codes " channels") (told_channels_text told)

-- ---- the commands that convert a station, by how many epochs of each MSM have a value, and by the
-- codes that `convert` takes with each

-- formula
-- an MSM with such epochs that the command does not name
abbrev pub other_msm_line : (MsmKind → ℕ) → MsmKind → MsmKind → List ℕ
other_msm_line epochs named kind =
    if number_of_kind kind == number_of_kind named then [] else numbered_line (codes " other-msm ") (number_of_kind kind) (epochs kind)

-- formula
unfoldable pub other_msm_lines : (MsmKind → ℕ) → MsmKind → List ℕ
other_msm_lines epochs named =
    other_msm_line epochs named Msm4 ++ other_msm_line epochs named Msm5
    ++ other_msm_line epochs named Msm6 ++ other_msm_line epochs named Msm7

-- table
-- the option that names an MSM; `convert` takes 1074 without one
abbrev pub msm_option : MsmKind → List ℕ
msm_option Msm4 = []
msm_option Msm5 = codes " --msm 5"
msm_option Msm6 = codes " --msm 6"
msm_option Msm7 = codes " --msm 7"

-- formula
-- the moment near which the command converts; words in capitals if the capture does not tell it
abbrev pub near_text : Option UtcDate → List ℕ
near_text None = codes "GPS-TIME-WITHIN-HALF-A-WEEK"
near_text (Some d) = date_time_text d

-- formula
-- the words of the command behind its moment
abbrev pub words_text : List ℕ → ℕ → List ℕ → List ℕ → List ℕ
words_text name station options names =
    codes " --made \"$(date -u +%FT%T)\" --marker " ++ last_digits 4 station
    ++ codes " --codes" ++ names ++ options ++ codes " " ++ sh_quoted name ++ 10 ∷ []

-- constant
-- the name means standard input
abbrev pub is_standard_input : List ℕ → Bool
is_standard_input name = pointwise nat_eq name (codes "stdin")

-- formula
-- the command that finds the other options by itself; there is none for standard input, since the
-- command reads a capture twice
abbrev pub auto_line : List ℕ → ℕ → List ℕ
auto_line name station =
    if is_standard_input name then [] else
    codes " auto rtcm2rinex auto --station " ++ decimal station ++ codes " -o " ++ last_digits 4 station ++ codes ".rnx " ++ sh_quoted name ++ 10 ∷ []

-- formula
-- the command that converts the station in the file of this name with these options, near this moment, and
-- the one that finds its options, if there is one; without codes there is neither
abbrev pub next_lines : List ℕ → List ℕ → ℕ → List ℕ → List ℕ → List ℕ
next_lines name near station options [] = []
next_lines name near station options (x ∷ xs) =
    codes " next rtcm2rinex convert --station " ++ decimal station ++ codes " --near " ++ near ++ words_text name station options (x ∷ xs) ++ auto_line name station

-- formula
-- the commands, and before them the second frequency and the MSM of GPS that they leave out; the codes of other systems
-- that they take, and their options by the MSM of GPS
unfoldable pub proposal_lines : List ℕ → List ℕ → ℕ → (MsmKind → ℕ) → (MsmKind → Code → Bool) → (AnyCode → Bool) → (MsmKind → List ℕ) → List ℕ
proposal_lines name near station epochs code other options =
    second_frequency_line (code (proposed epochs)) ++ other_msm_lines epochs (proposed epochs)
    ++ next_lines name near station (options (proposed epochs)) (all_codes_text (code (proposed epochs)) other)

-- formula
-- no station has a code
abbrev pub nothing_line : List ℕ → List ℕ
nothing_line [] = codes "nothing taken\n"
nothing_line (x ∷ xs) = []

-- formula
-- the messages of GPS observations that are not read
abbrev pub untaken_numbers : List ℕ
untaken_numbers = 1001 ∷ 1002 ∷ 1003 ∷ 1071 ∷ 1072 ∷ 1073 ∷ []

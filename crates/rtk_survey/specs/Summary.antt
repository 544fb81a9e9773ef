-- The text of a summary, from the bytes of a capture and its frames (this project's rule).
use Rattle.std.specs.Prelude.{◌≡◌, ℕ, ◌+◌, ◌-◌, ◌≤◌, ◌==◌, Bool, ◌&&◌, not, List, [], ◌++◌, length, take, flat_map, codes, Option, min, if◌then◌else◌, ◌||◌}
use Rattle.std.specs.List.{range_with_len}
use Rattle.rtk_frame.specs.Frames.{frames, payloads}
use Rattle.rtk_frame.specs.Stream.{with_more, TakesPart, greatest_count}
use Rattle.rtk_survey.specs.declared.date_message.DateMessage.{DateMessage}
use Rattle.rtk_survey.specs.EquipmentHistory.{equipment_of}
use Rattle.rtk_survey.specs.declared.equipment.Equipment.{Equipment}
use Rattle.rtk_survey.specs.declared.equipment_message.EquipmentMessage.{EquipmentMessage}
use Rattle.rtk_message.specs.declared.any_message.AnyMessage.{AnyMessage}
use Rattle.rtk_message.specs.declared.any_fault.AnyFault.{AnyFault}
use Rattle.rtk_message.specs.declared.system.System.TheVariants.{Glonass}
use Rattle.rtk_obs.specs.declared.any_code.AnyCode.{AnyCode}
use Rattle.rtk_survey.specs.BesideGps.{messages_beside, cells_beside, has_index, has_any_code, times_beside}
use Rattle.rtk_survey.specs.Chains.{clocks_of}
use Rattle.rtk_survey.specs.Channels.{tells_field, place_is_told}
use Rattle.rtk_survey.specs.Counting.{shown_count, count_of}
use Rattle.rtk_survey.specs.FrameDates.{dates_in, station_dates, proposed_date, is_of_week}
use Rattle.rtk_survey.specs.FrameEquipment.{equipment_among, is_mentioned, told_lines}
use Rattle.rtk_survey.specs.NextCommand.{number_by, with_own_sbas, next_takes_1012, other_taken, slot_items, glonass_options, station_proposal}
use Rattle.rtk_survey.specs.Proposal.{epochs_in, epochs_with_value, entries_with}
use Rattle.rtk_survey.specs.ReadFrames.{ReadFrame, ReadsFrames, bytes_in, messages_in, faults_in, messages_from}
use Rattle.rtk_survey.specs.Tracing.{is_numbered, is_other, is_short, is_outside_week, is_no_number, is_too_many_cells, times_of_week, newest_time, oldest_time, entries_in, has_satellite, has_code}
use Rattle.rtk_survey.specs.SummaryText.{number_line, counted_line, numbered_line, message_lines, system_epoch_lines, channel_line, time_lines, week_line, system_week_line, look_line, signal_lines, near_text, all_codes_text, nothing_line, untaken_numbers}
use Rattle.rtk_survey.specs.SystemTellings.{system_messages_in, names_week}
use Rattle.rtk_survey.specs.UncheckedClocks.{systems_sent, all_clock_lines}
use Rattle.rtk_survey.specs.declared.date_message.UtcDate.{UtcDate}
use Rattle.rtk_survey.specs.declared.station_dates.StationDates.{StationDates}
use Rattle.rtk_survey.specs.declared.system_message.SystemMessage.{SystemMessage}
use Rattle.rtk_survey.specs.declared.systems_sent.SystemsSent.{SystemsSent}

-- table
-- the numbers of stations and of messages, of 12 bits
-- Source: RTCM 10403.3, DF002 and DF003
unfoldable pub all_numbers : List ℕ
all_numbers = range_with_len 0 4096

-- how many epochs of the messages of a number of another system than GPS have a value
abbrev pub epochs_beside : List AnyMessage → ℕ → ℕ
epochs_beside ms n = shown_count (epochs_in (times_beside (messages_beside n ms)))

-- a code has a value in the messages of a number of another system than GPS
abbrev pub codes_beside : List AnyMessage → ℕ → AnyCode → Bool
codes_beside ms n = has_any_code (cells_beside (messages_beside n ms))

-- the command of a station takes 1012
abbrev pub legacy_beside : Option UtcDate → List AnyMessage → Bool
legacy_beside date ms = next_takes_1012 date (oldest_time (times_of_week ms)) (newest_time (times_of_week ms)) (epochs_beside ms)

-- the codes of other systems than GPS that the command of a station takes
abbrev pub taken_beside : Option UtcDate → List AnyMessage → AnyCode → Bool
taken_beside date ms = other_taken date (clocks_of ms).offsets (epochs_beside ms) (codes_beside ms) (legacy_beside date ms)

-- formula
-- the satellite of a slot has a value in messages of a number; those of GPS stand before it
abbrev pub slot_numbered : List AnyMessage → ℕ → ℕ → Bool
slot_numbered ms slot n = has_index (cells_beside (messages_beside n ms)) (32 + slot)

-- in the MSM of GLONASS that the command takes, or in 1012 if it takes them
abbrev pub slots_beside : Bool → List AnyMessage → ℕ → Bool
slots_beside legacy ms slot = slot_numbered ms slot (number_by (epochs_beside ms) Glonass) || (legacy && slot_numbered ms slot 1012)

-- how many messages tell a field of a slot
abbrev pub fields_told : List AnyMessage → ℕ → ℕ → ℕ
fields_told ms slot field = count_of (tells_field slot field) ms

-- the options of GLONASS
abbrev pub glonass_beside : Option UtcDate → List AnyMessage → List ℕ
glonass_beside date ms = glonass_options (slot_items (slots_beside (legacy_beside date ms) ms) (fields_told ms)) (legacy_beside date ms)

-- the systems of a station whose messages have clocks
abbrev pub systems_clocked : List AnyMessage → SystemsSent
systems_clocked ms = with_own_sbas (epochs_beside ms) (systems_sent (has_code (entries_in ms)) (has_any_code (cells_beside ms)))

-- formula
-- the lines of a station in the file of this name, of which these messages came, with what others told of it
unfoldable pub station_lines : List ℕ → ℕ → List AnyMessage → StationDates → Equipment → List ℕ
station_lines name station ms d e =
    number_line (codes "station ") station
    ++ message_lines (λ n. count_of (is_numbered n) ms)
    ++ time_lines (times_of_week ms)
    ++ told_lines d e
    ++ signal_lines (has_satellite (entries_in ms)) (has_code (entries_in ms)) (has_index (cells_beside ms)) (has_any_code (cells_beside ms))
    ++ system_epoch_lines (epochs_beside ms)
    ++ channel_line (place_is_told ms)
    ++ all_clock_lines (proposed_date d) (systems_clocked ms) (clocks_of ms).offsets
    ++ station_proposal name (near_text (proposed_date d)) station (λ kind. epochs_with_value kind ms) (λ kind. has_code (entries_with kind ms))
    (epochs_beside ms) (taken_beside (proposed_date d) ms) (glonass_beside (proposed_date d) ms)

-- a station of which no message came, and which no other one mentions, has no lines
abbrev pub lines_if_any : List ℕ → ℕ → List AnyMessage → StationDates → Equipment → List ℕ
lines_if_any name station ms d e = if (length ms == 0) && not (is_mentioned d e) then [] else station_lines name station ms d e

-- the lines of all stations, their numbers rising
unfoldable pub stations_text : List ℕ → List AnyMessage → List DateMessage → List EquipmentMessage → List ℕ
stations_text name ms ds es = flat_map (λ s. lines_if_any name s (messages_from s ms) (station_dates s ds) (equipment_of s es)) all_numbers

-- formula
-- the weeks modulo 1,024 that 1019 name, rising
unfoldable pub weeks_text : List DateMessage → List ℕ
weeks_text ds = flat_map (λ w. week_line w (count_of (is_of_week w) ds)) (range_with_len 0 1024)

-- formula
-- the weeks below this one that messages of this number name, rising
unfoldable pub weeks_text_of : ℕ → ℕ → List SystemMessage → List ℕ
weeks_text_of number below ts = flat_map (λ w. system_week_line number w (count_of (names_week number w) ts)) (range_with_len 0 below)

-- formula
-- the weeks of BeiDou that 1042 name, modulo 8,192, and those of Galileo that 1045 and 1046 name, modulo 4,096
abbrev pub system_weeks_text : List SystemMessage → List ℕ
system_weeks_text ts = weeks_text_of 1042 8192 ts ++ weeks_text_of 1045 4096 ts ++ weeks_text_of 1046 4096 ts

-- formula
-- the payloads that are not read: other messages, those with GPS observations named once more, and
-- for each fault the numbers of the messages that are refused
unfoldable pub unread_lines : List AnyFault → List ℕ
unread_lines fs =
    flat_map (λ n. numbered_line (codes "other ") n (count_of (is_other n) fs)) all_numbers
    ++ flat_map (λ n. numbered_line (codes "untaken GPS ") n (count_of (is_other n) fs)) untaken_numbers
    ++ counted_line (codes "refused M1 - ") (count_of is_no_number fs)
    ++ flat_map (λ n. numbered_line (codes "refused M3 ") n (count_of (is_short n) fs)) all_numbers
    ++ flat_map (λ n. numbered_line (codes "refused M4 ") n (count_of (is_outside_week n) fs)) all_numbers
    ++ flat_map (λ n. numbered_line (codes "refused M5 ") n (count_of (is_too_many_cells n) fs)) all_numbers

-- formula
-- how many bytes a capture has, how many of them outside of frames, and how many frames
abbrev pub size_lines : ℕ → List ReadFrame → List ℕ
size_lines size fs =
    number_line (codes "bytes ") (shown_count size)
    ++ number_line (codes "outside-frames ") (shown_count size - shown_count (bytes_in fs))
    ++ number_line (codes "frames ") (shown_count (length fs))

-- formula
-- the summary of the capture of this name, with these bytes and these frames, newest first
unfoldable pub summary_text : List ℕ → List ℕ → List ReadFrame → List ℕ
summary_text name bytes fs =
    size_lines (length bytes) fs ++ look_line (length fs) (take 512 bytes)
    ++ stations_text name (messages_in fs) (dates_in fs) (equipment_among fs) ++ weeks_text (dates_in fs)
    ++ system_weeks_text (system_messages_in fs) ++ unread_lines (faults_in fs)
    ++ nothing_line (all_codes_text (has_code (entries_in (messages_in fs))) (has_any_code (cells_beside (messages_in fs))))

-- these are all the frames of a capture, newest first
abbrev pub AreFramesOf : List ℕ → List ReadFrame → Type 0
AreFramesOf bytes fs = ReadsFrames (payloads (frames bytes)) [] fs

-- these lines are the summary of what was read of the capture of this name: before, after of the source
abbrev pub IsSummaryOf : List ℕ → Option (List ℕ) → Option (List ℕ) → List ℕ → Type 0
IsSummaryOf name given_old given_new lines =
    (bytes : List ℕ) × (fs : List ReadFrame) × (given_new ≡ with_more given_old bytes) × AreFramesOf bytes fs × (lines ≡ summary_text name bytes fs)

-- the summary of what was read of the capture of this name was written: before, after of the source and of the sink
abbrev pub Summarizes : List ℕ → Option (List ℕ) → Option (List ℕ) → Option (List ℕ) → Option (List ℕ) → Type 0
Summarizes name given_old given_new taken_old taken_new =
    (bytes : List ℕ) × (fs : List ReadFrame) × (given_new ≡ with_more given_old bytes) × AreFramesOf bytes fs
    × (taken_new ≡ with_more taken_old (summary_text name bytes fs))

-- a first part of the summary of what was read was written, perhaps none or all of it: before, after of
-- the source and of the sink
abbrev pub SummarizesInPart : List ℕ → Option (List ℕ) → Option (List ℕ) → Option (List ℕ) → Option (List ℕ) → Type 0
SummarizesInPart name given_old given_new taken_old taken_new =
    (bytes : List ℕ) × (fs : List ReadFrame) × (given_new ≡ with_more given_old bytes) × AreFramesOf bytes fs
    × TakesPart taken_old taken_new (summary_text name bytes fs)

-- a count of calls has risen by so many, or is at its greatest value
abbrev pub HasRisenBy : ℕ → ℕ → ℕ → Type 0
HasRisenBy before after n = min (before + n) greatest_count ≤ after

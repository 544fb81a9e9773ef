-- Laws of what a summary counts, and of the parts that stand in it. Lists of frames, messages and
-- faults are newest first.
use Rattle.std.specs.Prelude.{◌≡◌, ◌≢◌, ◌<◌, ◌+◌, ℕ, List, [], ◌∷◌, ◌++◌, length, codes, IsTrue}
use Rattle.std.specs.List.{AllByRecursion, count_by, sum_by}
use Rattle.rtk_frame.specs.Frames.{frames, payloads}
use Rattle.rtk_survey.specs.declared.date_message.DateMessage.{DateMessage}
use Rattle.rtk_survey.specs.EquipmentHistory.{equipment_of}
use Rattle.rtk_survey.specs.declared.equipment.Equipment.{Equipment}
use Rattle.rtk_survey.specs.declared.equipment_message.EquipmentMessage.{EquipmentMessage}
use Rattle.rtk_message.specs.declared.any_message.AnyMessage.{AnyMessage}
use Rattle.rtk_message.specs.declared.any_fault.AnyFault.{AnyFault}
use Rattle.rtk_message.specs.declared.msm_kind.MsmKind.{MsmKind}
use Rattle.rtk_message.specs.Accepted.{accepts}
use Rattle.rtk_message.specs.AnyDecoded.{number_of}
use Rattle.rtk_survey.specs.BesideGps.{messages_beside, cells_beside, times_beside}
use Rattle.rtk_survey.specs.FrameDates.{dates_in, station_dates, proposed_date}
use Rattle.rtk_survey.specs.FrameEquipment.{equipment_among}
use Rattle.rtk_survey.specs.NumberLaws.{IsHeld}
use Rattle.rtk_survey.specs.Proposal.{epochs_in, times_with_value, entries_with}
use Rattle.rtk_survey.specs.ReadFrames.{messages_read, ReadFrame, bytes_in, messages_in, faults_in, messages_from}
use Rattle.rtk_survey.specs.NextCommand.{station_proposal}
use Rattle.rtk_survey.specs.Summary.{epochs_beside, taken_beside, glonass_beside, station_lines, stations_text, weeks_text, unread_lines, summary_text, AreFramesOf}
use Rattle.rtk_survey.specs.SummaryText.{numbered_line, message_numbers, near_text, untaken_numbers}
use Rattle.rtk_survey.specs.Tracing.{is_numbered, is_other, times_of_week, changes_in, entries_in, has_code}
use Rattle.rtk_survey.specs.declared.station_dates.StationDates.{StationDates}

-- ---- what is counted

-- a message is one of those that a summary reads
abbrev pub IsReadMessage : AnyMessage → Type 0
IsReadMessage m = IsTrue (accepts messages_read (number_of m))

-- all frames of a capture are counted, with their bytes, and each is a message that is read or a fault
pub record FramesAreCounted (bytes : List ℕ) (fs : List ReadFrame) : Type 0 where
  pub all : length fs ≡ length (frames bytes)
  pub framed : bytes_in fs ≡ sum_by (λ payload. length payload + 6) (payloads (frames bytes))
  pub each : length (messages_in fs) + length (faults_in fs) ≡ length fs
  pub read : AllByRecursion IsReadMessage (messages_in fs)

abbrev pub EachFrameIsCounted : Type 0
EachFrameIsCounted = (bytes : List ℕ) (fs : List ReadFrame) → AreFramesOf bytes fs → FramesAreCounted bytes fs

-- each message is counted under one of the numbers that have a line
abbrev pub EachMessageIsCounted : Type 0
EachMessageIsCounted = (ms : List AnyMessage) → sum_by (λ n. count_by (is_numbered n) ms) message_numbers ≡ length ms

-- ---- all are taken alike, whatever came before

abbrev pub FramesAreTakenAlike : Type 0
FramesAreTakenAlike =
    (later before : List ReadFrame) → (messages_in (later ++ before) ≡ messages_in later ++ messages_in before)
    × (faults_in (later ++ before) ≡ faults_in later ++ faults_in before)

-- what comes of later messages stands before what comes of the messages before them
pub record AreTakenAlike (later before : List AnyMessage) : Type 0 where
  pub stations : (n : ℕ) → messages_from n (later ++ before) ≡ messages_from n later ++ messages_from n before
  pub times : times_of_week (later ++ before) ≡ times_of_week later ++ times_of_week before
  pub with_value : (kind : MsmKind) → times_with_value kind (later ++ before) ≡ times_with_value kind later ++ times_with_value kind before
  pub entries : entries_in (later ++ before) ≡ entries_in later ++ entries_in before
  pub entries_taken : (kind : MsmKind) → entries_with kind (later ++ before) ≡ entries_with kind later ++ entries_with kind before
  pub beside : (n : ℕ) → messages_beside n (later ++ before) ≡ messages_beside n later ++ messages_beside n before
  pub times_beside_gps : times_beside (later ++ before) ≡ times_beside later ++ times_beside before
  pub cells_beside_them : cells_beside (later ++ before) ≡ cells_beside later ++ cells_beside before

abbrev pub MessagesAreTakenAlike : Type 0
MessagesAreTakenAlike = (later before : List AnyMessage) → AreTakenAlike later before

-- the changes of times, and of the times before them, add up
abbrev pub ChangesAddUp : Type 0
ChangesAddUp = (later before : List ℕ) (t : ℕ) → changes_in (later ++ t ∷ before) ≡ changes_in (later ++ t ∷ []) + changes_in (t ∷ before)

-- a time that is not the one before it is a change
abbrev pub OtherTimeIsChange : Type 0
OtherTimeIsChange = (t before : ℕ) → (t ≡ before → changes_in (t ∷ before ∷ []) ≡ 0) × (t ≢ before → changes_in (t ∷ before ∷ []) ≡ 1)

-- with each change an epoch begins, and one with the first time
abbrev pub EpochsAreChanges : Type 0
EpochsAreChanges = (t : ℕ) (before : List ℕ) → epochs_in (t ∷ before) ≡ changes_in (t ∷ before) + 1

-- ---- what stands in the text

abbrev pub StandsIn : List ℕ → List ℕ → Type 0
StandsIn part text = (before : List ℕ) × (after : List ℕ) × (text ≡ before ++ part ++ after)

-- in a summary the lines of all stations, of all weeks and of what is not read
abbrev pub PartsStand : Type 0
PartsStand =
    (name text : List ℕ) (fs : List ReadFrame) → StandsIn (stations_text name (messages_in fs) (dates_in fs) (equipment_among fs)) (summary_text name text fs)
    × StandsIn (weeks_text (dates_in fs)) (summary_text name text fs) × StandsIn (unread_lines (faults_in fs)) (summary_text name text fs)

-- in the lines of all stations those of each station of which a message came
abbrev pub StationsStand : Type 0
StationsStand =
    (name : List ℕ) (ms : List AnyMessage) (ds : List DateMessage) (es : List EquipmentMessage) (n : ℕ) → n < 4096 → 0 < length (messages_from n ms)
    → StandsIn (station_lines name n (messages_from n ms) (station_dates n ds) (equipment_of n es)) (stations_text name ms ds es)

-- in the lines of a station its command, by the numbers of epochs
abbrev pub ProposalsStand : Type 0
ProposalsStand =
    (name : List ℕ) (station : ℕ) (ms : List AnyMessage) (d : StationDates) (e : Equipment) → ((kind : MsmKind) → IsHeld (epochs_in (times_with_value kind ms)))
    → StandsIn (station_proposal name (near_text (proposed_date d)) station (λ kind. epochs_in (times_with_value kind ms)) (λ kind. has_code (entries_with kind ms))
    (epochs_beside ms) (taken_beside (proposed_date d) ms) (glonass_beside (proposed_date d) ms))
    (station_lines name station ms d e)

-- in the lines of what is not read those of GPS observations, by the numbers of their messages
abbrev pub UntakenStand : Type 0
UntakenStand =
    (fs : List AnyFault) → IsHeld (length fs)
    → AllByRecursion (λ n. StandsIn (numbered_line (codes "untaken GPS ") n (count_by (is_other n) fs)) (unread_lines fs)) untaken_numbers

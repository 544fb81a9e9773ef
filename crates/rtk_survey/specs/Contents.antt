-- What is held of a capture and of each station that was heard in it, tied to the frames that came so
-- far. Lists of frames, messages, dates and entries are newest first.
use Rattle.std.specs.Prelude.{◌≡◌, ℕ, ◌<◌, ◌+◌, Bool, false, cond, List, [], length, get_or, Option, None, Some, unwrap_or}
use Rattle.std.specs.BTreeMap.{BTreeMap, get}
use Rattle.std.specs.List.{list_any}
use Rattle.std.specs.Ordering.{nat_cmp}
use Rattle.std.specs.declared.vec.Vec.{Vec}
use Rattle.rtk_message.specs.declared.any_message.AnyMessage.{AnyMessage}
use Rattle.rtk_message.specs.declared.any_fault.AnyFault.{AnyFault}
use Rattle.rtk_message.specs.declared.msm_kind.MsmKind.{MsmKind}
use Rattle.rtk_message.specs.declared.msm_kind.MsmKind.TheVariants.{Msm4, Msm5, Msm6, Msm7}
use Rattle.rtk_message.specs.Systems.{number_of_kind}
use Rattle.rtk_obs.specs.declared.cell.CellEntry.{CellEntry}
use Rattle.rtk_obs.specs.declared.code.Code.{Code}
use Rattle.rtk_obs.specs.declared.signal_cells.SignalEntry.{SignalEntry}
use Rattle.rtk_obs.specs.Code.{place_of}
use Rattle.rtk_survey.specs.BesideGps.{is_beside_numbered, messages_beside, cells_beside, gives_index, gives_number, times_beside}
use Rattle.rtk_survey.specs.BitMarks.{is_marked_in}
use Rattle.rtk_survey.specs.Chains.{clocks_of, clocks_at}
use Rattle.rtk_survey.specs.Channels.{CountsChannels, CountsSlots}
use Rattle.rtk_survey.specs.Counting.{shown_count, count_of}
use Rattle.rtk_survey.specs.Dayless.{is_dayless_numbered}
use Rattle.rtk_survey.specs.EquipmentHistory.{no_equipment, equipment_of}
use Rattle.rtk_survey.specs.FrameDates.{dates_in, no_station_dates, station_dates, is_of_week}
use Rattle.rtk_survey.specs.FrameEquipment.{equipment_among}
use Rattle.rtk_survey.specs.Nameless.{is_nameless_numbered}
use Rattle.rtk_survey.specs.Proposal.{epochs_in, times_with_value, entries_with}
use Rattle.rtk_survey.specs.ReadFrames.{ReadFrame, bytes_in, messages_in, faults_in, messages_from}
use Rattle.rtk_survey.specs.ReferencePoints.{first_point, far_point, has_other_point}
use Rattle.rtk_survey.specs.Sbas.{has_sbas}
use Rattle.rtk_survey.specs.SystemTellings.{system_messages_in, names_week, HasLeapRanges}
use Rattle.rtk_survey.specs.Targets.{IsAnswer}
use Rattle.rtk_survey.specs.Tracing.{is_numbered, is_other, is_short, is_outside_week, is_no_number, is_too_many_cells, times_of_week, newest_time, oldest_time, changes_in, entries_in, gives_satellite, gives_place}
use Rattle.rtk_survey.specs.declared.contents.Contents.{Contents}
use Rattle.rtk_survey.specs.declared.date_message.DateMessage.{DateMessage}
use Rattle.rtk_survey.specs.declared.epochs.Epochs.{Epochs}
use Rattle.rtk_survey.specs.declared.equipment.Equipment.{Equipment}
use Rattle.rtk_survey.specs.declared.equipment_message.EquipmentMessage.{EquipmentMessage}
use Rattle.rtk_survey.specs.declared.msm_parts.MsmPart.{MsmPart}
use Rattle.rtk_survey.specs.declared.msm_parts.MsmParts.{MsmParts}
use Rattle.rtk_survey.specs.declared.signals.Codes.{Codes}
use Rattle.rtk_survey.specs.declared.signals.Signals.{Signals}
use Rattle.rtk_survey.specs.declared.station.MessageCounts.{MessageCounts}
use Rattle.rtk_survey.specs.declared.station.StationSurvey.{StationSurvey}
use Rattle.rtk_survey.specs.declared.station_dates.StationDates.{StationDates}
use Rattle.rtk_survey.specs.declared.survey.CaptureSurvey.{CaptureSurvey}
use Rattle.rtk_survey.specs.declared.system_message.SystemMessage.{SystemMessage}
use Rattle.rtk_survey.specs.declared.system_msm.SystemMsm.{SystemMsm}
use Rattle.rtk_survey.specs.declared.system_signals.SystemSignals.{SystemSignals}
use Rattle.rtk_survey.specs.declared.system_tellings.SystemTellings.{SystemTellings}
use Rattle.rtk_survey.specs.declared.target.Target.{Target}
use Rattle.rtk_survey.specs.declared.times_of_week.Times.{Times}
use Rattle.rtk_survey.specs.declared.unread.Unread.{Unread}

-- 1 for a test that holds
abbrev pub one_if : Bool → ℕ
one_if b = cond b 1 0

-- ---- payloads that are not read

-- the count of a number; one without an entry did not come
abbrev pub count_at : BTreeMap ℕ ℕ → ℕ → ℕ
count_at counts n = unwrap_or (get nat_cmp counts n) 0

-- the counts by number of those that pass a test of that number
abbrev pub Tallies : (ℕ → AnyFault → Bool) → BTreeMap ℕ ℕ → List AnyFault → Type 0
Tallies test counts fs = (n : ℕ) → count_at counts n ≡ count_of (test n) fs

pub record CountsFaults (u : Unread) (fs : List AnyFault) : Type 0 where
  pub no_number : u.no_number ≡ count_of is_no_number fs
  pub others : Tallies is_other u.others fs
  pub short : Tallies is_short u.short fs
  pub outside_week : Tallies is_outside_week u.outside_week fs
  pub too_many_cells : Tallies is_too_many_cells u.too_many_cells fs

-- ---- satellites and codes

-- a mark stands at each place for which an entry passes a test
abbrev pub Marks : (ℕ → CellEntry → Bool) → List Bool → List CellEntry → Type 0
Marks test marks es = (n : ℕ) → n < length marks → get_or marks n false ≡ list_any (test n) es

pub record HasCodes (c : Codes) (es : List CellEntry) : Type 0 where
  pub size : length c.marks ≡ 16
  pub marks : Marks gives_place c.marks es

pub record HasSignals (s : Signals) (es : List CellEntry) : Type 0 where
  pub satellites_size : length s.satellites ≡ 33
  pub satellites : Marks gives_satellite s.satellites es
  pub codes : HasCodes s.codes es

-- ---- times and epochs

-- the first time, the last one, and how many differ from the one before
abbrev pub times_of : List ℕ → Times
times_of ts = record { first = oldest_time ts; last = newest_time ts; changes = shown_count (changes_in ts) }

-- the first and the last of times of week, and how many epochs there are of them
abbrev pub epochs_so_far : List ℕ → Epochs
epochs_so_far ts = record { first = oldest_time ts; last = newest_time ts; count = shown_count (epochs_in ts) }

-- ---- the MSM of a station

pub record HasMsm (kind : MsmKind) (p : MsmPart) (ms : List AnyMessage) : Type 0 where
  pub messages : p.messages ≡ count_of (is_numbered (number_of_kind kind)) ms
  pub epochs : p.epochs ≡ epochs_so_far (times_with_value kind ms)
  pub codes : HasCodes p.codes (entries_with kind ms)

pub record HasMsms (p : MsmParts) (ms : List AnyMessage) : Type 0 where
  pub msm4 : HasMsm Msm4 p.msm4 ms
  pub msm5 : HasMsm Msm5 p.msm5 ms
  pub msm6 : HasMsm Msm6 p.msm6 ms
  pub msm7 : HasMsm Msm7 p.msm7 ms

-- what is held of an MSM
abbrev pub msm_part : MsmParts → MsmKind → MsmPart
msm_part p Msm4 = p.msm4
msm_part p Msm5 = p.msm5
msm_part p Msm6 = p.msm6
msm_part p Msm7 = p.msm7

-- how many epochs of an MSM have a value
abbrev pub epochs_held : MsmParts → MsmKind → ℕ
epochs_held p kind = (msm_part p kind).epochs.count

-- whether a code has a value in a message that `convert` takes with an MSM
abbrev pub codes_held : MsmParts → MsmKind → Code → Bool
codes_held p kind c = get_or (msm_part p kind).codes.marks (place_of c) false

-- ---- other systems than GPS

-- each place is marked for which a cell of any system passes a test, and no other
abbrev pub MarksOfSignals : (ℕ → SignalEntry → Bool) → List ℕ → List SignalEntry → Type 0
MarksOfSignals test words es = (n : ℕ) → is_marked_in words n ≡ list_any (test n) es

-- by the index of the satellite, and by the number of the code
pub record HasSystemSignals (s : SystemSignals) (es : List SignalEntry) : Type 0 where
  pub satellites : MarksOfSignals gives_index s.satellites.words es
  pub codes : MarksOfSignals gives_number s.codes.words es

-- what is held of messages of one number
pub record HasSystemMsm (p : SystemMsm) (own : List AnyMessage) : Type 0 where
  pub messages : p.messages ≡ shown_count (length own)
  pub epochs : p.epochs ≡ epochs_so_far (times_beside own)
  pub signals : HasSystemSignals p.signals (cells_beside own)

-- of a number without an entry no message came
abbrev pub IsMsmKept : List AnyMessage → Option SystemMsm → Type 0
IsMsmKept own None = own ≡ []
IsMsmKept own (Some p) = HasSystemMsm p own

-- each number has its own messages
abbrev pub HasSystems : BTreeMap ℕ SystemMsm → List AnyMessage → Type 0
HasSystems parts ms = (n : ℕ) → IsMsmKept (messages_beside n ms) (get nat_cmp parts n)

abbrev pub messages_of_msm : Option SystemMsm → ℕ
messages_of_msm None = 0
messages_of_msm (Some p) = p.messages

abbrev pub epochs_of_msm : Option SystemMsm → ℕ
epochs_of_msm None = 0
epochs_of_msm (Some p) = p.epochs.count

-- ---- a station

pub record CountsMessages (s : MessageCounts) (ms : List AnyMessage) : Type 0 where
  pub messages : s.messages ≡ shown_count (length ms)
  pub obs_1004 : s.obs_1004 ≡ count_of (is_numbered 1004) ms
  pub arp_1005 : s.arp_1005 ≡ count_of (is_numbered 1005) ms
  pub arp_1006 : s.arp_1006 ≡ count_of (is_numbered 1006) ms
  pub sbas_1004 : s.sbas_1004 ≡ count_of has_sbas ms

-- how many messages of each number have cells without a name
abbrev pub CountsNameless : BTreeMap ℕ ℕ → List AnyMessage → Type 0
CountsNameless counts ms = (n : ℕ) → count_at counts n ≡ count_of (is_nameless_numbered n) ms

-- what is held of the antenna and the receiver: an entry, or none
abbrev pub equipment_at : {A : Type 0} → Vec Equipment A → Equipment
equipment_at entries = get_or entries.items 0 no_equipment

-- the survey of a station with these messages, these dates, and this antenna and receiver
pub record IsStationOf (ms : List AnyMessage) (d : StationDates) (e : Equipment) (s : StationSurvey) : Type 0 where
  pub counts : CountsMessages s.counts ms
  pub times : s.times ≡ times_of (times_of_week ms)
  pub signals : HasSignals s.signals (entries_in ms)
  pub msm : HasMsms s.msm ms
  pub system_signals : HasSystemSignals s.system_signals (cells_beside ms)
  pub system_msm : HasSystems s.system_msm ms
  pub channels : CountsChannels s.channels ms
  pub clocks : clocks_at s.clocks ≡ clocks_of ms
  pub point : s.reference_point ≡ first_point ms
  pub far : s.far_point ≡ far_point ms
  pub dates : s.dates ≡ d
  pub equipment : equipment_at s.equipment ≡ e
  pub nameless : CountsNameless s.nameless ms
  pub other_point : s.has_other_point ≡ has_other_point ms

-- of a station without an entry nothing came
abbrev pub IsHeard : List AnyMessage → StationDates → Equipment → Option StationSurvey → Type 0
IsHeard ms d e None = (ms ≡ []) × (d ≡ no_station_dates) × (e ≡ no_equipment)
IsHeard ms d e (Some s) = IsStationOf ms d e s

-- each station has its own messages, dates, antenna and receiver
abbrev pub AreStations : List AnyMessage → List DateMessage → List EquipmentMessage → BTreeMap ℕ StationSurvey → Type 0
AreStations ms ds es stations =
    (n : ℕ) → IsHeard (messages_from n ms) (station_dates n ds) (equipment_of n es) (get nat_cmp stations n)

-- ---- a capture

abbrev pub CountsWeeks : BTreeMap ℕ ℕ → List DateMessage → Type 0
CountsWeeks weeks ds = (n : ℕ) → count_at weeks n ≡ count_of (is_of_week n) ds

-- how many messages of a number name each week of a system
abbrev pub CountsSystemWeeks : ℕ → BTreeMap ℕ ℕ → List SystemMessage → Type 0
CountsSystemWeeks number weeks ts = (n : ℕ) → count_at weeks n ≡ count_of (names_week number n) ts

-- how many messages of each number came that are of another system than GPS
abbrev pub CountsBeside : BTreeMap ℕ ℕ → List AnyMessage → Type 0
CountsBeside counts ms = (n : ℕ) → count_at counts n ≡ count_of (is_beside_numbered n) ms

-- how many MSM of each number tell no day
abbrev pub CountsDayless : BTreeMap ℕ ℕ → List AnyMessage → Type 0
CountsDayless counts ms = (n : ℕ) → count_at counts n ≡ count_of (is_dayless_numbered n) ms

-- formula
-- how many messages of a number came that a conversion of GPS does not read
abbrev pub others_held : Contents → ℕ → ℕ
others_held c n = shown_count (count_at c.unread.others n + count_at c.beside n)

-- what 1042, 1045, 1046, 1020 and 1013 tell
pub record HasSystemTellings (t : SystemTellings) (ts : List SystemMessage) : Type 0 where
  pub of_1042 : CountsSystemWeeks 1042 t.weeks_1042 ts
  pub of_1045 : CountsSystemWeeks 1045 t.weeks_1045 ts
  pub of_1046 : CountsSystemWeeks 1046 t.weeks_1046 ts
  pub channels : CountsSlots t.channels ts
  pub leap : HasLeapRanges t.leap_seconds ts

-- what is held of these frames, and of a station if it is asked for
pub record HoldsFrames (q : Option Target) (fs : List ReadFrame) (c : Contents) : Type 0 where
  pub frames : c.frames ≡ shown_count (length fs)
  pub framed : c.framed ≡ shown_count (bytes_in fs)
  pub stations : AreStations (messages_in fs) (dates_in fs) (equipment_among fs) c.stations
  pub codes : HasCodes c.codes (entries_in (messages_in fs))
  pub system_signals : HasSystemSignals c.system_signals (cells_beside (messages_in fs))
  pub weeks : CountsWeeks c.weeks (dates_in fs)
  pub system_tellings : HasSystemTellings c.system_tellings (system_messages_in fs)
  pub unread : CountsFaults c.unread (faults_in fs)
  pub beside : CountsBeside c.beside (messages_in fs)
  pub target : IsAnswer q fs c.target
  pub dayless : CountsDayless c.dayless (messages_in fs)

-- the survey of a station in a capture
abbrev pub station_in : ℕ → CaptureSurvey → Option StationSurvey
station_in n s = get nat_cmp s.contents.stations n

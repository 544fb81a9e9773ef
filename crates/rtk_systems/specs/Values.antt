-- The values of the conversion of a station, by the surveys of its captures (this project's rule).
use Rattle.std.specs.Prelude.{ℕ, ◌+◌, ◌-◌, ◌==◌, Bool, true, false, ◌&&◌, ◌||◌, is_some, List, [], ◌∷◌, filter, get_or, slice_get, max, Option, None, Some, if◌then◌else◌}
use Rattle.std.specs.BTreeMap.{get, values}
use Rattle.std.specs.List.{list_any, sum_by}
use Rattle.std.specs.Ordering.{nat_cmp}
use Rattle.rtk_message.specs.declared.msm_kind.MsmKind.{MsmKind}
use Rattle.rtk_message.specs.declared.msm_type.MsmType.{MsmType}
use Rattle.rtk_message.specs.declared.system.System.{System}
use Rattle.rtk_message.specs.declared.system.System.TheVariants.{Gps, Glonass, Galileo, Beidou, Qzss, Sbas, Navic}
use Rattle.rtk_message.specs.Systems.{number_of_type, type_of_number}
use Rattle.rtk_obs.specs.declared.any_code.AnyCode.{AnyCode}
use Rattle.rtk_obs.specs.AnyCode.{system_of, place_of, number_of, all_any_codes}
use Rattle.rtk_setup.specs.Setup.{kind_of}
use Rattle.rtk_setup.specs.declared.system_kinds.SystemKinds.{SystemKinds}
use Rattle.rtk_survey.specs.BitMarks.{is_marked_in}
use Rattle.rtk_survey.specs.Contents.{count_at, msm_part, others_held, station_in}
use Rattle.rtk_survey.specs.Counting.{shown_count}
use Rattle.rtk_survey.specs.Proposal.{proposed}
use Rattle.rtk_survey.specs.declared.epochs.Epochs.{Epochs}
use Rattle.rtk_survey.specs.declared.station.StationSurvey.{StationSurvey}
use Rattle.rtk_survey.specs.declared.survey.CaptureSurvey.{CaptureSurvey}
use Rattle.rtk_survey.specs.declared.system_msm.SystemMsm.{SystemMsm}
use Rattle.rtk_survey.specs.declared.unread.Unread.{Unread}
use Rattle.rtk_rinex.specs.SystemFlags.{flag_of}
use Rattle.rtk_rinex.specs.declared.system_flags.SystemFlags.{SystemFlags}
use Rattle.rtk_systems.specs.declared.values.TakenMessages.{TakenMessages}

-- table
-- the messages of GPS are held beside those of all other systems
abbrev pub is_gps_system : System → Bool
is_gps_system Gps = true
is_gps_system Glonass = false
is_gps_system Galileo = false
is_gps_system Beidou = false
is_gps_system Qzss = false
is_gps_system Sbas = false
is_gps_system Navic = false

-- table
abbrev pub is_glonass_system : System → Bool
is_glonass_system Gps = false
is_glonass_system Glonass = true
is_glonass_system Galileo = false
is_glonass_system Beidou = false
is_glonass_system Qzss = false
is_glonass_system Sbas = false
is_glonass_system Navic = false

-- ---- epochs

abbrev pub no_epochs : Epochs
no_epochs = record { first = None; last = None; count = 0 }

abbrev pub epochs_of_part : Option SystemMsm → Epochs
epochs_of_part None = no_epochs
epochs_of_part (Some p) = p.epochs

-- the epochs of an MSM with a value that a station has
abbrev pub epochs_in_station : MsmType → StationSurvey → Epochs
epochs_in_station m t =
    if is_gps_system m.system then (msm_part t.msm m.kind).epochs else epochs_of_part (get nat_cmp t.system_msm (number_of_type m))

abbrev pub epochs_of_station : MsmType → Option StationSurvey → Epochs
epochs_of_station m None = no_epochs
epochs_of_station m (Some t) = epochs_in_station m t

-- 1 if the first epoch of a capture is the last one of those before it
abbrev pub is_same_epoch : Option ℕ → Option ℕ → ℕ
is_same_epoch None first = 0
is_same_epoch (Some last) None = 0
is_same_epoch (Some last) (Some first) = if last == first then 1 else 0

abbrev pub or_else : Option ℕ → Option ℕ → Option ℕ
or_else None other = other
or_else (Some t) other = Some t

-- formula
-- the epochs of captures, and those of a capture that follows them
abbrev pub joined_epochs : Epochs → Epochs → Epochs
joined_epochs a b = record {
  first = or_else a.first b.first;
  last = or_else b.last a.last;
  count = shown_count (a.count + (b.count - is_same_epoch a.last b.first));
}

abbrev pub epochs_of_capture : ℕ → MsmType → Option CaptureSurvey → Epochs
epochs_of_capture n m None = no_epochs
epochs_of_capture n m (Some s) = epochs_of_station m (station_in n s)

-- the epochs of captures, and those of captures at these places, one after another
abbrev pub epochs_after : Epochs → ℕ → MsmType → List CaptureSurvey → List ℕ → Epochs
epochs_after e n m ss [] = e
epochs_after e n m ss (place ∷ places) =
    epochs_after (joined_epochs e (epochs_of_capture n m (slice_get ss place))) n m ss places

-- how many epochs of an MSM have a value in the captures of a link
abbrev pub epochs_in_link : List CaptureSurvey → ℕ → MsmType → List ℕ → ℕ
epochs_in_link ss n m link = (epochs_after no_epochs n m ss link).count

-- formula
-- the most epochs of an MSM that a link has, if one before them has so many
abbrev pub most_after : ℕ → List CaptureSurvey → ℕ → MsmType → List (List ℕ) → ℕ
most_after most ss n m [] = most
most_after most ss n m (link ∷ links) = most_after (max most (epochs_in_link ss n m link)) ss n m links

-- how many epochs of an MSM have a value in the link that has most of them; copies on several links do not
-- add up
abbrev pub most_epochs_of : List CaptureSurvey → List (List ℕ) → ℕ → MsmType → ℕ
most_epochs_of ss links n m = most_after 0 ss n m links

abbrev pub most_epochs : List CaptureSurvey → List (List ℕ) → ℕ → System → MsmKind → ℕ
most_epochs ss links n system kind = most_epochs_of ss links n (record { system = system; kind = kind })

-- table
-- of each system the MSM with most epochs with a value
abbrev pub kinds_in_links : List CaptureSurvey → List (List ℕ) → ℕ → SystemKinds
kinds_in_links ss links n =
    record {
      gps = proposed (most_epochs ss links n Gps);
      glonass = proposed (most_epochs ss links n Glonass);
      galileo = proposed (most_epochs ss links n Galileo);
      beidou = proposed (most_epochs ss links n Beidou);
      qzss = proposed (most_epochs ss links n Qzss);
      sbas = proposed (most_epochs ss links n Sbas);
      navic = proposed (most_epochs ss links n Navic);
    }

-- ---- codes

abbrev pub has_code_in : AnyCode → Option SystemMsm → Bool
has_code_in c None = false
has_code_in c (Some p) = is_marked_in p.signals.codes.words (number_of c)

-- a code has a value in messages of a station of this number, which is none of GPS
abbrev pub has_code_numbered : ℕ → AnyCode → StationSurvey → Bool
has_code_numbered number c t = has_code_in c (get nat_cmp t.system_msm number)

-- a code of another system than GPS has a value in a message of a station that a conversion takes: an MSM, a 1012, which
-- has codes of GLONASS alone, or a 1004, which has of these the code of SBAS alone
abbrev pub has_code_beside : System → TakenMessages → AnyCode → StationSurvey → Bool
has_code_beside system taken c t =
    has_code_numbered (number_of_type (record { system = system; kind = kind_of taken.kinds system })) c t
    || ((taken.obs1012 && has_code_numbered 1012 c t) || has_code_numbered 1004 c t)

-- a code of a system has a value in a message of a station that a conversion takes
abbrev pub has_code_by : System → TakenMessages → AnyCode → StationSurvey → Bool
has_code_by system taken c t =
    if is_gps_system system then get_or (msm_part t.msm taken.kinds.gps).codes.marks (place_of c) false else has_code_beside system taken c t

abbrev pub has_code_with : TakenMessages → AnyCode → Option StationSurvey → Bool
has_code_with taken c None = false
has_code_with taken c (Some t) = has_code_by (system_of c) taken c t

-- the same of a capture
abbrev pub gives_code : ℕ → TakenMessages → AnyCode → CaptureSurvey → Bool
gives_code n taken c s = has_code_with taken c (station_in n s)

-- a code of one of these systems has one in some capture
abbrev pub is_found : List CaptureSurvey → ℕ → SystemFlags → TakenMessages → AnyCode → Bool
is_found ss n systems taken c = flag_of systems (system_of c) && list_any (gives_code n taken c) ss

abbrev pub codes_in_captures : List CaptureSurvey → ℕ → SystemFlags → TakenMessages → List AnyCode
codes_in_captures ss n systems taken = filter (is_found ss n systems taken) all_any_codes

-- ---- 1012

abbrev pub epochs_1012_of : Option StationSurvey → Epochs
epochs_1012_of None = no_epochs
epochs_1012_of (Some t) = epochs_of_part (get nat_cmp t.system_msm 1012)

-- the epochs of the 1012 of a station with a value that a capture has
abbrev pub epochs_1012_in : ℕ → CaptureSurvey → Epochs
epochs_1012_in n s = epochs_1012_of (station_in n s)

abbrev pub gives_1012 : ℕ → CaptureSurvey → Bool
gives_1012 n s = is_some (epochs_1012_in n s).first

-- some 1012 of a station has a value
abbrev pub is_1012_given : List CaptureSurvey → ℕ → Bool
is_1012_given ss n = list_any (gives_1012 n) ss

-- ---- messages

abbrev pub messages_of_station : MsmKind → Option StationSurvey → ℕ
messages_of_station kind None = 0
messages_of_station kind (Some t) = (msm_part t.msm kind).messages

-- how many messages of an MSM captures have of a station
abbrev pub messages_in_captures : List CaptureSurvey → ℕ → MsmKind → ℕ
messages_in_captures ss n kind = shown_count (sum_by (λ s. messages_of_station kind (station_in n s)) ss)

abbrev pub obs_1004_of_station : Option StationSurvey → ℕ
obs_1004_of_station None = 0
obs_1004_of_station (Some t) = t.counts.obs_1004

-- how many 1004 of a station captures have
abbrev pub obs_1004_in_captures : List CaptureSurvey → ℕ → ℕ
obs_1004_in_captures ss n = shown_count (sum_by (λ s. obs_1004_of_station (station_in n s)) ss)

abbrev pub sbas_of_station : Option StationSurvey → ℕ
sbas_of_station None = 0
sbas_of_station (Some t) = t.counts.sbas_1004

-- how many 1004 of a station captures have in which there is a satellite of SBAS
abbrev pub sbas_in_captures : List CaptureSurvey → ℕ → ℕ
sbas_in_captures ss n = shown_count (sum_by (λ s. sbas_of_station (station_in n s)) ss)

-- how many messages of a number were refused
abbrev pub refused_of_number : Unread → ℕ → ℕ
refused_of_number u number = shown_count (shown_count (count_at u.short number + count_at u.outside_week number) + count_at u.too_many_cells number)

-- how many were, if they are MSM of another system than GPS, which a conversion of GPS takes for other messages
abbrev pub refused_beside : Option MsmType → Unread → ℕ → ℕ
refused_beside None u number = 0
refused_beside (Some m) u number = if is_gps_system m.system then 0 else refused_of_number u number

-- how many messages of a number a capture has that a conversion of GPS does not read
abbrev pub others_of_capture : ℕ → CaptureSurvey → ℕ
others_of_capture number s = shown_count (others_held s.contents number + refused_beside (type_of_number number) s.contents.unread number)

abbrev pub others_in_captures : List CaptureSurvey → ℕ → ℕ
others_in_captures ss number = shown_count (sum_by (others_of_capture number) ss)

-- how many messages of a number that a conversion of GPS reads can't be read
abbrev pub refused_reading : Option MsmType → Unread → ℕ → ℕ
refused_reading None u number = refused_of_number u number
refused_reading (Some m) u number = if is_gps_system m.system then refused_of_number u number else 0

abbrev pub refused_in_capture : ℕ → CaptureSurvey → ℕ
refused_in_capture number s = refused_reading (type_of_number number) s.contents.unread number

-- those of captures, of all stations: such a message tells no station
abbrev pub refused_in_captures : List CaptureSurvey → ℕ → ℕ
refused_in_captures ss number = shown_count (sum_by (refused_in_capture number) ss)

-- so many messages of a number, and those that can't be read
abbrev pub with_refused : List CaptureSurvey → ℕ → ℕ → ℕ
with_refused ss number count = shown_count (count + refused_in_captures ss number)

-- how many 1012 captures have, whether they are read or not
abbrev pub all_1012_in_captures : List CaptureSurvey → ℕ
all_1012_in_captures ss = with_refused ss 1012 (others_in_captures ss 1012)

-- table
-- how many messages of a number that is read a station has
abbrev pub read_of_station : ℕ → StationSurvey → ℕ
read_of_station number t =
    if number == 1004 then t.counts.obs_1004 else
    if number == 1005 then t.counts.arp_1005 else
    if number == 1006 then t.counts.arp_1006 else
    if number == 1074 then t.msm.msm4.messages else
    if number == 1075 then t.msm.msm5.messages else
    if number == 1076 then t.msm.msm6.messages else
    if number == 1077 then t.msm.msm7.messages else 0

-- how many such messages a capture has, of all stations
abbrev pub read_in_capture : ℕ → CaptureSurvey → ℕ
read_in_capture number s = shown_count (sum_by (read_of_station number) (values s.contents.stations))

abbrev pub read_in_captures : List CaptureSurvey → ℕ → ℕ
read_in_captures ss number = shown_count (sum_by (read_in_capture number) ss)

-- how many messages of a number captures have, whether they are read or not
abbrev pub held_in_captures : List CaptureSurvey → ℕ → ℕ
held_in_captures ss number = with_refused ss number (shown_count (others_in_captures ss number + read_in_captures ss number))

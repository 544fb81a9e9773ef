-- What the command of a station takes of other systems than GPS, and its options (this project's rule). What messages of a
-- number have is given by functions of the number (DF002).
use Rattle.std.specs.Prelude.{ℕ, zero, suc, ◌+◌, ◌-◌, ◌%◌, ◌==◌, Bool, false, not, ◌&&◌, ◌||◌, nat_lt, List, [], ◌∷◌, ◌++◌, flat_map, codes, Option, None, Some, if◌then◌else◌}
use Rattle.std.specs.List.{list_any, range_with_len}
use Rattle.rtk_message.specs.declared.msm_kind.MsmKind.{MsmKind}
use Rattle.rtk_message.specs.declared.msm_kind.MsmKind.TheVariants.{Msm4, Msm5, Msm6, Msm7}
use Rattle.rtk_message.specs.declared.system.System.{System}
use Rattle.rtk_message.specs.declared.system.System.TheVariants.{Glonass, Galileo, Beidou, Qzss, Sbas, Navic}
use Rattle.rtk_message.specs.Fields.{week_ms}
use Rattle.rtk_message.specs.Systems.{number_of_type}
use Rattle.rtk_obs.specs.declared.any_code.AnyCode.{AnyCode}
use Rattle.rtk_obs.specs.declared.code.Code.{Code}
use Rattle.rtk_obs.specs.SatelliteIndex.{letter_of}
use Rattle.rtk_survey.specs.Channels.{place_of_field}
use Rattle.rtk_survey.specs.Proposal.{proposed}
use Rattle.rtk_survey.specs.SummaryText.{told_channel_text, msm_option, proposal_lines}
use Rattle.rtk_survey.specs.Telling.{moment_of}
use Rattle.rtk_survey.specs.UncheckedClocks.{is_sent, systems_sent}
use Rattle.rtk_survey.specs.WrongClocks.{is_system_wrong}
use Rattle.rtk_survey.specs.declared.clock_chains.ClockOffsets.{ClockOffsets}
use Rattle.rtk_survey.specs.declared.date_message.UtcDate.{UtcDate}
use Rattle.rtk_survey.specs.declared.systems_sent.SystemsSent.{SystemsSent}

-- ---- the MSM of a system

-- the number of the MSM of this system and kind
abbrev pub msm_number : System → MsmKind → ℕ
msm_number system kind = number_of_type (record { system = system; kind = kind })

-- the epochs with a value of its kinds
abbrev pub epochs_by : (ℕ → ℕ) → System → MsmKind → ℕ
epochs_by epochs system kind = epochs (msm_number system kind)

-- its kind with most epochs with a value, of two alike the greater
abbrev pub kind_by : (ℕ → ℕ) → System → MsmKind
kind_by epochs system = proposed (epochs_by epochs system)

abbrev pub number_by : (ℕ → ℕ) → System → ℕ
number_by epochs system = msm_number system (kind_by epochs system)

-- ---- the systems with clocks

-- an MSM of a system has an epoch with a value
abbrev pub sends_msm : (ℕ → ℕ) → System → Bool
sends_msm epochs system = nat_lt 0 (epochs (number_by epochs system))

-- SBAS has clocks by its MSM alone: a 1004 has that of GPS
abbrev pub with_own_sbas : (ℕ → ℕ) → SystemsSent → SystemsSent
with_own_sbas epochs sent = record sent { sbas = sends_msm epochs Sbas }

-- ---- 1012

-- formula
-- a time of week lies within half a day of a moment, but for a minute, which is left for 1012 beside the epochs
abbrev pub is_time_near : ℕ → ℕ → Bool
is_time_near near tow = nat_lt ((tow + week_ms + 43_140_000 - near % week_ms) % week_ms) 86_280_000

abbrev pub is_time_near_if_any : ℕ → Option ℕ → Bool
is_time_near_if_any near None = false
is_time_near_if_any near (Some tow) = is_time_near near tow

-- 1012, which tell no day, are dated right near a date: the first and the last GPS time of week lie within half a day of it
abbrev pub dates_1012 : Option UtcDate → Option ℕ → Option ℕ → Bool
dates_1012 None first last = false
dates_1012 (Some d) first last = is_time_near_if_any (moment_of d) first && is_time_near_if_any (moment_of d) last

-- the command takes 1012: they are dated right, and some have a value
abbrev pub next_takes_1012 : Option UtcDate → Option ℕ → Option ℕ → (ℕ → ℕ) → Bool
next_takes_1012 date first last epochs = dates_1012 date first last && nat_lt 0 (epochs 1012)

-- ---- the codes that are taken

-- table
abbrev pub systems_beside : List System
systems_beside = Glonass ∷ Galileo ∷ Beidou ∷ Qzss ∷ Sbas ∷ Navic ∷ []

-- a code has a value in the MSM of a system whose clocks are not wrong
abbrev pub takes_code : Option UtcDate → ClockOffsets → (ℕ → ℕ) → (ℕ → AnyCode → Bool) → AnyCode → System → Bool
takes_code date s epochs code c system = not (is_system_wrong date s system) && code (number_by epochs system) c

-- a code has a value in 1012, if clocks of GLONASS are not wrong
abbrev pub takes_code_1012 : Option UtcDate → ClockOffsets → (ℕ → AnyCode → Bool) → AnyCode → Bool
takes_code_1012 date s code c = not (is_system_wrong date s Glonass) && code 1012 c

-- a code has a value of a satellite of SBAS in 1004, if clocks of SBAS are not wrong
abbrev pub takes_code_1004 : Option UtcDate → ClockOffsets → (ℕ → AnyCode → Bool) → AnyCode → Bool
takes_code_1004 date s code c = not (is_system_wrong date s Sbas) && code 1004 c

-- the codes of other systems than GPS that the command takes, with 1012 or without them
unfoldable pub other_taken : Option UtcDate → ClockOffsets → (ℕ → ℕ) → (ℕ → AnyCode → Bool) → Bool → AnyCode → Bool
other_taken date s epochs code legacy c =
    (legacy && takes_code_1012 date s code c) || (takes_code_1004 date s code c || list_any (takes_code date s epochs code c) systems_beside)

-- ---- the option of kinds

-- table
-- the digit that an option writes for a kind
abbrev pub msm_digit : MsmKind → ℕ
msm_digit Msm4 = 52
msm_digit Msm5 = 53
msm_digit Msm6 = 54
msm_digit Msm7 = 55

-- the kind of the first system that is taken
abbrev pub leading_kind : MsmKind → (ℕ → ℕ) → SystemsSent → MsmKind
leading_kind gps epochs sent =
    if sent.gps then gps else if sent.glonass then kind_by epochs Glonass else if sent.galileo then kind_by epochs Galileo else
    if sent.beidou then kind_by epochs Beidou else if sent.qzss then kind_by epochs Qzss else
    if sent.sbas then kind_by epochs Sbas else if sent.navic then kind_by epochs Navic else gps

-- formula
-- another kind stands behind a comma, with the letter of its system
abbrev pub other_kind_text : MsmKind → (ℕ → ℕ) → SystemsSent → System → List ℕ
other_kind_text first epochs sent system =
    if is_sent sent system && not (msm_digit (kind_by epochs system) == msm_digit first)
    then 44 ∷ letter_of system ∷ msm_digit (kind_by epochs system) ∷ [] else []

unfoldable pub other_kinds_text : MsmKind → (ℕ → ℕ) → SystemsSent → List ℕ
other_kinds_text first epochs sent =
    other_kind_text first epochs sent Glonass ++ other_kind_text first epochs sent Galileo ++ other_kind_text first epochs sent Beidou
    ++ other_kind_text first epochs sent Qzss ++ other_kind_text first epochs sent Sbas ++ other_kind_text first epochs sent Navic

-- formula
-- one kind for all systems, and the others
abbrev pub kinds_words_of : MsmKind → List ℕ → List ℕ
kinds_words_of first [] = msm_option first
kinds_words_of first (x ∷ xs) = codes " --msm " ++ msm_digit first ∷ x ∷ xs

abbrev pub kinds_option : MsmKind → (ℕ → ℕ) → SystemsSent → List ℕ
kinds_option gps epochs sent = kinds_words_of (leading_kind gps epochs sent) (other_kinds_text (leading_kind gps epochs sent) epochs sent)

-- ---- the option of channels

abbrev pub more_told : (ℕ → ℕ) → Option ℕ → ℕ → Option ℕ
more_told counts None field = if nat_lt 0 (counts field) then Some field else None
more_told counts (Some told) field = if nat_lt (counts told) (counts field) then Some field else Some told

-- of the first fields the one that most messages tell, of two alike the lesser
abbrev pub most_told : (ℕ → ℕ) → ℕ → Option ℕ
most_told counts zero = None
most_told counts (suc n) = more_told counts (most_told counts n) n

-- constant
-- of the fields that tell a channel
unfoldable pub told_of_slot : (ℕ → ℕ) → Option ℕ
told_of_slot counts = most_told counts 14

-- formula
-- a slot and its channel behind a comma
abbrev pub item_text : ℕ → Option ℕ → List ℕ
item_text slot None = []
item_text slot (Some field) = 44 ∷ told_channel_text (place_of_field slot field)

-- a slot that has a value, with the channel that most messages tell
abbrev pub slot_item : (ℕ → Bool) → (ℕ → ℕ → ℕ) → ℕ → List ℕ
slot_item slots fields slot = if slots slot then item_text slot (told_of_slot (fields slot)) else []

-- constant
-- those of all slots
unfoldable pub slot_items : (ℕ → Bool) → (ℕ → ℕ → ℕ) → List ℕ
slot_items slots fields = flat_map (slot_item slots fields) (range_with_len 1 27)

-- formula
abbrev pub listed_items : List ℕ → List ℕ
listed_items [] = codes " --channels none"
listed_items (x ∷ xs) = codes " --channels " ++ xs

-- formula
abbrev pub words_with_1012 : Bool → List ℕ
words_with_1012 legacy = if legacy then codes " --with-1012" else []

-- the options of GLONASS: the channels of slots, and 1012 if they are taken
unfoldable pub glonass_options : List ℕ → Bool → List ℕ
glonass_options items legacy = listed_items items ++ words_with_1012 legacy

-- these options, if GLONASS is taken
abbrev pub glonass_words_of : SystemsSent → List ℕ → List ℕ
glonass_words_of sent options = if sent.glonass then options else []

-- ---- the command

unfoldable pub next_options : (ℕ → ℕ) → List ℕ → MsmKind → SystemsSent → List ℕ
next_options epochs glonass gps sent = kinds_option gps epochs sent ++ glonass_words_of sent glonass

-- the lines of the command of a station, by what its messages of other systems have, and the options of GLONASS
unfoldable pub station_proposal : List ℕ → List ℕ → ℕ → (MsmKind → ℕ) → (MsmKind → Code → Bool) → (ℕ → ℕ) → (AnyCode → Bool) → List ℕ → List ℕ
station_proposal name near station epochs code beside other glonass =
    proposal_lines name near station epochs code other (λ kind. next_options beside glonass kind (systems_sent (code kind) other))

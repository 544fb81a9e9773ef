-- The frequency channels of the slots of GLONASS, by the surveys of captures (this project's rule).
-- Source: RTCM 10403.3, DF038, DF040 and DF419
use Rattle.std.specs.Prelude.{◌≡◌, ◌≢◌, ◌<◌, ◌≤◌, ℕ, ◌+◌, ℤ, ◌-ℤ◌, pos, Bool, true, false, ◌&&◌, ◌||◌, List, Option, None, Some}
use Rattle.std.specs.BTreeMap.{get}
use Rattle.std.specs.List.{list_any, sum_by}
use Rattle.std.specs.Ordering.{nat_cmp}
use Rattle.rtk_message.specs.declared.system.System.TheVariants.{Glonass}
use Rattle.rtk_message.specs.Systems.{number_of_type}
use Rattle.rtk_obs.specs.Carriers.{AreChannels, IsSlot, channel_at}
use Rattle.rtk_obs.specs.LeapSeconds.{IsLeapSecondsAt}
use Rattle.rtk_obs.specs.declared.any_code.AnyCode.{AnyCode}
use Rattle.rtk_rinex.specs.MixedHead.{GlonassView, has_glonass}
use Rattle.rtk_survey.specs.BitMarks.{is_marked_in}
use Rattle.rtk_survey.specs.Channels.{count_of_field}
use Rattle.rtk_survey.specs.Counting.{shown_count}
use Rattle.rtk_survey.specs.declared.station.StationSurvey.{StationSurvey}
use Rattle.rtk_survey.specs.declared.survey.CaptureSurvey.{CaptureSurvey}
use Rattle.rtk_survey.specs.declared.system_msm.SystemMsm.{SystemMsm}
use Rattle.rtk_systems.specs.AlikeChannels.{is_alike}
use Rattle.rtk_survey.specs.Contents.{station_in}
use Rattle.rtk_systems.specs.declared.values.TakenMessages.{TakenMessages}

-- ---- slots that have a value

-- formula
-- the satellite of a slot has a value; those of GPS stand before it
abbrev pub is_slot_in : ℕ → Option SystemMsm → Bool
is_slot_in slot None = false
is_slot_in slot (Some p) = is_marked_in p.signals.satellites.words (32 + slot)

-- the same in the messages of a station that a conversion takes
abbrev pub holds_slot : ℕ → TakenMessages → Option StationSurvey → Bool
holds_slot slot taken None = false
holds_slot slot taken (Some t) =
    is_slot_in slot (get nat_cmp t.system_msm (number_of_type (record { system = Glonass; kind = taken.kinds.glonass })))
    || (taken.obs1012 && is_slot_in slot (get nat_cmp t.system_msm 1012))

abbrev pub gives_slot : ℕ → TakenMessages → ℕ → CaptureSurvey → Bool
gives_slot n taken slot s = holds_slot slot taken (station_in n s)

abbrev pub is_slot_given : List CaptureSurvey → ℕ → TakenMessages → ℕ → Bool
is_slot_given ss n taken slot = list_any (gives_slot n taken slot) ss

-- ---- channels that messages tell

abbrev pub fields_of_station : ℕ → ℕ → Option StationSurvey → ℕ
fields_of_station slot field None = 0
fields_of_station slot field (Some t) = count_of_field t.channels slot field

-- how many messages of a station tell this field of this slot (DF419)
abbrev pub own_count : List CaptureSurvey → ℕ → ℕ → ℕ → ℕ
own_count ss n slot field = shown_count (sum_by (λ s. fields_of_station slot field (station_in n s)) ss)

abbrev pub fields_of_1020 : ℕ → ℕ → CaptureSurvey → ℕ
fields_of_1020 slot field s = count_of_field s.contents.system_tellings.channels slot field

-- how many 1020, which name no station, tell it (DF040)
abbrev pub count_of_1020 : List CaptureSurvey → ℕ → ℕ → ℕ
count_of_1020 ss slot field = shown_count (sum_by (fields_of_1020 slot field) ss)

-- how many messages of a station do, or else 1020
abbrev pub count_told : List CaptureSurvey → Option ℕ → ℕ → ℕ → ℕ
count_told ss None slot field = count_of_1020 ss slot field
count_told ss (Some n) slot field = own_count ss n slot field

-- of so many fields this one is told: no other one more often, and no lesser one as often
pub record IsMostTold (counts : ℕ → ℕ) (fields field : ℕ) : Type 0 where
  pub few : field < fields
  pub some : 0 < counts field
  pub most : (f : ℕ) → f < fields → counts f ≤ counts field
  pub least : (f : ℕ) → f < field → counts f < counts field

-- the field that is told most often, if one is told
abbrev pub IsToldField : (ℕ → ℕ) → ℕ → Option ℕ → Type 0
IsToldField counts fields None = (f : ℕ) → f < fields → counts f ≡ 0
IsToldField counts fields (Some field) = IsMostTold counts fields field

-- formula
-- a field is 7 more than the channel
abbrev pub channel_of_field : ℕ → ℤ
channel_of_field field = pos field -ℤ pos 7

abbrev pub channel_if : Bool → Option ℕ → Option ℤ
channel_if is_given None = None
channel_if false (Some field) = None
channel_if true (Some field) = Some (channel_of_field field)

-- constant
-- the channel that these messages tell most often of a slot, by the fields 0 to 13: none, if no satellite has a value
-- there or if none is told
abbrev pub IsToldChannel : List CaptureSurvey → ℕ → TakenMessages → Option ℕ → ℕ → Option ℤ → Type 0
IsToldChannel ss n taken source slot channel =
    (told : Option ℕ) × IsToldField (count_told ss source slot) 14 told × (channel ≡ channel_if (is_slot_given ss n taken slot) told)

-- each slot has the channel that messages of the station tell
abbrev pub HasOwnChannels : List CaptureSurvey → ℕ → TakenMessages → List (Option ℤ) → Type 0
HasOwnChannels ss n taken channels = (slot : ℕ) → IsSlot slot → IsToldChannel ss n taken (Some n) slot (channel_at channels slot)

pub record AreOwnChannels (ss : List CaptureSurvey) (n : ℕ) (taken : TakenMessages) (channels : List (Option ℤ)) : Type 0 where
  pub good : AreChannels channels
  pub each : HasOwnChannels ss n taken channels

abbrev pub channel_or : Option ℤ → Option ℤ → Option ℤ
channel_or None other = other
channel_or (Some k) other = Some k

-- the channel of the station's own messages goes before that of 1020, but not if it is alike at more slots than may share it
abbrev pub chosen_channel : Bool → Option ℤ → Option ℤ → Option ℤ
chosen_channel true own other = channel_or other own
chosen_channel false own other = channel_or own other

-- the channel of a slot, by those that messages of the station tell and by that of 1020
abbrev pub IsChannelFound : List CaptureSurvey → ℕ → TakenMessages → List (Option ℤ) → ℕ → Option ℤ → Type 0
IsChannelFound ss n taken own slot channel =
    (other : Option ℤ) × IsToldChannel ss n taken None slot other × (channel ≡ chosen_channel (is_alike own slot) (channel_at own slot) other)

-- other slots than this one keep their channels: before, after
abbrev pub KeepsOtherSlots : ℕ → List (Option ℤ) → List (Option ℤ) → Type 0
KeepsOtherSlots slot old new = (s : ℕ) → IsSlot s → s ≢ slot → channel_at new s ≡ channel_at old s

-- each slot has the channel that is found
abbrev pub HasChannelsFound : List CaptureSurvey → ℕ → TakenMessages → List (Option ℤ) → List (Option ℤ) → Type 0
HasChannelsFound ss n taken own channels = (slot : ℕ) → IsSlot slot → IsChannelFound ss n taken own slot (channel_at channels slot)

pub record AreChannelsFound (ss : List CaptureSurvey) (n : ℕ) (taken : TakenMessages) (channels : List (Option ℤ)) : Type 0 where
  pub good : AreChannels channels
  pub own : List (Option ℤ)
  pub own_are : AreOwnChannels ss n taken own
  pub each : HasChannelsFound ss n taken own channels

-- ---- what is told of GLONASS

-- the channel of a slot that is given, else the one that is found
abbrev pub IsJoinedChannel : List (Option ℤ) → List (Option ℤ) → ℕ → Option ℤ → Type 0
IsJoinedChannel given found slot channel = channel ≡ channel_or (channel_at given slot) (channel_at found slot)

abbrev pub HasJoinedChannels : List (Option ℤ) → List (Option ℤ) → List (Option ℤ) → Type 0
HasJoinedChannels given found channels = (slot : ℕ) → IsSlot slot → IsJoinedChannel given found slot (channel_at channels slot)

pub record AreJoinedChannels (given found channels : List (Option ℤ)) : Type 0 where
  pub good : AreChannels channels
  pub each : HasJoinedChannels given found channels

-- the channels that are given, and of each other slot the one that is found
abbrev pub AreChannelsChosen : Option (List (Option ℤ)) → List CaptureSurvey → ℕ → TakenMessages → List (Option ℤ) → Type 0
AreChannelsChosen None ss n taken channels = AreChannelsFound ss n taken channels
AreChannelsChosen (Some given) ss n taken channels =
    (found : List (Option ℤ)) × AreChannelsFound ss n taken found × AreJoinedChannels given found channels

-- the leap seconds that are given, else those of the table at the moment near which captures are dated
abbrev pub AreSecondsChosen : Option ℕ → ℕ → ℕ → Type 0
AreSecondsChosen None near seconds = IsLeapSecondsAt near seconds
AreSecondsChosen (Some given) near seconds = seconds ≡ given

pub record IsGlonassOf (ss : List CaptureSurvey) (n : ℕ) (taken : TakenMessages) (channels : Option (List (Option ℤ))) (seconds : Option ℕ) (near : ℕ) (g : GlonassView) : Type 0 where
  pub channels_are : AreChannelsChosen channels ss n taken g.channels
  pub seconds_are : AreSecondsChosen seconds near g.leap_seconds

-- with a code of GLONASS, and only then, it is told of
abbrev pub IsGlonassFound : List CaptureSurvey → ℕ → TakenMessages → List AnyCode → Option (List (Option ℤ)) → Option ℕ → ℕ → Option GlonassView → Type 0
IsGlonassFound ss n taken listed channels seconds near None = has_glonass listed ≡ false
IsGlonassFound ss n taken listed channels seconds near (Some g) = (has_glonass listed ≡ true) × IsGlonassOf ss n taken channels seconds near g

-- The lines of the slots of GLONASS of which messages tell several channels (this project's rule).
-- Source: RTCM 10403.3, DF040 and DF419
use Rattle.std.specs.Prelude.{ℕ, ℤ, Bool, ◌&&◌, ◌||◌, nat_lt, List, [], ◌∷◌, ◌++◌, flat_map, codes, Option, is_none, if◌then◌else◌}
use Rattle.std.specs.List.{sum_by}
use Rattle.rtk_obs.specs.CivilText.{last_digits}
use Rattle.rtk_survey.specs.Counting.{shown_count}
use Rattle.rtk_survey.specs.SummaryText.{field_channel_text}
use Rattle.rtk_survey.specs.declared.survey.CaptureSurvey.{CaptureSurvey}
use Rattle.rtk_systems.specs.AlikeChannels.{channel_in_slot, is_alike}
use Rattle.rtk_systems.specs.ChannelWords.{all_slots}
use Rattle.rtk_systems.specs.SlotChannels.{is_slot_given, own_count, count_of_1020}
use Rattle.rtk_systems.specs.declared.values.TakenMessages.{TakenMessages}

-- table
-- the fields that tell a channel: -7 to +13
abbrev pub told_fields : List ℕ
told_fields =
    0 ∷ 1 ∷ 2 ∷ 3 ∷ 4 ∷ 5 ∷ 6 ∷ 7 ∷ 8 ∷ 9 ∷ 10 ∷ 11 ∷ 12 ∷ 13 ∷ 14 ∷ 15 ∷ 16 ∷ 17 ∷ 18 ∷ 19 ∷ 20 ∷ []

-- formula
-- the satellite of a slot, as in R09
abbrev pub satellite_of_slot : ℕ → List ℕ
satellite_of_slot slot = codes " R" ++ last_digits 2 slot

-- 1020 give a slot its channel, if MSM and 1012 of the station tell none that a file can have, or one of too many slots
abbrev pub is_from_1020 : List (Option ℤ) → ℕ → Bool
is_from_1020 own slot = is_none (channel_in_slot own slot) || is_alike own slot

-- messages tell a field of a slot: MSM or 1012 of the station, or 1020 if these give the slot its channel
abbrev pub is_field_told : List CaptureSurvey → ℕ → List (Option ℤ) → ℕ → ℕ → Bool
is_field_told ss n own slot field =
    nat_lt 0 (own_count ss n slot field) || (is_from_1020 own slot && nat_lt 0 (count_of_1020 ss slot field))

-- 1 if they do
unfoldable pub count_if_told : List CaptureSurvey → ℕ → List (Option ℤ) → ℕ → ℕ → ℕ
count_if_told ss n own slot field = if is_field_told ss n own slot field then 1 else 0

-- how many channels they tell of a slot
abbrev pub channels_told_of : List CaptureSurvey → ℕ → List (Option ℤ) → ℕ → ℕ
channels_told_of ss n own slot = shown_count (sum_by (count_if_told ss n own slot) told_fields)

-- formula
unfoldable pub told_channel : List CaptureSurvey → ℕ → List (Option ℤ) → ℕ → ℕ → List ℕ
told_channel ss n own slot field = if is_field_told ss n own slot field then 32 ∷ field_channel_text field else []

-- formula
-- a slot, and the channels that messages tell of it
unfoldable pub several_words : List CaptureSurvey → ℕ → List (Option ℤ) → ℕ → List ℕ
several_words ss n own slot = codes " several-channels" ++ satellite_of_slot slot ++ flat_map (told_channel ss n own slot) told_fields ++ codes "\n"

-- a slot has a value, and messages tell several channels of it
abbrev pub has_several : List CaptureSurvey → ℕ → TakenMessages → List (Option ℤ) → ℕ → Bool
has_several ss n taken own slot = nat_lt slot 28 && (is_slot_given ss n taken slot && nat_lt 1 (channels_told_of ss n own slot))

abbrev pub several_line : List CaptureSurvey → ℕ → TakenMessages → List (Option ℤ) → ℕ → List ℕ
several_line ss n taken own slot = if has_several ss n taken own slot then several_words ss n own slot else []

abbrev pub several_lines : List CaptureSurvey → ℕ → TakenMessages → List (Option ℤ) → List ℕ
several_lines ss n taken own = flat_map (several_line ss n taken own) all_slots

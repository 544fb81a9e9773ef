-- How often messages tell each frequency channel of each slot of GLONASS. Lists of messages are newest first.
-- Source: RTCM 10403.3, DF038, DF040, DF394 and DF419
use Rattle.std.specs.Prelude.{◌≡◌, ℕ, ◌+◌, ◌-◌, ◌*◌, ◌/◌, ◌%◌, ◌^◌, ◌==◌, ◌<◌, ◌≤◌, Bool, true, false, not, ◌&&◌, List, [], ◌∷◌, length, slice_get, count_ones, nat_lt, Option, None, Some, unwrap_or, if◌then◌else◌}
use Rattle.std.specs.BTreeMap.{BTreeMap, get}
use Rattle.std.specs.Ordering.{nat_cmp}
use Rattle.rtk_message.specs.declared.any_message.AnyMessage.{AnyMessage}
use Rattle.rtk_message.specs.declared.any_message.AnyMessage.TheVariants as any
use Rattle.rtk_message.specs.declared.msm.Msm.{Msm}
use Rattle.rtk_message.specs.declared.obs1012.GlonassSatellite.{GlonassSatellite}
use Rattle.rtk_message.specs.declared.system.System.{System}
use Rattle.rtk_message.specs.declared.system.System.TheVariants.{Gps, Glonass, Galileo, Beidou, Qzss, Sbas, Navic}
use Rattle.rtk_survey.specs.Counting.{count_of}
use Rattle.rtk_survey.specs.declared.system_message.SlotChannel.{SlotChannel}
use Rattle.rtk_survey.specs.declared.system_message.SystemMessage.{SystemMessage}
use Rattle.rtk_survey.specs.declared.system_message.SystemMessage.TheVariants.{Week, Slot, Leap}

-- formula
-- the mask has the bit of this slot; the first bit is the most significant one
abbrev pub has_slot_bit : ℕ → ℕ → Bool
has_slot_bit mask slot = (mask / 2 ^ (64 - slot)) % 2 == 1

-- formula
-- how many bits of the mask stand before that of this slot
abbrev pub slots_before : ℕ → ℕ → ℕ
slots_before mask slot = count_ones (mask / 2 ^ (64 - slot) / 2)

-- the field of a slot (DF419), if the message has its satellite and such fields
abbrev pub slot_field : Msm → ℕ → Option ℕ
slot_field m slot =
    if has_slot_bit m.header.satellite_mask slot then slice_get m.extended (slots_before m.header.satellite_mask slot) else None

abbrev pub is_field : Option ℕ → ℕ → Bool
is_field None field = false
is_field (Some told) field = told == field

-- table
abbrev pub is_glonass : System → Bool
is_glonass Gps = false
is_glonass Glonass = true
is_glonass Galileo = false
is_glonass Beidou = false
is_glonass Qzss = false
is_glonass Sbas = false
is_glonass Navic = false

-- constant
-- the field, if it tells a channel in an MSM: 15 tells none (DF419)
abbrev pub if_channel : Option ℕ → Option ℕ
if_channel None = None
if_channel (Some field) = if not (field == 15) then Some field else None

abbrev pub field_in_msm : Msm → ℕ → Option ℕ
field_in_msm m slot = if is_glonass m.system then if_channel (slot_field m slot) else None

-- the field of the first satellite of a slot (DF040)
abbrev pub field_in_1012 : ℕ → List GlonassSatellite → Option ℕ
field_in_1012 slot [] = None
field_in_1012 slot (s ∷ ss) = if s.slot == slot then Some s.channel else field_in_1012 slot ss

-- the field of a slot, if the message is of GLONASS and has it
abbrev pub field_told : AnyMessage → ℕ → Option ℕ
field_told (any.Message m) slot = None
field_told (any.Msm m) slot = field_in_msm m slot
field_told (any.Obs1012 m) slot = field_in_1012 slot m.satellites

-- a message of GLONASS has this field for this slot
abbrev pub tells_field : ℕ → ℕ → AnyMessage → Bool
tells_field slot field m = is_field (field_told m slot) field

-- a message of GLONASS with such fields: a 1012, or an MSM5 or MSM7 with a satellite
abbrev pub tells_channels : AnyMessage → Bool
tells_channels (any.Message m) = false
tells_channels (any.Msm m) = is_glonass m.system && not (length m.extended == 0)
tells_channels (any.Obs1012 m) = true

-- formula
-- the place of a slot, 1 to 27, and of a field that tells a channel, 0 to 20: 7 more than the channel, which is -7 to +13
-- (DF040)
abbrev pub place_of_field : ℕ → ℕ → ℕ
place_of_field slot field = 21 * slot + field

-- how many messages tell a field of a slot, by their counts
abbrev pub count_of_field : BTreeMap ℕ ℕ → ℕ → ℕ → ℕ
count_of_field counts slot field = unwrap_or (get nat_cmp counts (place_of_field slot field)) 0

-- the slots and the fields that tell a channel
pub record IsChannelTold (slot field : ℕ) : Type 0 where
  pub first : 1 ≤ slot
  pub last : slot < 28
  pub few : field < 21

-- each slot and field has the number of these that tell it
abbrev pub CountsFields : {X : Type 0} → (ℕ → ℕ → X → Bool) → BTreeMap ℕ ℕ → List X → Type 0
CountsFields tells counts xs = (slot field : ℕ) → IsChannelTold slot field → count_of_field counts slot field ≡ count_of (tells slot field) xs

-- formula
-- some message tells the slot and the field of a place, and RINEX has the channel: one from -7 to +6
abbrev pub place_is_told : List AnyMessage → ℕ → Bool
place_is_told ms place = nat_lt (place % 21) 14 && nat_lt 0 (count_of (tells_field (place / 21) (place % 21)) ms)

-- how many messages tell each field of each slot
abbrev pub CountsChannels : BTreeMap ℕ ℕ → List AnyMessage → Type 0
CountsChannels counts ms = CountsFields tells_field counts ms

-- ---- 1020

-- what a 1020 tells of a slot and a field
abbrev pub tells_slot_channel : SlotChannel → ℕ → ℕ → Bool
tells_slot_channel s slot field = (s.slot == slot) && (s.field == field)

abbrev pub slot_channel_in : SystemMessage → Option SlotChannel
slot_channel_in (Week w) = None
slot_channel_in (Slot s) = Some s
slot_channel_in (Leap l) = None

abbrev pub tells_slot_if : Option SlotChannel → ℕ → ℕ → Bool
tells_slot_if None slot field = false
tells_slot_if (Some s) slot field = tells_slot_channel s slot field

abbrev pub tells_slot_of_1020 : ℕ → ℕ → SystemMessage → Bool
tells_slot_of_1020 slot field m = tells_slot_if (slot_channel_in m) slot field

-- how many 1020 tell each field of each slot
abbrev pub CountsSlots : BTreeMap ℕ ℕ → List SystemMessage → Type 0
CountsSlots counts ts = CountsFields tells_slot_of_1020 counts ts

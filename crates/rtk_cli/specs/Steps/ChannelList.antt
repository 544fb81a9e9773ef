-- The frequency channels of GLONASS as the words of a command line write them.
use Rattle.std.specs.Prelude.{◌≡◌, ◌≢◌, ◌⊎◌, ℕ, ◌+◌, ◌/◌, ◌%◌, ◌<◌, nat_lt, nat_eq, ℤ, Bool, true, false, if◌then◌else◌, List, [], ◌∷◌, length, map, codes, Option, None, Some, All, AllPairs, slice_index_or, unsigned_abs}
use Rattle.std.specs.Cmp.Lexicographic.{pointwise}
use Rattle.rtk_obs.specs.Carriers.{IsChannel, IsSlot, channel_at}
use Rattle.rtk_rinex.specs.Columns.{is_negative}
use Rattle.rtk_cli.specs.declared.channel_list.SlotChannel.{SlotChannel}
use Rattle.rtk_cli.specs.Steps.Parts.{marked_parts}

-- ---- one slot

-- formula
-- the digits of a slot, without a zero in front
abbrev pub slot_word : ℕ → List ℕ
slot_word s = if nat_lt s 10 then (48 + s) ∷ [] else (48 + s / 10) ∷ (48 + s % 10) ∷ []

-- formula
-- the digit of a channel, behind a hyphen if it is negative
abbrev pub channel_word : ℤ → List ℕ
channel_word k = if is_negative k then 45 ∷ (48 + unsigned_abs k) ∷ [] else (48 + unsigned_abs k) ∷ []

-- a slot that there is, and a channel that there is
abbrev pub IsSlotChannel : SlotChannel → Type 0
IsSlotChannel p = IsSlot p.slot × IsChannel p.channel

-- formula
-- the parts of a word at the colon: the slot and its channel, as 9 and -6 of 9:-6 (this project's rule)
abbrev pub slot_parts : SlotChannel → List (List ℕ)
slot_parts p = slot_word p.slot ∷ channel_word p.channel ∷ []

-- ---- lists

-- formula
-- the text lists these slots with their channels, one or more, with commas between (this project's rule)
abbrev pub ListsSlots : List ℕ → List SlotChannel → Type 0
ListsSlots text listed = All IsSlotChannel listed × (map (marked_parts 58) (marked_parts 44 text) ≡ map slot_parts listed)

-- formula
-- the word that no slot has a channel
abbrev pub is_none_word : List ℕ → Bool
is_none_word text = pointwise nat_eq text (codes "none")

-- a text that is the word, or else lists these slots
abbrev pub WritesIf : Bool → List ℕ → List SlotChannel → Type 0
WritesIf true text listed = listed ≡ []
WritesIf false text listed = ListsSlots text listed

-- formula
-- the text says that no slot has a channel, or else it lists these slots (this project's rule)
abbrev pub WritesSlots : List ℕ → List SlotChannel → Type 0
WritesSlots text listed = WritesIf (is_none_word text) text listed

-- no slot is listed twice
abbrev pub AreSlotsUnlike : List SlotChannel → Type 0
AreSlotsUnlike = AllPairs (λ p q. p.slot ≢ q.slot)

-- formula
-- each listed slot has its channel, and no other slot has one (this project's rule)
pub record AreChannelsOf (listed : List SlotChannel) (channels : List (Option ℤ)) : Type 0 where
  pub own : (k : ℕ) (d : SlotChannel) → k < length listed → channel_at channels (slice_index_or listed k d).slot ≡ Some (slice_index_or listed k d).channel
  pub others : (s : ℕ) → IsSlot s → ((k : ℕ) (d : SlotChannel) → k < length listed → (slice_index_or listed k d).slot ≢ s) → channel_at channels s ≡ None

-- formula
-- the text writes these channels: those of the slots that it lists, none of them twice
abbrev pub WritesChannels : List ℕ → List (Option ℤ) → Type 0
WritesChannels text channels =
    (listed : List SlotChannel) × WritesSlots text listed × AreSlotsUnlike listed × AreChannelsOf listed channels

-- formula
-- the text writes no channels: it lists no slots, or one of them twice
abbrev pub HasNoChannels : List ℕ → Type 0
HasNoChannels text =
    ((listed : List SlotChannel) → ¬ (WritesSlots text listed))
    ⊎ ((listed : List SlotChannel) × WritesSlots text listed × ¬ (AreSlotsUnlike listed))

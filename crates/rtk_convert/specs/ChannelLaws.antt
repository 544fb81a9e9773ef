-- A law on the lines of a report that list slots of GLONASS.
use Rattle.std.specs.Prelude.{◌≡◌, ◌↔◌, ◌⊎◌, ℕ, true, List, Option, None, Contains}
use Rattle.rtk_message.specs.declared.any_message.AnyMessage.{AnyMessage as Message}
use Rattle.rtk_message.specs.declared.any_message.AnyMessage.TheVariants as any
use Rattle.rtk_message.specs.declared.msm.Msm.{Msm}
use Rattle.rtk_message.specs.declared.obs1012.GlonassSatellite.{GlonassSatellite}
use Rattle.rtk_message.specs.declared.system.System.TheVariants.{Glonass}
use Rattle.rtk_obs.specs.Carriers.{IsSlot}
use Rattle.rtk_obs.specs.GlonassCells.{glonass_channel}
use Rattle.rtk_obs.specs.SignalCells.{bit_of_row, channel_in, field_of_row}
use Rattle.rtk_collect.specs.Arrival.{At}
use Rattle.rtk_convert.specs.declared.frame_class.FrameClass.TheVariants.{Dated}
use Rattle.rtk_convert.specs.Conversion.{found_on}
use Rattle.rtk_convert.specs.FrameClass.{Found}
use Rattle.rtk_setup.specs.Setup.{SetupView, channels_of}
use Rattle.rtk_convert.specs.Slots.{is_without_channel, is_of_other_channel, any_tells}

-- a found frame is this message, with an epoch
abbrev pub IsFoundMessage : List Found → Message → Type 0
IsFoundMessage found m = (link : ℕ) × (epoch : Option ℕ) × Contains found (found_on link (Dated (At epoch m)))

-- the satellite of a row of an MSM of GLONASS has this slot, and no channel by which phases could be made
pub record LacksChannel (s : SetupView) (slot : ℕ) (m : Msm) (row : ℕ) : Type 0 where
  pub system : m.system ≡ Glonass
  pub slot_is : bit_of_row m row ≡ slot
  pub none : channel_in m.system (channels_of s.head.glonass) (bit_of_row m row) (field_of_row m row) ≡ None

-- a satellite of a 1012 has this slot, and no channel
pub record LacksChannelIn1012 (s : SetupView) (slot : ℕ) (satellite : GlonassSatellite) : Type 0 where
  pub slot_is : satellite.slot ≡ slot
  pub none : glonass_channel (channels_of s.head.glonass) satellite ≡ None

-- a satellite of a message has this slot, and no channel
abbrev pub HasSlotWithoutChannel : SetupView → ℕ → Message → Type 0
HasSlotWithoutChannel s slot (any.Message m) = ⊥
HasSlotWithoutChannel s slot (any.Msm m) = (row : ℕ) × LacksChannel s slot m row
HasSlotWithoutChannel s slot (any.Obs1012 m) = (satellite : GlonassSatellite) × Contains m.satellites satellite × LacksChannelIn1012 s slot satellite

-- the slot stands in one of the two lines
abbrev pub IsListed : SetupView → List Found → ℕ → Type 0
IsListed s found slot = (any_tells is_of_other_channel s slot found ≡ true) ⊎ (any_tells is_without_channel s slot found ≡ true)

-- a slot stands in one of the two lines exactly if a satellite of it lacks a channel in some message that was dated
abbrev pub ReportTellsChannels : Type 0
ReportTellsChannels =
    (s : SetupView) (found : List Found) (slot : ℕ) → IsSlot slot
    → IsListed s found slot ↔ ((m : Message) × IsFoundMessage found m × HasSlotWithoutChannel s slot m)

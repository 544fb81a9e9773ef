-- The slots of GLONASS whose satellites have no phases. A satellite has a channel by the first of these that holds: none, if the
-- setup has none for its slot; that of the setup, if its message tells none; that of the setup, if its message tells the same; and
-- none, since setup and message contradict each other (this project's rule).
use Rattle.std.specs.Prelude.{ℕ, suc, ◌-◌, ◌==◌, ℤ, Bool, false, ◌&&◌, ◌||◌, not, List, [], ◌∷◌, Option, is_some, slice_index_or}
use Rattle.std.specs.List.{list_any}
use Rattle.rtk_message.specs.declared.any_message.AnyMessage.{AnyMessage as Message}
use Rattle.rtk_message.specs.declared.any_message.AnyMessage.TheVariants as any
use Rattle.rtk_message.specs.declared.msm.Msm.{Msm}
use Rattle.rtk_message.specs.declared.obs1012.GlonassSatellite.{GlonassSatellite}
use Rattle.rtk_message.specs.declared.system.System.TheVariants.{Glonass}
use Rattle.rtk_obs.specs.Carriers.{channel_at}
use Rattle.rtk_obs.specs.GlonassCells.{glonass_channel}
use Rattle.rtk_obs.specs.MsmCells.{satellites_of}
use Rattle.rtk_obs.specs.SatelliteIndex.{letter_of}
use Rattle.rtk_obs.specs.SignalCells.{channel_in, field_of_row}
use Rattle.rtk_collect.specs.Arrival.{message_of}
use Rattle.rtk_convert.specs.declared.frame_class.FrameClass.{FrameClass}
use Rattle.rtk_convert.specs.declared.frame_class.FrameClass.TheVariants.{OtherMessage, Refused, Foreign, Dated}
use Rattle.rtk_convert.specs.FrameClass.{Found}
use Rattle.rtk_setup.specs.Setup.{SetupView, channels_of}

-- ---- sets of slots

-- the set has this slot; the first slot is 1
abbrev pub has_slot : List Bool → ℕ → Bool
has_slot marks slot = slice_index_or marks (slot - 1) false

-- ---- why a satellite has no phases: by the channel of its slot in the setup, and the channel by which its phases are made

-- a test of a satellite, by these two channels
abbrev pub SatelliteTest : Type 0
SatelliteTest = Option ℤ → Option ℤ → Bool

-- formula
-- the setup has no channel for the slot, whatever the message tells
abbrev pub is_without_channel : SatelliteTest
is_without_channel told own = not (is_some told)

-- formula
-- the setup has a channel for the slot, by which no phases are made, since the message tells another one
abbrev pub is_of_other_channel : SatelliteTest
is_of_other_channel told own = is_some told && not (is_some own)

-- a test of the satellite of a slot of an MSM with this field (DF419), by these channels of the slots
abbrev pub holds_in_msm : SatelliteTest → List (Option ℤ) → ℕ → ℕ → Bool
holds_in_msm test channels slot field = test (channel_at channels slot) (channel_in Glonass channels slot field)

-- a test of a satellite of a 1012, by these channels of the slots
abbrev pub holds_in_1012 : SatelliteTest → List (Option ℤ) → GlonassSatellite → Bool
holds_in_1012 test channels s = test (channel_at channels s.slot) (glonass_channel channels s)

-- ---- the satellites of messages

-- one of these satellites of an MSM has this slot and a field that a test holds of; the rows of the satellites rise from this one
abbrev pub any_satellite : (ℕ → Bool) → Msm → ℕ → ℕ → List ℕ → Bool
any_satellite test m slot row [] = false
any_satellite test m slot row (bit ∷ bits) = ((bit == slot) && test (field_of_row m row)) || any_satellite test m slot (suc row) bits

-- one of these satellites of a 1012 has this slot, and a test holds of it
abbrev pub any_satellite_1012 : (GlonassSatellite → Bool) → ℕ → List GlonassSatellite → Bool
any_satellite_1012 test slot ss = list_any (λ s. (s.slot == slot) && test s) ss

-- formula
-- a message of GLONASS has a satellite of this slot that a test holds of, with cells or without any (DF394, DF038)
abbrev pub has_such_satellite : SatelliteTest → List (Option ℤ) → ℕ → Message → Bool
has_such_satellite test channels slot (any.Message m) = false
has_such_satellite test channels slot (any.Msm m) = (letter_of m.system == letter_of Glonass) && any_satellite (holds_in_msm test channels slot) m slot 0 (satellites_of m.header)
has_such_satellite test channels slot (any.Obs1012 m) = any_satellite_1012 (holds_in_1012 test channels) slot m.satellites

-- a found frame is a dated message with such a satellite
abbrev pub tells_slot : SatelliteTest → SetupView → ℕ → FrameClass → Bool
tells_slot test s slot OtherMessage = false
tells_slot test s slot (Refused fault) = false
tells_slot test s slot Foreign = false
tells_slot test s slot (Dated a) = has_such_satellite test (channels_of s.head.glonass) slot (message_of a)

-- formula
-- a dated message has such a satellite, whatever became of the message
abbrev pub any_tells : SatelliteTest → SetupView → ℕ → List Found → Bool
any_tells test s slot [] = false
any_tells test s slot (f ∷ before) = tells_slot test s slot f.class || any_tells test s slot before

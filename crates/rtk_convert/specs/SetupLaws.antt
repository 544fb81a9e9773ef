-- Laws on the messages that a setup takes.
use Rattle.std.specs.Prelude.{◌≡◌, ◌↔◌, ℕ, List, map, Option, None, Some, Result, IsTrue}
use Rattle.rtk_bits.specs.Bits.{bits}
use Rattle.rtk_message.specs.declared.fault.DecodeFault.{DecodeFault}
use Rattle.rtk_message.specs.declared.any_message.AnyMessage.{AnyMessage as Message}
use Rattle.rtk_message.specs.declared.message.Message.{Message as GpsMessage}
use Rattle.rtk_message.specs.declared.msm_kind.MsmKind.TheVariants.{Msm4}
use Rattle.rtk_message.specs.AnyDecoded.{any_of, IsValid, number_of, tow_of}
use Rattle.rtk_message.specs.Decoded.{Decodes}
use Rattle.rtk_obs.specs.Dating.{IsDated}
use Rattle.rtk_obs.specs.MessageCells.{cells_of}
use Rattle.rtk_obs.specs.SignalCells.{signal_of}
use Rattle.rtk_collect.specs.Signals.{IsGpsMessage}
use Rattle.rtk_convert.specs.declared.frame_class.FrameClass.{FrameClass}
use Rattle.rtk_convert.specs.FrameClass.{IsEpochOf, IsClassOfReading, IsClassOfPayload}
use Rattle.rtk_setup.specs.Setup.{SetupView, IsSetupView, is_of_gps, takes, cells_by}

-- the class of a payload, if 1004, 1005, 1006 and 1074 are the messages that are read
abbrev pub IsClassByFour : SetupView → List ℕ → FrameClass → Type 0
IsClassByFour s payload f = (reading : Result GpsMessage DecodeFault) × Decodes (bits payload) reading × IsClassOfReading s (any_of reading) f

-- for a setup with codes of GPS alone whose MSM is 1074 this is the class of a payload
abbrev pub DefaultTakesFour : Type 0
DefaultTakesFour =
    (s : SetupView) (payload : List ℕ) (f : FrameClass) → IsSetupView s → IsTrue (is_of_gps s) → s.kinds.gps ≡ Msm4
    → IsClassOfPayload s payload f ↔ IsClassByFour s payload f

-- formula
-- the epoch of a message of GPS is the moment of its time of week (DF004) that is nearest to the reference; a
-- station message has none
abbrev pub IsGpsEpoch : ℕ → Option ℕ → Option ℕ → Type 0
IsGpsEpoch near None None = Unit {0}
IsGpsEpoch near (Some tow) (Some t) = IsDated near tow t
IsGpsEpoch near None (Some t) = ⊥
IsGpsEpoch near (Some tow) None = ⊥

-- a setup with codes of GPS alone takes messages of GPS alone, and stations; their cells are those of GPS, and
-- their epochs the moments of their times of week
abbrev pub GpsMessagesStay : Type 0
GpsMessagesStay =
    (s : SetupView) (m : Message) → IsTrue (is_of_gps s) → IsTrue (takes s (number_of m)) → IsValid m
    → IsGpsMessage m × (cells_by s m ≡ map signal_of (cells_of m)) × ((epoch : Option ℕ) → IsEpochOf s m epoch ↔ IsGpsEpoch s.near (tow_of m) epoch)

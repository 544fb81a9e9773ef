-- What the payload of a frame means for a conversion.
use Rattle.std.specs.Prelude.{◌≡◌, ◌≢◌, ℕ, Bool, true, false, List, [], ◌∷◌, Option, None, Some, Result, Ok, Err}
use Rattle.rtk_bits.specs.Bits.{bits}
use Rattle.rtk_message.specs.declared.any_message.AnyMessage.{AnyMessage as Message}
use Rattle.rtk_message.specs.declared.any_message.AnyMessage.TheVariants as any
use Rattle.rtk_message.specs.declared.any_fault.AnyFault.{AnyFault}
use Rattle.rtk_message.specs.declared.any_fault.AnyFault.TheVariants.{NoNumber, Other, Short, EpochRange, TooManyCells}
use Rattle.rtk_message.specs.declared.system.System.{System}
use Rattle.rtk_message.specs.declared.system.System.TheVariants.{Gps, Glonass}
use Rattle.rtk_message.specs.AnyDecoded.{DecodesBy, number_of, station_of, tow_of}
use Rattle.rtk_obs.specs.Clocks.{IsClockMoment}
use Rattle.rtk_collect.specs.Arrival.{Arrival, At}
use Rattle.rtk_setup.specs.Setup.{SetupView, taken_by, takes}
use Rattle.rtk_convert.specs.declared.frame_class.FrameClass.{FrameClass}
use Rattle.rtk_convert.specs.declared.frame_class.FrameClass.TheVariants.{OtherMessage, Refused, Foreign, Dated}

-- ---- the epoch of a message

-- the system of a message
abbrev pub system_of : Message → System
system_of (any.Message m) = Gps
system_of (any.Msm m) = m.system
system_of (any.Obs1012 m) = Glonass

-- the moment of a clock of a system, near the reference of the setup
abbrev pub IsMomentOf : SetupView → System → Option ℕ → Option ℕ → Type 0
IsMomentOf s system None None = Unit {0}
IsMomentOf s system (Some clock) (Some t) = IsClockMoment system s.near clock s.leap_seconds t
IsMomentOf s system None (Some t) = ⊥
IsMomentOf s system (Some clock) None = ⊥

-- formula
-- the epoch of a message: the moment of the clock of its system; a station message has none
abbrev pub IsEpochOf : SetupView → Message → Option ℕ → Type 0
IsEpochOf s m epoch = IsMomentOf s (system_of m) (tow_of m) epoch

-- the message with its epoch
abbrev pub IsDatedMessage : SetupView → Message → Arrival → Type 0
IsDatedMessage s m (At epoch message) = (message ≡ m) × IsEpochOf s m epoch

-- ---- the class of a payload

-- the class of a payload of this number that is no message, if the setup takes the number or not
abbrev pub refused_if : Bool → AnyFault → FrameClass
refused_if true fault = Refused fault
refused_if false fault = OtherMessage

-- formula
-- the class of a payload that is no message
abbrev pub class_of_fault : SetupView → AnyFault → FrameClass
class_of_fault s NoNumber = Refused NoNumber
class_of_fault s (Other number) = OtherMessage
class_of_fault s (Short number) = refused_if (takes s number) (Short number)
class_of_fault s (EpochRange number) = refused_if (takes s number) (EpochRange number)
class_of_fault s (TooManyCells number) = refused_if (takes s number) (TooManyCells number)

-- the class of a message, if the setup takes its number or not
abbrev pub IsClassIf : Bool → SetupView → Message → FrameClass → Type 0
IsClassIf false s m f = f ≡ OtherMessage
IsClassIf true s m OtherMessage = ⊥
IsClassIf true s m (Refused fault) = ⊥
IsClassIf true s m Foreign = station_of m ≢ s.station
IsClassIf true s m (Dated a) = (station_of m ≡ s.station) × IsDatedMessage s m a

-- formula
-- the class of what a payload is read as
abbrev pub IsClassOfReading : SetupView → Result Message AnyFault → FrameClass → Type 0
IsClassOfReading s (Err fault) f = f ≡ class_of_fault s fault
IsClassOfReading s (Ok m) f = IsClassIf (takes s (number_of m)) s m f

-- the class of a payload, by the messages that are converted
abbrev pub IsClassOfPayload : SetupView → List ℕ → FrameClass → Type 0
IsClassOfPayload s payload f = (reading : Result Message AnyFault) × DecodesBy (taken_by s) (bits payload) reading × IsClassOfReading s reading f

-- a found frame: the link on which it came, counted from 0, and the class of its payload. Lists of
-- found frames are newest first.
pub record Found : Type 0 where
  pub link : ℕ
  pub class : FrameClass

abbrev pub and_arrived : FrameClass → List Arrival → List Arrival
and_arrived OtherMessage before = before
and_arrived (Refused fault) before = before
and_arrived Foreign before = before
and_arrived (Dated a) before = a ∷ before

-- the arrivals among found frames
abbrev pub arrivals : List Found → List Arrival
arrivals [] = []
arrivals (f ∷ before) = and_arrived f.class (arrivals before)

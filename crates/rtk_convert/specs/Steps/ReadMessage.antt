-- What a payload is read as by the messages of a setup.
use Rattle.std.specs.Prelude.{ℕ, Bool, ◌==◌, ◌&&◌, Option, None, Some, is_some, IsTrue, if◌then◌else◌}
use Rattle.rtk_message.specs.declared.any_message.AnyMessage.{AnyMessage}
use Rattle.rtk_message.specs.declared.msm_type.MsmType.{MsmType}
use Rattle.rtk_message.specs.declared.system.System.{System}
use Rattle.rtk_message.specs.declared.system.System.TheVariants.{Gps, Glonass}
use Rattle.rtk_message.specs.Accepted.{accepts}
use Rattle.rtk_message.specs.AnyDecoded.{IsValid, number_of}
use Rattle.rtk_message.specs.Systems.{type_of_number}
use Rattle.rtk_obs.specs.SatelliteIndex.{letter_of}
use Rattle.rtk_collect.specs.Answer.{Class}
use Rattle.rtk_convert.specs.Report.{is_of_sbas, is_taken}
use Rattle.rtk_setup.specs.Setup.{SetupView, taken_by}

-- messages of this number are read
abbrev pub IsRead : SetupView → ℕ → Type 0
IsRead s number = IsTrue (accepts (taken_by s) number)

-- a valid message that is read; if no code of GPS is listed, a 1004 is read and not taken
pub record IsReadMessage (s : SetupView) (m : AnyMessage) : Type 0 where
  pub valid : IsValid m
  pub read : IsRead s (number_of m)

-- the system of an MSM of this type, or else GPS
abbrev pub system_of_type : Option MsmType → System
system_of_type None = Gps
system_of_type (Some t) = t.system

-- the system of an observation of this number
abbrev pub system_of_number : ℕ → System
system_of_number number = if number == 1012 then Glonass else system_of_type (type_of_number number)

-- a message of this number, epoch and class is an observation of this system that was taken
abbrev pub brings_by : ℕ → Option ℕ → Class → System → Bool
brings_by number epoch class system = (is_some epoch && (letter_of (system_of_number number) == letter_of system)) && is_taken class

-- a message of this class, which has satellites of SBAS or not, is an observation of this system that was taken
abbrev pub sbas_by : Bool → Class → System → Bool
sbas_by sbas class system = is_of_sbas sbas system && is_taken class

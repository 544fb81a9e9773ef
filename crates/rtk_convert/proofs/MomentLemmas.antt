-- The moment of a clock near a reference is a moment of a file.
use Rattle.std.proofs.Common.{ℕ, Option, None, Some, arith}
use Rattle.rtk_message.specs.declared.system.System.{System}
use Rattle.rtk_message.specs.declared.system.System.TheVariants.{Gps, Glonass, Galileo, Beidou, Qzss, Sbas, Navic}
use Rattle.rtk_obs.specs.Clocks.{IsClockMoment}
use Rattle.rtk_obs.specs.Dating.{IsDated, IsReference}
use Rattle.rtk_obs.specs.GlonassTime.{IsMoscowMoment, glonass_time_of}
use Rattle.rtk_obs.specs.Reading.{IsMoment}

dated-moment : (near tow t : ℕ) → IsReference near → IsDated near tow t → IsMoment t
dated-moment near tow t r h = let to = r.to in let before = h.before in omega arith

moscow-moment : (near : ℕ) (day : Option ℕ) (ms n t : ℕ) → IsReference near → IsMoscowMoment near day ms n t → IsMoment t
moscow-moment near (Some day) ms n t r h = let to = r.to in let before = h.before in omega arith
moscow-moment near None ms n t r h = let to = r.to in let before = h.before in omega arith

pub clock-moment : (system : System) (near clock : ℕ) (given : Option ℕ) (t : ℕ) → IsReference near → IsClockMoment system near clock given t → IsMoment t
clock-moment Gps near clock given t r h = dated-moment near _ t r h
clock-moment Glonass near clock given t r h = moscow-moment near (glonass_time_of clock).day (glonass_time_of clock).time_of_day_ms h.leap_seconds t r h.moment
clock-moment Galileo near clock given t r h = dated-moment near _ t r h
clock-moment Beidou near clock given t r h = dated-moment near _ t r h
clock-moment Qzss near clock given t r h = dated-moment near _ t r h
clock-moment Sbas near clock given t r h = dated-moment near _ t r h
clock-moment Navic near clock given t r h = dated-moment near _ t r h

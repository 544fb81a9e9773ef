-- The clock of a valid message, and its moment.
use Rattle.std.proofs.Common.{◌≡◌, ℕ, true, Option, None, Some, refl, sym, subst}
use Rattle.rtk_message.specs.declared.any_message.AnyMessage.{AnyMessage as Message}
use Rattle.rtk_message.specs.declared.any_message.AnyMessage.TheVariants as any
use Rattle.rtk_message.specs.declared.message.Message.TheVariants.{Obs1004, Arp1005, Arp1006, Msm1074}
use Rattle.rtk_message.specs.declared.system.System.{System}
use Rattle.rtk_message.specs.declared.system.System.TheVariants.{Gps, Glonass}
use Rattle.rtk_message.specs.AnyDecoded.{IsValid, tow_of}
use Rattle.rtk_message.specs.Obs1012.{clock_of}
use Rattle.rtk_obs.specs.Clocks.{IsClock, IsClockMoment}
use Rattle.rtk_obs.proofs.PublicLaws.{is_clock, clock-of-1012}
use Rattle.rtk_collect.specs.Arrival.{Arrival, At}
use Rattle.rtk_convert.specs.FrameClass.{IsDatedMessage, IsMomentOf, system_of}
use Rattle.rtk_setup.specs.Setup.{SetupView}

same-clock : (a b : ℕ) → Some a ≡ Some b → a ≡ b
same-clock a b h = cc

-- the clock of a valid message is one of its system
pub clock-of-valid : (m : Message) (clock : ℕ) → IsValid m → tow_of m ≡ Some clock → IsClock (system_of m) clock
clock-of-valid (any.Message (Obs1004 m)) clock valid is = subst (IsClock Gps) (same-clock m.tow clock is) valid.time_in_week
clock-of-valid (any.Message (Arp1005 m)) clock valid is = absurd cc
clock-of-valid (any.Message (Arp1006 m)) clock valid is = absurd cc
clock-of-valid (any.Message (Msm1074 m)) clock valid is = subst (IsClock Gps) (same-clock m.header.tow clock is) valid.time_in_week
clock-of-valid (any.Msm m) clock valid is = subst (IsClock m.system) (same-clock m.header.tow clock is) (is_clock true m.system m.header.tow valid.form.time)
clock-of-valid (any.Obs1012 m) clock valid is = subst (IsClock Glonass) (same-clock (clock_of m) clock is) (clock-of-1012 m valid)

-- ---- a dated message

-- the moment of its clock
pub dated-some : (s : SetupView) (m : Message) (system : System) (clock epoch : ℕ) (a : Arrival)
    → system ≡ system_of m → tow_of m ≡ Some clock → IsClockMoment system s.near clock s.leap_seconds epoch → a ≡ At (Some epoch) m → IsDatedMessage s m a
dated-some s m system clock epoch a of timed moment is =
    let one = subst (λ (x : System). IsClockMoment x s.near clock s.leap_seconds epoch) of moment in
    subst (IsDatedMessage s m) (sym is) (refl, subst (λ (o : Option ℕ). IsMomentOf s (system_of m) o (Some epoch)) (sym timed) one)

-- a message without a clock has none
pub dated-none : (s : SetupView) (m : Message) (a : Arrival) → tow_of m ≡ None → a ≡ At None m → IsDatedMessage s m a
dated-none s m a untimed is =
    subst (IsDatedMessage s m) (sym is) (refl, subst (λ (o : Option ℕ). IsMomentOf s (system_of m) o None) (sym untimed) tt)

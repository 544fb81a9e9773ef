-- A setup with codes of GPS alone: its messages, their cells and their epochs.
use Rattle.std.proofs.Common.{◌≡◌, ◌∙◌, ◌↔◌, ◌<◌, ℕ, Bool, true, List, [], ◌∷◌, length, Option, None, Some, Result, refl, sym, ap, subst, arith}
use Rattle.std.specs.Prelude.{IsTrue, ◌==◌}
use Rattle.std.specs.List.{list_all, list_any}
use Rattle.std.proofs.lemmas.Bool.{and_parts}
use Rattle.rtk_bits.specs.Bits.{bits}
use Rattle.rtk_message.specs.declared.accepted.Accepted.{Accepted}
use Rattle.rtk_message.specs.declared.any_fault.AnyFault.{AnyFault}
use Rattle.rtk_message.specs.declared.any_message.AnyMessage.{AnyMessage as Message}
use Rattle.rtk_message.specs.declared.any_message.AnyMessage.TheVariants as any
use Rattle.rtk_message.specs.declared.fault.DecodeFault.{DecodeFault}
use Rattle.rtk_message.specs.declared.message.Message.{Message as GpsMessage}
use Rattle.rtk_message.specs.declared.msm_kind.MsmKind.TheVariants.{Msm4}
use Rattle.rtk_message.specs.declared.system.System.{System}
use Rattle.rtk_message.specs.declared.system.System.TheVariants.{Gps}
use Rattle.rtk_message.specs.Accepted.{four}
use Rattle.rtk_message.specs.AnyDecoded.{DecodesBy, any_of, tow_of}
use Rattle.rtk_message.specs.Decoded.{Decodes}
use Rattle.rtk_obs.specs.declared.any_code.AnyCode.{AnyCode}
use Rattle.rtk_obs.specs.declared.signal_cells.SignalEntry.{SignalEntry}
use Rattle.rtk_collect.specs.Signals.{IsGpsMessage}
use Rattle.rtk_rinex.specs.MixedHead.{letter}
use Rattle.rtk_convert.specs.FrameClass.{IsClassOfReading, IsEpochOf, IsMomentOf, system_of}
use Rattle.rtk_setup.specs.Setup.{SetupView, IsSetupView, channels_of, is_of_gps, taken_by}
use Rattle.rtk_convert.specs.SetupLaws.{DefaultTakesFour, GpsMessagesStay, IsGpsEpoch}
use Rattle.rtk_convert.proofs.GpsOfferLemmas.{entries-same, gps-alone, gps-cells, gps-message, taken-of-gps}

-- ---- messages, cells and epochs

of-gps : (m : Message) → IsGpsMessage m → system_of m ≡ Gps
of-gps (any.Message m) is = refl
of-gps (any.Msm m) is = is
of-gps (any.Obs1012 m) is = absurd is

moment-of-gps : (s : SetupView) (clock epoch : Option ℕ) → IsMomentOf s Gps clock epoch ↔ IsGpsEpoch s.near clock epoch
moment-of-gps s None None = (λ h. h, λ h. h)
moment-of-gps s None (Some t) = (λ h. h, λ h. h)
moment-of-gps s (Some clock) None = (λ h. h, λ h. h)
moment-of-gps s (Some clock) (Some t) = (λ h. h, λ h. h)

epoch-of-gps : (s : SetupView) (m : Message) (epoch : Option ℕ) → IsGpsMessage m → IsEpochOf s m epoch ↔ IsGpsEpoch s.near (tow_of m) epoch
epoch-of-gps s m epoch is = subst (λ (x : System). IsMomentOf s x (tow_of m) epoch ↔ IsGpsEpoch s.near (tow_of m) epoch) (sym (of-gps m is)) (moment-of-gps s (tow_of m) epoch)

pub gps-messages-stay : GpsMessagesStay
gps-messages-stay s m is taken valid =
    let one = gps-message s m is taken in
    (one, ap (λ (of : Message → List SignalEntry). of m) (gps-cells s is) ∙ entries-same (channels_of s.head.glonass) m one, λ epoch. epoch-of-gps s m epoch one)

-- ---- the four messages

-- the clauses of `decodes_by_four`
abbrev pub FourIsSame : Type 0
FourIsSame = (bs : List Bool) (r : Result GpsMessage DecodeFault) → Decodes bs r ↔ DecodesBy four bs (any_of r)

abbrev pub FourIsEach : Type 0
FourIsEach = (bs : List Bool) (r : Result Message AnyFault) → DecodesBy four bs r → (q : Result GpsMessage DecodeFault) × (r ≡ any_of q) × Decodes bs q

lists-some : (listed : List AnyCode) → 0 < length listed → list_all (λ c. letter c == 71) listed ≡ true → list_any (λ c. letter c == 71) listed ≡ true
lists-some [] some h = absurd (omega arith)
lists-some (c ∷ listed) some h =
    let p = and_parts (letter c == 71) (list_all (λ c. letter c == 71) listed) h in
    rw p.0 refl

taken-four : (s : SetupView) → IsSetupView s → IsTrue (is_of_gps s) → s.kinds.gps ≡ Msm4 → taken_by s ≡ four
taken-four s good is four_is =
    let some : 0 < length s.head.listed = good.2.listed.count.0 in
    taken-of-gps s is ∙ rw (lists-some s.head.listed some (gps-alone s is), four_is) refl

pub default-takes-four : FourIsSame → FourIsEach → DefaultTakesFour
default-takes-four same each s payload f good is four_is =
    let by : taken_by s ≡ four = taken-four s good is four_is in (
      λ h.
          let read = each (bits payload) h.0 (subst (λ (a : Accepted). DecodesBy a (bits payload) h.0) by h.1) in
          (read.0, read.2, subst (λ (r : Result Message AnyFault). IsClassOfReading s r f) read.1 h.2),
      λ h. (
        any_of h.0,
        subst (λ (a : Accepted). DecodesBy a (bits payload) (any_of h.0)) (sym by) ((same (bits payload) h.0).0 h.1),
        h.2,
      ),
    )

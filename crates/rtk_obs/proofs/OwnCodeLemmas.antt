-- The code of a signal is one of its system, and so is the code of each entry.
use Rattle.std.proofs.Common.{◌≡◌, ◌∙◌, ℕ, ℤ, Bool, true, false, cond, nat_eq, List, length, Option, Some, None, refl, sym, arith}
use Rattle.std.specs.Prelude.{IfSome}
use Rattle.std.specs.List.{All, AllByRecursion}
use Rattle.std.proofs.lemmas.List.Elements.{All-from_recursion}
use Rattle.rtk_message.specs.declared.msm.Msm.{Msm}
use Rattle.rtk_message.specs.declared.system.System.{System}
use Rattle.rtk_message.specs.declared.system.System.TheVariants.{Gps, Glonass, Galileo, Beidou, Qzss, Sbas, Navic}
use Rattle.rtk_obs.specs.declared.any_code.AnyCode.{AnyCode}
use Rattle.rtk_obs.specs.declared.any_code.AnyCode.TheVariants.{G1C, G1P, G1W, G1S, G1L, G1X, G2C, G2P, G2W, G2S, G2L, G2X, G5I, G5Q, G5X, R1C, R1P, R2C, R2P, E1C, E1B, E1X, E6C, E6B, E6X, E7I, E7Q, E7X, E8I, E8Q, E8X, E5I, E5Q, E5X, C2I, C2Q, C2X, C6I, C6Q, C6X, C7I, C7Q, C7X, C5D, C5P, C5X, C7D, C1D, C1P, C1X, J1C, J6S, J6L, J6X, J2S, J2L, J2X, J5I, J5Q, J5X, J1S, J1L, J1X, S1C, S5I, S5Q, S5X, I5A}
use Rattle.rtk_obs.specs.declared.signal_cells.SignalEntry.{SignalEntry}
use Rattle.rtk_obs.specs.AnyCode.{system_of, IsSignal}
use Rattle.rtk_obs.specs.SatelliteIndex.{IsSatelliteIndex, system_at, index_in}
use Rattle.rtk_obs.specs.Signals.{gps_code, glonass_code, galileo_code, beidou_code, qzss_code, sbas_code, navic_code, code_in}
use Rattle.rtk_obs.specs.MsmCells.{slots_of}
use Rattle.rtk_obs.specs.SignalCells.{channel_in, bit_of_row, field_of_row, entry_if, signal_entry, signal_entries}
use Rattle.rtk_obs.proofs.MaskLemmas.{all-join_from}
use Rattle.rtk_obs.proofs.SatelliteLemmas.{index_back}

abbrev IsOf : System → AnyCode → Type 0
IsOf s c = system_of c ≡ s

-- the first code is one of the system, and so are the others
first : (s : System) (b : Bool) (c : AnyCode) (others : Option AnyCode) → IsOf s c → IfSome others (IsOf s) → IfSome (cond b (Some c) others) (IsOf s)
first s true c others is rest = is
first s false c others is rest = rest

gps-own : (n : ℕ) → IfSome (gps_code n) (IsOf Gps)
gps-own n =
    first Gps (nat_eq n 2) G1C _ refl (
    first Gps (nat_eq n 3) G1P _ refl (
    first Gps (nat_eq n 4) G1W _ refl (
    first Gps (nat_eq n 8) G2C _ refl (
    first Gps (nat_eq n 9) G2P _ refl (
    first Gps (nat_eq n 10) G2W _ refl (
    first Gps (nat_eq n 15) G2S _ refl (
    first Gps (nat_eq n 16) G2L _ refl (
    first Gps (nat_eq n 17) G2X _ refl (
    first Gps (nat_eq n 22) G5I _ refl (
    first Gps (nat_eq n 23) G5Q _ refl (
    first Gps (nat_eq n 24) G5X _ refl (
    first Gps (nat_eq n 30) G1S _ refl (
    first Gps (nat_eq n 31) G1L _ refl (
    first Gps (nat_eq n 32) G1X _ refl (tt)))))))))))))))

glonass-own : (n : ℕ) → IfSome (glonass_code n) (IsOf Glonass)
glonass-own n =
    first Glonass (nat_eq n 2) R1C _ refl (
    first Glonass (nat_eq n 3) R1P _ refl (
    first Glonass (nat_eq n 8) R2C _ refl (
    first Glonass (nat_eq n 9) R2P _ refl (tt))))

galileo-own : (n : ℕ) → IfSome (galileo_code n) (IsOf Galileo)
galileo-own n =
    first Galileo (nat_eq n 2) E1C _ refl (
    first Galileo (nat_eq n 4) E1B _ refl (
    first Galileo (nat_eq n 5) E1X _ refl (
    first Galileo (nat_eq n 8) E6C _ refl (
    first Galileo (nat_eq n 10) E6B _ refl (
    first Galileo (nat_eq n 11) E6X _ refl (
    first Galileo (nat_eq n 14) E7I _ refl (
    first Galileo (nat_eq n 15) E7Q _ refl (
    first Galileo (nat_eq n 16) E7X _ refl (
    first Galileo (nat_eq n 18) E8I _ refl (
    first Galileo (nat_eq n 19) E8Q _ refl (
    first Galileo (nat_eq n 20) E8X _ refl (
    first Galileo (nat_eq n 22) E5I _ refl (
    first Galileo (nat_eq n 23) E5Q _ refl (
    first Galileo (nat_eq n 24) E5X _ refl (tt)))))))))))))))

beidou-own : (n : ℕ) → IfSome (beidou_code n) (IsOf Beidou)
beidou-own n =
    first Beidou (nat_eq n 2) C2I _ refl (
    first Beidou (nat_eq n 3) C2Q _ refl (
    first Beidou (nat_eq n 4) C2X _ refl (
    first Beidou (nat_eq n 8) C6I _ refl (
    first Beidou (nat_eq n 9) C6Q _ refl (
    first Beidou (nat_eq n 10) C6X _ refl (
    first Beidou (nat_eq n 14) C7I _ refl (
    first Beidou (nat_eq n 15) C7Q _ refl (
    first Beidou (nat_eq n 16) C7X _ refl (
    first Beidou (nat_eq n 22) C5D _ refl (
    first Beidou (nat_eq n 23) C5P _ refl (
    first Beidou (nat_eq n 24) C5X _ refl (
    first Beidou (nat_eq n 25) C7D _ refl (
    first Beidou (nat_eq n 30) C1D _ refl (
    first Beidou (nat_eq n 31) C1P _ refl (
    first Beidou (nat_eq n 32) C1X _ refl (tt))))))))))))))))

qzss-own : (n : ℕ) → IfSome (qzss_code n) (IsOf Qzss)
qzss-own n =
    first Qzss (nat_eq n 2) J1C _ refl (
    first Qzss (nat_eq n 9) J6S _ refl (
    first Qzss (nat_eq n 10) J6L _ refl (
    first Qzss (nat_eq n 11) J6X _ refl (
    first Qzss (nat_eq n 15) J2S _ refl (
    first Qzss (nat_eq n 16) J2L _ refl (
    first Qzss (nat_eq n 17) J2X _ refl (
    first Qzss (nat_eq n 22) J5I _ refl (
    first Qzss (nat_eq n 23) J5Q _ refl (
    first Qzss (nat_eq n 24) J5X _ refl (
    first Qzss (nat_eq n 30) J1S _ refl (
    first Qzss (nat_eq n 31) J1L _ refl (
    first Qzss (nat_eq n 32) J1X _ refl (tt)))))))))))))

sbas-own : (n : ℕ) → IfSome (sbas_code n) (IsOf Sbas)
sbas-own n =
    first Sbas (nat_eq n 2) S1C _ refl (
    first Sbas (nat_eq n 22) S5I _ refl (
    first Sbas (nat_eq n 23) S5Q _ refl (
    first Sbas (nat_eq n 24) S5X _ refl (tt))))

navic-own : (n : ℕ) → IfSome (navic_code n) (IsOf Navic)
navic-own n =
    first Navic (nat_eq n 22) I5A _ refl (tt)

own-code : (s : System) (n : ℕ) → IfSome (code_in s n) (IsOf s)
own-code Gps n = gps-own n
own-code Glonass n = glonass-own n
own-code Galileo n = galileo-own n
own-code Beidou n = beidou-own n
own-code Qzss n = qzss-own n
own-code Sbas n = sbas-own n
own-code Navic n = navic-own n

pub own-index : (s : System) (bit : ℕ) (o : Option ℕ) → index_in s bit ≡ o → IfSome o (λ i. IsSatelliteIndex i × (system_at i ≡ s))
own-index s bit None e = tt
own-index s bit (Some i) e = let back = index_back s bit i e in (back.0, back.1.0)

abbrev HasOwn : SignalEntry → Type 0
HasOwn e = IsSignal e.satellite e.code

entry-own : (m : Msm) (k row : ℕ) (channel : Option ℤ) (o : Option ℕ) (code : Option AnyCode) → IfSome o (λ i. IsSatelliteIndex i × (system_at i ≡ m.system))
    → IfSome code (IsOf m.system) → AllByRecursion HasOwn (entry_if m k row channel o code)
entry-own m k row channel None code a b = tt
entry-own m k row channel (Some i) None a b = tt
entry-own m k row channel (Some i) (Some c) a b = ((a.0, b ∙ sym a.1), tt)

pub entries-own : (channels : List (Option ℤ)) (m : Msm) → All HasOwn (signal_entries channels m)
entries-own channels m =
    All-from_recursion HasOwn (signal_entries channels m)
    (all-join_from (signal_entry channels m) HasOwn 0 (length (slots_of m.header m.cell_mask)) (slots_of m.header m.cell_mask) (omega arith)
    (λ k slot below. entry-own m k slot.row (channel_in m.system channels (bit_of_row m slot.row) (field_of_row m slot.row)) (index_in m.system (bit_of_row m slot.row)) (code_in m.system slot.signal)
    (own-index m.system (bit_of_row m slot.row) (index_in m.system (bit_of_row m slot.row)) refl) (own-code m.system slot.signal)))

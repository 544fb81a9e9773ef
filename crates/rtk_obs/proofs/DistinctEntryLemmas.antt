-- No two entries of an MSM are of one satellite and code.
use Rattle.std.proofs.Common.{◌≡◌, ◌∙◌, ℕ, suc, ℤ, Bool, true, false, cond, nat_eq, [], ◌∷◌, List, Option, Some, None, inl, inr, refl, sym, ap, arith}
use Rattle.std.specs.Prelude.{IfSome}
use Rattle.std.specs.List.{AllByRecursion, AllPairs}
use Rattle.std.proofs.lemmas.Bool.{eqb-true}
use Rattle.rtk_message.specs.MsmForm.{IsValid}
use Rattle.rtk_message.specs.declared.msm.Msm.{Msm}
use Rattle.rtk_message.specs.declared.system.System.{System}
use Rattle.rtk_message.specs.declared.system.System.TheVariants.{Gps, Glonass, Galileo, Beidou, Qzss, Sbas, Navic}
use Rattle.rtk_obs.specs.declared.any_code.AnyCode.{AnyCode}
use Rattle.rtk_obs.specs.declared.any_code.AnyCode.TheVariants.{G1C, G1P, G1W, G1S, G1L, G1X, G2C, G2D, G2P, G2W, G2S, G2L, G2X, G5I, G5Q, G5X, R1C, R1P, R2C, R2P, E1C, E1B, E1X, E6C, E6B, E6X, E7I, E7Q, E7X, E8I, E8Q, E8X, E5I, E5Q, E5X, C2I, C2Q, C2X, C6I, C6Q, C6X, C7I, C7Q, C7X, C5D, C5P, C5X, C7D, C1D, C1P, C1X, J1C, J6S, J6L, J6X, J2S, J2L, J2X, J5I, J5Q, J5X, J1S, J1L, J1X, S1C, S5I, S5Q, S5X, I5A}
use Rattle.rtk_obs.specs.declared.signal_cells.SignalEntry.{SignalEntry}
use Rattle.rtk_obs.specs.Mask.{join_from}
use Rattle.rtk_obs.specs.MsmCells.{Slot, satellites_of, signals_of, slots_of}
use Rattle.rtk_obs.specs.SatelliteIndex.{bit_at, index_in}
use Rattle.rtk_obs.specs.SignalCells.{channel_in, bit_of_row, field_of_row, entry_if, signal_entry, signal_entries, AreDifferentEntries}
use Rattle.rtk_obs.specs.Signals.{gps_code, glonass_code, galileo_code, beidou_code, qzss_code, sbas_code, navic_code, code_in}
use Rattle.rtk_obs.proofs.DistinctLemmas.{IsSlotBefore, slots_rise, set_bits_from-rise, below_33}
use Rattle.rtk_obs.proofs.MaskLemmas.{set_bits_from-bounds}
use Rattle.rtk_obs.proofs.MsmFieldLemmas.{is_cell_mask-msm, below_at}
use Rattle.rtk_obs.proofs.MsmLemmas.{count-satellites}
use Rattle.rtk_obs.proofs.PairsLemmas.{Pairs, all_append, all_from, all_pairs, pairs-append}
use Rattle.rtk_obs.proofs.SatelliteLemmas.{index_back}

-- ---- one signal a code

-- 33, which is no signal, for the code that none has
signal_of : AnyCode → ℕ
signal_of G1C = 2
signal_of G1P = 3
signal_of G1W = 4
signal_of G1S = 30
signal_of G1L = 31
signal_of G1X = 32
signal_of G2C = 8
signal_of G2D = 33
signal_of G2P = 9
signal_of G2W = 10
signal_of G2S = 15
signal_of G2L = 16
signal_of G2X = 17
signal_of G5I = 22
signal_of G5Q = 23
signal_of G5X = 24
signal_of R1C = 2
signal_of R1P = 3
signal_of R2C = 8
signal_of R2P = 9
signal_of E1C = 2
signal_of E1B = 4
signal_of E1X = 5
signal_of E6C = 8
signal_of E6B = 10
signal_of E6X = 11
signal_of E7I = 14
signal_of E7Q = 15
signal_of E7X = 16
signal_of E8I = 18
signal_of E8Q = 19
signal_of E8X = 20
signal_of E5I = 22
signal_of E5Q = 23
signal_of E5X = 24
signal_of C2I = 2
signal_of C2Q = 3
signal_of C2X = 4
signal_of C6I = 8
signal_of C6Q = 9
signal_of C6X = 10
signal_of C7I = 14
signal_of C7Q = 15
signal_of C7X = 16
signal_of C5D = 22
signal_of C5P = 23
signal_of C5X = 24
signal_of C7D = 25
signal_of C1D = 30
signal_of C1P = 31
signal_of C1X = 32
signal_of J1C = 2
signal_of J6S = 9
signal_of J6L = 10
signal_of J6X = 11
signal_of J2S = 15
signal_of J2L = 16
signal_of J2X = 17
signal_of J5I = 22
signal_of J5Q = 23
signal_of J5X = 24
signal_of J1S = 30
signal_of J1L = 31
signal_of J1X = 32
signal_of S1C = 2
signal_of S5I = 22
signal_of S5Q = 23
signal_of S5X = 24
signal_of I5A = 22

abbrev IsOf : ℕ → AnyCode → Type 0
IsOf n c = signal_of c ≡ n

first_if : (b : Bool) (n k : ℕ) (c : AnyCode) (others : Option AnyCode) → nat_eq n k ≡ b → signal_of c ≡ k → IfSome others (IsOf n) → IfSome (cond b (Some c) others) (IsOf n)
first_if true n k c others e is rest = is ∙ sym (eqb-true n k e)
first_if false n k c others e is rest = rest

-- the first code is that of the signal, if it is this one, and so are the others
first : (n k : ℕ) (c : AnyCode) (others : Option AnyCode) → signal_of c ≡ k → IfSome others (IsOf n) → IfSome (cond (nat_eq n k) (Some c) others) (IsOf n)
first n k c others is rest = first_if (nat_eq n k) n k c others refl is rest

gps-signal : (n : ℕ) → IfSome (gps_code n) (IsOf n)
unfolding signal_of
gps-signal n =
    first n 2 G1C _ refl (
    first n 3 G1P _ refl (
    first n 4 G1W _ refl (
    first n 8 G2C _ refl (
    first n 9 G2P _ refl (
    first n 10 G2W _ refl (
    first n 15 G2S _ refl (
    first n 16 G2L _ refl (
    first n 17 G2X _ refl (
    first n 22 G5I _ refl (
    first n 23 G5Q _ refl (
    first n 24 G5X _ refl (
    first n 30 G1S _ refl (
    first n 31 G1L _ refl (
    first n 32 G1X _ refl (tt)))))))))))))))

glonass-signal : (n : ℕ) → IfSome (glonass_code n) (IsOf n)
unfolding signal_of
glonass-signal n =
    first n 2 R1C _ refl (
    first n 3 R1P _ refl (
    first n 8 R2C _ refl (
    first n 9 R2P _ refl (tt))))

galileo-signal : (n : ℕ) → IfSome (galileo_code n) (IsOf n)
unfolding signal_of
galileo-signal n =
    first n 2 E1C _ refl (
    first n 4 E1B _ refl (
    first n 5 E1X _ refl (
    first n 8 E6C _ refl (
    first n 10 E6B _ refl (
    first n 11 E6X _ refl (
    first n 14 E7I _ refl (
    first n 15 E7Q _ refl (
    first n 16 E7X _ refl (
    first n 18 E8I _ refl (
    first n 19 E8Q _ refl (
    first n 20 E8X _ refl (
    first n 22 E5I _ refl (
    first n 23 E5Q _ refl (
    first n 24 E5X _ refl (tt)))))))))))))))

beidou-signal : (n : ℕ) → IfSome (beidou_code n) (IsOf n)
unfolding signal_of
beidou-signal n =
    first n 2 C2I _ refl (
    first n 3 C2Q _ refl (
    first n 4 C2X _ refl (
    first n 8 C6I _ refl (
    first n 9 C6Q _ refl (
    first n 10 C6X _ refl (
    first n 14 C7I _ refl (
    first n 15 C7Q _ refl (
    first n 16 C7X _ refl (
    first n 22 C5D _ refl (
    first n 23 C5P _ refl (
    first n 24 C5X _ refl (
    first n 25 C7D _ refl (
    first n 30 C1D _ refl (
    first n 31 C1P _ refl (
    first n 32 C1X _ refl (tt))))))))))))))))

qzss-signal : (n : ℕ) → IfSome (qzss_code n) (IsOf n)
unfolding signal_of
qzss-signal n =
    first n 2 J1C _ refl (
    first n 9 J6S _ refl (
    first n 10 J6L _ refl (
    first n 11 J6X _ refl (
    first n 15 J2S _ refl (
    first n 16 J2L _ refl (
    first n 17 J2X _ refl (
    first n 22 J5I _ refl (
    first n 23 J5Q _ refl (
    first n 24 J5X _ refl (
    first n 30 J1S _ refl (
    first n 31 J1L _ refl (
    first n 32 J1X _ refl (tt)))))))))))))

sbas-signal : (n : ℕ) → IfSome (sbas_code n) (IsOf n)
unfolding signal_of
sbas-signal n =
    first n 2 S1C _ refl (
    first n 22 S5I _ refl (
    first n 23 S5Q _ refl (
    first n 24 S5X _ refl (tt))))

navic-signal : (n : ℕ) → IfSome (navic_code n) (IsOf n)
unfolding signal_of
navic-signal n =
    first n 22 I5A _ refl (tt)

code-signal : (s : System) (n : ℕ) → IfSome (code_in s n) (IsOf n)
code-signal Gps n = gps-signal n
code-signal Glonass n = glonass-signal n
code-signal Galileo n = galileo-signal n
code-signal Beidou n = beidou-signal n
code-signal Qzss n = qzss-signal n
code-signal Sbas n = sbas-signal n
code-signal Navic n = navic-signal n

signal-is : (n : ℕ) (o : Option AnyCode) (c : AnyCode) → IfSome o (IsOf n) → o ≡ Some c → signal_of c ≡ n
signal-is n None c a e = absurd cc
signal-is n (Some d) c a e = (let same : d ≡ c = cc in ap signal_of (sym same) ∙ a)

-- ---- the entries

module _ (channels : List (Option ℤ)) (m : Msm) where
  abbrev IsOfSlot : Slot → SignalEntry → Type 0
  IsOfSlot s e = (index_in m.system (bit_of_row m s.row) ≡ Some e.satellite) × (code_in m.system s.signal ≡ Some e.code)

  abbrev Slots : Slot → Slot → Type 0
  Slots s t = IsSlotBefore (satellites_of m.header) (signals_of m.header) 33 s t

  entry-of : (k : ℕ) (s : Slot) (channel : Option ℤ) (o : Option ℕ) (c : Option AnyCode) → index_in m.system (bit_of_row m s.row) ≡ o → code_in m.system s.signal ≡ c
      → AllByRecursion (IsOfSlot s) (entry_if m k s.row channel o c)
  entry-of k s channel None c e f = tt
  entry-of k s channel (Some i) None e f = tt
  entry-of k s channel (Some i) (Some c) e f = ((e, f), tt)

  slot-of : (k : ℕ) (s : Slot) → AllByRecursion (IsOfSlot s) (signal_entry channels m k s)
  slot-of k s = entry-of k s (channel_in m.system channels (bit_of_row m s.row) (field_of_row m s.row)) (index_in m.system (bit_of_row m s.row)) (code_in m.system s.signal) refl refl

  one : (k row : ℕ) (channel : Option ℤ) (o : Option ℕ) (c : Option AnyCode) → Pairs AreDifferentEntries (entry_if m k row channel o c)
  one k row channel None c = tt
  one k row channel (Some i) None = tt
  one k row channel (Some i) (Some c) = (tt, tt)

  differ : (s t : Slot) (a b : SignalEntry) → Slots s t → IsOfSlot s a → IsOfSlot t b → AreDifferentEntries a b
  differ s t a b before p q same codes = elim before [
    | inl less ↦
        let bits : bit_of_row m s.row ≡ bit_of_row m t.row =
        sym (index_back m.system (bit_of_row m s.row) a.satellite p.0).1.1 ∙ ap bit_at same ∙ (index_back m.system (bit_of_row m t.row) b.satellite q.0).1.1 in
        omega (arith, less, bits)
    | inr more ↦
        let x = signal-is s.signal (code_in m.system s.signal) a.code (code-signal m.system s.signal) p.1 in
        let y = signal-is t.signal (code_in m.system t.signal) b.code (code-signal m.system t.signal) q.1 in
        omega (arith, x, y, ap signal_of codes, more.1)
  ]

  later : (s : Slot) (a : SignalEntry) → IsOfSlot s a → (k : ℕ) (ts : List Slot) → AllByRecursion (Slots s) ts → AllByRecursion (AreDifferentEntries a) (join_from (signal_entry channels m) k ts)
  unfolding join_from
  later s a is k [] o = tt
  later s a is k (t ∷ ts) o =
      all_append (AreDifferentEntries a) (signal_entry channels m k t) (join_from (signal_entry channels m) (suc k) ts)
      (all_from (IsOfSlot t) (AreDifferentEntries a) (λ b q. differ s t a b o.0 is q) (signal_entry channels m k t) (slot-of k t))
      (later s a is (suc k) ts o.1)

  of-slots : (k : ℕ) (ss : List Slot) → Pairs Slots ss → Pairs AreDifferentEntries (join_from (signal_entry channels m) k ss)
  unfolding join_from
  of-slots k [] p = tt
  of-slots k (s ∷ ss) p =
      pairs-append AreDifferentEntries (signal_entry channels m k s) (join_from (signal_entry channels m) (suc k) ss)
      (one k s.row (channel_in m.system channels (bit_of_row m s.row) (field_of_row m s.row)) (index_in m.system (bit_of_row m s.row)) (code_in m.system s.signal))
      (of-slots (suc k) ss p.1)
      (all_from (IsOfSlot s) (λ (a : SignalEntry). AllByRecursion (AreDifferentEntries a) (join_from (signal_entry channels m) (suc k) ss))
      (λ a is. later s a is (suc k) ss p.0) (signal_entry channels m k s) (slot-of k s))

  pub entries-distinct : IsValid m → AllPairs AreDifferentEntries (signal_entries channels m)
  entries-distinct valid =
      let is = is_cell_mask-msm m valid in
      all_pairs AreDifferentEntries (signal_entries channels m)
      (of-slots 0 (slots_of m.header m.cell_mask)
      (slots_rise (satellites_of m.header) (signals_of m.header) 33 (set_bits_from-rise 1 64 m.header.satellite_mask) (set_bits_from-rise 1 32 m.header.signal_mask)
      (λ k. below_at 33 (omega arith) (signals_of m.header) k (below_33 (signals_of m.header) (set_bits_from-bounds 1 32 m.header.signal_mask)))
      0 m.cell_mask (omega (arith, is.rows, count-satellites m.header m.cell_mask is))))

-- What a setup keeps beside what it is told.
use Rattle.std.proofs.Common.{◌≡◌, ◌≢◌, ◌∙◌, ◌+◌, ◌-◌, ◌*◌, ◌<◌, ◌==◌, ℕ, ℤ, Bool, true, List, [], ◌∷◌, map, length, Option, None, false, refl, sym, ap, arith, get_or}
use Rattle.std.specs.Prelude.{if◌then◌else◌, nat_le}
use Rattle.std.specs.List.{flat_map}
use Rattle.std.proofs.Math.Path.{fun_ext}
use Rattle.std.proofs.lemmas.List.{get_or-map, length-map}
use Rattle.rtk_message.specs.declared.any_message.AnyMessage.{AnyMessage as Message}
use Rattle.rtk_message.specs.declared.any_message.AnyMessage.TheVariants as any
use Rattle.rtk_message.specs.declared.message.Message.TheVariants.{Obs1004, Arp1005, Arp1006, Msm1074}
use Rattle.rtk_message.specs.declared.msm.Msm.{Msm}
use Rattle.rtk_message.specs.declared.obs1012.GlonassSatellite.{GlonassSatellite}
use Rattle.rtk_message.specs.declared.msm_kind.MsmKind.{MsmKind}
use Rattle.rtk_message.specs.declared.msm_kind.MsmKind.TheVariants.{Msm4, Msm5, Msm6, Msm7}
use Rattle.rtk_message.specs.Accepted.{no_kind, only_kind, takes_kind}
use Rattle.rtk_message.specs.declared.system.System.{System}
use Rattle.rtk_message.specs.declared.system.System.TheVariants.{Gps, Glonass, Galileo, Beidou, Qzss, Sbas, Navic}
use Rattle.rtk_obs.specs.declared.code.Code.{Code}
use Rattle.rtk_obs.specs.declared.code.Code.TheVariants as gps
use Rattle.rtk_obs.specs.declared.signal_cells.SignalEntry.{SignalEntry}
use Rattle.rtk_obs.specs.AnyCode.{code_of_gps, system_of, codes_before, number_of}
use Rattle.rtk_obs.specs.Code.{place_of}
use Rattle.rtk_obs.specs.Doppler.{doppler_entry_if, doppler_entry, entries_with_doppler}
use Rattle.rtk_obs.specs.GlonassCells.{unless_other_in_1012, glonass_entries, slot_entries, first_of_slots}
use Rattle.rtk_obs.specs.Mask.{join_from}
use Rattle.rtk_obs.specs.MsmCells.{Slot, slots_of}
use Rattle.rtk_obs.specs.SatelliteIndex.{index_in, letter_of}
use Rattle.rtk_obs.specs.SbasCells.{entries_with_sbas}
use Rattle.rtk_obs.specs.SignalCells.{unless_other, channel_in, bit_of_row, field_of_row, entry_if, signal_entry, entries_of}
use Rattle.rtk_obs.specs.Signals.{code_in}
use Rattle.rtk_obs.proofs.PublicLaws.{number-of-gps, same_signal}
use Rattle.rtk_rinex.specs.Header.{IsCodeList}
use Rattle.rtk_rinex.specs.MixedHead.{AreInOrder, IsMixedList, IsMixedHeadFault, has_glonass, letter}
use Rattle.rtk_rinex.specs.declared.mixed_head_fault.MixedHeadFault.{MixedHeadFault}
use Rattle.rtk_rinex.specs.declared.mixed_head_fault.MixedHeadFault.TheVariants.{Codes, Glonass as NotTold}
use Rattle.rtk_setup.specs.Setup.{AreSameChannels, plain_entries_as, entries_as}

-- ---- the kinds

-- the kind of a system is taken exactly if a code of the system is listed
pub takes-own : (b : Bool) (k : MsmKind) → takes_kind (if b then only_kind k else no_kind) k ≡ b
takes-own true Msm4 = refl
takes-own true Msm5 = refl
takes-own true Msm6 = refl
takes-own true Msm7 = refl
takes-own false Msm4 = refl
takes-own false Msm5 = refl
takes-own false Msm6 = refl
takes-own false Msm7 = refl

-- ---- the channels

channel-same : (system : System) (channels others : List (Option ℤ)) (bit field : ℕ) → AreSameChannels channels others
    → channel_in system channels bit field ≡ channel_in system others bit field
channel-same Gps channels others bit field h = refl
channel-same Glonass channels others bit field h = ap (λ (o : Option ℤ). if nat_le bit 27 then unless_other field o else None) (h bit)
channel-same Galileo channels others bit field h = refl
channel-same Beidou channels others bit field h = refl
channel-same Qzss channels others bit field h = refl
channel-same Sbas channels others bit field h = refl
channel-same Navic channels others bit field h = refl

entry-same : (channels others : List (Option ℤ)) (m : Msm) → AreSameChannels channels others → signal_entry channels m ≡ signal_entry others m
entry-same channels others m h = fun_ext (λ k. fun_ext (λ (s : Slot).
    ap (λ (o : Option ℤ). entry_if m k s.row o (index_in m.system (bit_of_row m s.row)) (code_in m.system s.signal))
    (channel-same m.system channels others (bit_of_row m s.row) (field_of_row m s.row) h)))

slot-same : (channels others : List (Option ℤ)) → AreSameChannels channels others → slot_entries channels ≡ slot_entries others
slot-same channels others h = fun_ext (λ (s : GlonassSatellite). ap (λ (o : Option ℤ). glonass_entries s (unless_other_in_1012 s.channel o) (index_in Glonass s.slot)) (h s.slot))

cells-same : (channels others : List (Option ℤ)) (m : Message) → AreSameChannels channels others → entries_of channels m ≡ entries_of others m
cells-same channels others (any.Message m) h = refl
cells-same channels others (any.Msm m) h = ap (λ (f : ℕ → Slot → List SignalEntry). join_from f 0 (slots_of m.header m.cell_mask)) (entry-same channels others m h)
cells-same channels others (any.Obs1012 m) h = ap (λ (f : GlonassSatellite → List SignalEntry). flat_map f (first_of_slots m.satellites)) (slot-same channels others h)

signals-same : (channels others : List (Option ℤ)) (m : Message) → AreSameChannels channels others → entries_with_sbas channels m ≡ entries_with_sbas others m
signals-same channels others (any.Message (Obs1004 m)) h = refl
signals-same channels others (any.Message (Arp1005 m)) h = refl
signals-same channels others (any.Message (Arp1006 m)) h = refl
signals-same channels others (any.Message (Msm1074 m)) h = refl
signals-same channels others (any.Msm m) h = cells-same channels others (any.Msm m) h
signals-same channels others (any.Obs1012 m) h = cells-same channels others (any.Obs1012 m) h

-- by the same channels all cells are the same, with those of SBAS in a 1004 or without them
plain-same : (sbas : Bool) (channels others : List (Option ℤ)) → AreSameChannels channels others → plain_entries_as sbas channels ≡ plain_entries_as sbas others
plain-same true channels others h = fun_ext (λ m. signals-same channels others m h)
plain-same false channels others h = fun_ext (λ m. cells-same channels others m h)

shift-same : (channels others : List (Option ℤ)) (m : Msm) → AreSameChannels channels others → doppler_entry channels m ≡ doppler_entry others m
shift-same channels others m h = fun_ext (λ k. fun_ext (λ (s : Slot).
    ap (λ (o : Option ℤ). doppler_entry_if m k s.row o (index_in m.system (bit_of_row m s.row)) (code_in m.system s.signal))
    (channel-same m.system channels others (bit_of_row m s.row) (field_of_row m s.row) h)))

shifts-same : (sbas : Bool) (channels others : List (Option ℤ)) (m : Message) → AreSameChannels channels others
    → entries_with_doppler (plain_entries_as sbas channels) channels m ≡ entries_with_doppler (plain_entries_as sbas others) others m
shifts-same sbas channels others (any.Message m) h = ap (λ (f : Message → List SignalEntry). f (any.Message m)) (plain-same sbas channels others h)
shifts-same sbas channels others (any.Msm m) h = ap (λ (f : ℕ → Slot → List SignalEntry). join_from f 0 (slots_of m.header m.cell_mask)) (shift-same channels others m h)
shifts-same sbas channels others (any.Obs1012 m) h = ap (λ (f : Message → List SignalEntry). f (any.Obs1012 m)) (plain-same sbas channels others h)

-- so are those with Doppler shifts
pub all-cells-same : (doppler sbas : Bool) (channels others : List (Option ℤ)) → AreSameChannels channels others → entries_as doppler sbas channels ≡ entries_as doppler sbas others
all-cells-same true sbas channels others h = fun_ext (λ m. shifts-same sbas channels others m h)
all-cells-same false sbas channels others h = plain-same sbas channels others h

-- ---- a head of GPS as one of any systems

-- all codes of GPS are of GPS
pub gps-code : (c : Code) → system_of (code_of_gps c) ≡ Gps
gps-code gps.G1C = refl
gps-code gps.G1P = refl
gps-code gps.G1W = refl
gps-code gps.G1S = refl
gps-code gps.G1L = refl
gps-code gps.G1X = refl
gps-code gps.G2C = refl
gps-code gps.G2D = refl
gps-code gps.G2P = refl
gps-code gps.G2W = refl
gps-code gps.G2S = refl
gps-code gps.G2L = refl
gps-code gps.G2X = refl
gps-code gps.G5I = refl
gps-code gps.G5Q = refl
gps-code gps.G5X = refl

-- no two of them are one code
gps-unlike : (c d : Code) → c ≢ d → code_of_gps c ≢ code_of_gps d
gps-unlike c d ne same =
    let place : place_of c ≡ place_of d = sym (number-of-gps c) ∙ ap number_of same ∙ number-of-gps d in
    ne (same_signal 1 1 c d (omega arith, omega arith) (omega arith, omega arith) (ap (λ (k : ℕ). (1 - 1) * 16 + k) place)).1

gps-in_order : (c d : Code) → c ≢ d → AreInOrder (code_of_gps c) (code_of_gps d)
gps-in_order c d ne = record {
  unlike = gps-unlike c d ne;
  systems =
      let one : codes_before (system_of (code_of_gps c)) ≡ 0 = ap codes_before (gps-code c) in
      let other : codes_before (system_of (code_of_gps d)) ≡ 0 = ap codes_before (gps-code d) in
      omega (arith, one, other);
}

-- codes of GPS that a head lists are codes that a head of any systems lists
pub gps-list : (cs : List Code) → IsCodeList cs → IsMixedList (map code_of_gps cs)
gps-list cs h =
    let size = length-map cs code_of_gps in
    record {
      count = (omega (arith, size, h.0.0), omega (arith, size, h.0.1));
      order = λ i j d lt within.
          let high : j < length cs = omega (arith, size, within) in
          let low : i < length cs = omega (arith, lt, high) in
          let one = get_or-map code_of_gps cs i gps.G1C d low in
          let other = get_or-map code_of_gps cs j gps.G1C d high in
          rw (one, other) (gps-in_order (get_or cs i gps.G1C) (get_or cs j gps.G1C) (h.1 i j gps.G1C lt high));
    }

not-glonass : (c : Code) → (letter (code_of_gps c) == 82) ≡ false
not-glonass c = ap (λ (s : System). letter_of s == 82) (gps-code c)

pub none-of-glonass : (cs : List Code) → has_glonass (map code_of_gps cs) ≡ false
none-of-glonass [] = refl
none-of-glonass (c ∷ cs) = rw (not-glonass c) (none-of-glonass cs)

-- parts that are good make a head
pub no-fault : (cs : List Code) (f : MixedHeadFault) → IsCodeList cs → IsMixedHeadFault (map code_of_gps cs) None f → ⊥
no-fault cs Codes h bad = bad (gps-list cs h)
no-fault cs NotTold h bad = bad.1 (none-of-glonass cs)

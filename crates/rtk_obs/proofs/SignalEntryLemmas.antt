-- The cells of GPS as entries of any system: their ranges, and that those of an MSM of GPS are its entries.
use Rattle.std.proofs.Common.{◌≡◌, ◌∙◌, ℕ, suc, zero, ◌+◌, ℤ, Bool, true, false, cond, nat_eq, List, [], ◌∷◌, ◌++◌, map, length, get_or, Option, Some, None, refl, sym, ap, arith}
use Rattle.std.specs.Prelude.{IfSome, option_map}
use Rattle.std.specs.List.{All, AllPairs, AllByRecursion}
use Rattle.std.proofs.lemmas.List.{map-append}
use Rattle.std.proofs.lemmas.List.Elements.{All-from_recursion, All-weaker, All-map}
use Rattle.std.proofs.lemmas.List.Kept.{AllPairs-cons}
use Rattle.rtk_message.specs.AnyDecoded.{IsValid}
use Rattle.rtk_message.specs.MsmForm.{IsValid as IsValidMsm}
use Rattle.rtk_message.specs.declared.any_message.AnyMessage.{AnyMessage}
use Rattle.rtk_message.specs.declared.any_message.AnyMessage.TheVariants as any
use Rattle.rtk_message.specs.declared.msm.Msm.{Msm}
use Rattle.rtk_message.specs.declared.system.System.{System}
use Rattle.rtk_message.specs.declared.system.System.TheVariants.{Gps}
use Rattle.rtk_obs.specs.declared.code.Code.{Code}
use Rattle.rtk_obs.specs.declared.code.Code.TheVariants.{G1C, G1P, G1W, G1S, G1L, G1X, G2C, G2D, G2P, G2W, G2S, G2L, G2X, G5I, G5Q, G5X}
use Rattle.rtk_obs.specs.declared.any_code.AnyCode.{AnyCode}
use Rattle.rtk_obs.specs.declared.cell.CellEntry.{CellEntry}
use Rattle.rtk_obs.specs.declared.cell.CellSource.{CellSource}
use Rattle.rtk_obs.specs.declared.cell.CellSource.TheVariants.{Legacy, Msm as SourceMsm}
use Rattle.rtk_obs.specs.declared.signal_cells.SignalEntry.{SignalEntry}
use Rattle.rtk_obs.specs.AnyCode as any_code
use Rattle.rtk_obs.specs.AnyCode.{code_of_gps, carrier_of, system_of, IsSignal}
use Rattle.rtk_obs.specs.Carriers.{frequency_at}
use Rattle.rtk_obs.specs.Cell.{is_satellite, IsSatellite, IsStrength, IsInRange, AreDistinct, AreDifferentSignals}
use Rattle.rtk_obs.specs.Code.{band_of, frequency_of, name_of, place_of}
use Rattle.rtk_obs.specs.Mask.{join_from}
use Rattle.rtk_obs.specs.MessageCells.{cells_of}
use Rattle.rtk_obs.specs.MsmCells.{Slot, slots_of, coded_entry, slot_entry, code_of_signal, cell_of_msm, cells_of_msm, msm_entries, if_gps, has_extended_resolution}
use Rattle.rtk_obs.specs.SatelliteIndex.{index_in}
use Rattle.rtk_obs.specs.Signals.{gps_code, code_in}
use Rattle.rtk_obs.specs.SignalCells.{channel_in, bit_of_row, field_of_row, entry_if, signal_entry, signal_entries, signal_of, entries_of, AreDifferentEntries, IsSignalInRange, EntriesAreOfOneKind}
use Rattle.rtk_obs.proofs.CodeLemmas.{same_code}
use Rattle.rtk_obs.proofs.DistinctEntryLemmas.{entries-distinct}
use Rattle.rtk_obs.proofs.GlonassEntryLemmas.{glonass-own, glonass-range, glonass-differ, glonass-legacy}
use Rattle.rtk_obs.proofs.MaskLemmas.{all-join_from}
use Rattle.rtk_obs.proofs.MessageLemmas.{cells_of-in_range, cells_of-distinct, cells_of-satellites, cells_of-kind}
use Rattle.rtk_obs.proofs.MsmFieldLemmas.{kind_if, cnr_at}
use Rattle.rtk_obs.proofs.OwnCodeLemmas.{entries-own}
use Rattle.rtk_obs.proofs.SatelliteLemmas.{at-gps}

-- ---- codes

code-of-gps : (c : Code) → system_of (code_of_gps c) ≡ Gps
code-of-gps G1C = refl
code-of-gps G1P = refl
code-of-gps G1W = refl
code-of-gps G1S = refl
code-of-gps G1L = refl
code-of-gps G1X = refl
code-of-gps G2C = refl
code-of-gps G2D = refl
code-of-gps G2P = refl
code-of-gps G2W = refl
code-of-gps G2S = refl
code-of-gps G2L = refl
code-of-gps G2X = refl
code-of-gps G5I = refl
code-of-gps G5Q = refl
code-of-gps G5X = refl

pub number-of-gps : (c : Code) → any_code.number_of (code_of_gps c) ≡ place_of c
number-of-gps G1C = refl
number-of-gps G1P = refl
number-of-gps G1W = refl
number-of-gps G1S = refl
number-of-gps G1L = refl
number-of-gps G1X = refl
number-of-gps G2C = refl
number-of-gps G2D = refl
number-of-gps G2P = refl
number-of-gps G2W = refl
number-of-gps G2S = refl
number-of-gps G2L = refl
number-of-gps G2X = refl
number-of-gps G5I = refl
number-of-gps G5Q = refl
number-of-gps G5X = refl

name-of-gps : (c : Code) → any_code.name_of (code_of_gps c) ≡ name_of c
name-of-gps G1C = refl
name-of-gps G1P = refl
name-of-gps G1W = refl
name-of-gps G1S = refl
name-of-gps G1L = refl
name-of-gps G1X = refl
name-of-gps G2C = refl
name-of-gps G2D = refl
name-of-gps G2P = refl
name-of-gps G2W = refl
name-of-gps G2S = refl
name-of-gps G2L = refl
name-of-gps G2X = refl
name-of-gps G5I = refl
name-of-gps G5Q = refl
name-of-gps G5X = refl

pub frequency-of-gps : (c : Code) → frequency_at (carrier_of (code_of_gps c)) None ≡ Some (frequency_of (band_of c))
frequency-of-gps G1C = refl
frequency-of-gps G1P = refl
frequency-of-gps G1W = refl
frequency-of-gps G1S = refl
frequency-of-gps G1L = refl
frequency-of-gps G1X = refl
frequency-of-gps G2C = refl
frequency-of-gps G2D = refl
frequency-of-gps G2P = refl
frequency-of-gps G2W = refl
frequency-of-gps G2S = refl
frequency-of-gps G2L = refl
frequency-of-gps G2X = refl
frequency-of-gps G5I = refl
frequency-of-gps G5Q = refl
frequency-of-gps G5X = refl

pub same-code : (c d : Code) → code_of_gps c ≡ code_of_gps d → c ≡ d
same-code c d e = same_code c d (sym (name-of-gps c) ∙ ap any_code.name_of e ∙ name-of-gps d)

-- the first code is the same, and so are the others
first : (b : Bool) (c : Code) (others : Option AnyCode) (rest : Option Code) → others ≡ option_map code_of_gps rest
    → cond b (Some (code_of_gps c)) others ≡ option_map code_of_gps (cond b (Some c) rest)
first true c others rest e = refl
first false c others rest e = e

pub gps-code : (n : ℕ) → gps_code n ≡ option_map code_of_gps (code_of_signal n)
gps-code n =
    first (nat_eq n 2) G1C _ _ (
    first (nat_eq n 3) G1P _ _ (
    first (nat_eq n 4) G1W _ _ (
    first (nat_eq n 8) G2C _ _ (
    first (nat_eq n 9) G2P _ _ (
    first (nat_eq n 10) G2W _ _ (
    first (nat_eq n 15) G2S _ _ (
    first (nat_eq n 16) G2L _ _ (
    first (nat_eq n 17) G2X _ _ (
    first (nat_eq n 22) G5I _ _ (
    first (nat_eq n 23) G5Q _ _ (
    first (nat_eq n 24) G5X _ _ (
    first (nat_eq n 30) G1S _ _ (
    first (nat_eq n 31) G1L _ _ (
    first (nat_eq n 32) G1X _ _ (refl)))))))))))))))

-- ---- an MSM of GPS

module _ (channels : List (Option ℤ)) (m : Msm) where
  coded : (k row satellite : ℕ) (code : Option Code) → entry_if m k row None (Some satellite) (option_map code_of_gps code) ≡ map signal_of (coded_entry (cell_of_msm m k row) satellite code)
  coded k row satellite None = refl
  coded k row satellite (Some c) = rw (frequency-of-gps c) refl

  if-satellite : (b : Bool) (k row satellite : ℕ) (code : Option Code)
      → entry_if m k row None (cond b (Some satellite) None) (option_map code_of_gps code) ≡ map signal_of (cond b (coded_entry (cell_of_msm m k row) satellite code) [])
  if-satellite true k row satellite code = coded k row satellite code
  if-satellite false k row satellite code = refl

  index-gps : (bit : ℕ) → index_in Gps bit ≡ cond (is_satellite bit) (Some bit) None
  index-gps bit = (let e : 0 + bit ≡ bit = omega arith in ap (λ (n : ℕ). cond (is_satellite bit) (Some n) None) e)

  slot-same : m.system ≡ Gps → (k : ℕ) (s : Slot) → signal_entry channels m k s ≡ map signal_of (slot_entry m.header (cell_of_msm m) k s)
  slot-same is k s =
      ap (λ (x : System). entry_if m k s.row (channel_in x channels (bit_of_row m s.row) (field_of_row m s.row)) (index_in x (bit_of_row m s.row)) (code_in x s.signal)) is
      ∙ ap (λ (o : Option ℕ). entry_if m k s.row None o (gps_code s.signal)) (index-gps (bit_of_row m s.row))
      ∙ ap (λ (o : Option AnyCode). entry_if m k s.row None (cond (is_satellite (bit_of_row m s.row)) (Some (bit_of_row m s.row)) None) o) (gps-code s.signal)
      ∙ if-satellite (is_satellite (bit_of_row m s.row)) k s.row (bit_of_row m s.row) (code_of_signal s.signal)

  slots-same : m.system ≡ Gps → (k : ℕ) (ss : List Slot) → join_from (signal_entry channels m) k ss ≡ map signal_of (join_from (slot_entry m.header (cell_of_msm m)) k ss)
  unfolding join_from
  slots-same is k [] = refl
  slots-same is k (s ∷ ss) =
      ap (λ (es : List SignalEntry). es ++ join_from (signal_entry channels m) (suc k) ss) (slot-same is k s)
      ∙ ap (λ (es : List SignalEntry). map signal_of (slot_entry m.header (cell_of_msm m) k s) ++ es) (slots-same is (suc k) ss)
      ∙ sym (map-append signal_of (slot_entry m.header (cell_of_msm m) k s) (join_from (slot_entry m.header (cell_of_msm m)) (suc k) ss))

  pub entries-of-gps : m.system ≡ Gps → signal_entries channels m ≡ map signal_of (cells_of_msm m)
  entries-of-gps is =
      slots-same is 0 (slots_of m.header m.cell_mask)
      ∙ ap (λ (x : System). map signal_of (if_gps x (msm_entries m.header m.cell_mask (cell_of_msm m)))) (sym is)

-- ---- ranges

abbrev HasStrength : SignalEntry → Type 0
HasStrength e = IfSome e.cell.strength_millidbhz IsStrength

module _ (m : Msm) (valid : IsValidMsm m) where
  if-strength : (k row : ℕ) (channel : Option ℤ) (o : Option ℕ) (c : Option AnyCode) → AllByRecursion HasStrength (entry_if m k row channel o c)
  if-strength k row channel None c = tt
  if-strength k row channel (Some i) None = tt
  if-strength k row channel (Some i) (Some c) = (kind_if (has_extended_resolution m.kind) (get_or m.cnr k 0) (λ e. cnr_at m valid e k), tt)

  entries-strength : (channels : List (Option ℤ)) → All HasStrength (signal_entries channels m)
  entries-strength channels =
      All-from_recursion HasStrength (signal_entries channels m)
      (all-join_from (signal_entry channels m) HasStrength 0 (length (slots_of m.header m.cell_mask)) (slots_of m.header m.cell_mask) (omega arith)
      (λ k slot below. if-strength k slot.row (channel_in m.system channels (bit_of_row m slot.row) (field_of_row m slot.row)) (index_in m.system (bit_of_row m slot.row)) (code_in m.system slot.signal)))

  entries-range : (channels : List (Option ℤ)) → All IsSignalInRange (signal_entries channels m)
  entries-range channels = λ k d inside. record { signal = entries-own channels m k d inside; strength = entries-strength channels k d inside }

abbrev IsOwn : SignalEntry → Type 0
IsOwn e = IsSignal e.satellite e.code

pub own : (e : CellEntry) → IsSatellite e.satellite → IsOwn (signal_of e)
own e h = ((h.0, omega (arith, h.1)), code-of-gps e.code ∙ sym (at-gps e.satellite h.1))

pub entries_of-own : (channels : List (Option ℤ)) (m : AnyMessage) → All IsOwn (entries_of channels m)
entries_of-own channels (any.Message m) =
    All-map IsOwn signal_of (cells_of (any.Message m))
    (All-weaker (λ (e : CellEntry). IsSatellite e.satellite) (λ (e : CellEntry). IsOwn (signal_of e)) own (cells_of (any.Message m)) (cells_of-satellites (any.Message m)))
entries_of-own channels (any.Msm m) = entries-own channels m
entries_of-own channels (any.Obs1012 m) = glonass-own channels m.satellites

in-range : (e : CellEntry) → IsInRange e → IsSignalInRange (signal_of e)
in-range e h = record { signal = own e h.satellite; strength = h.strength }

pub entries_of-in_range : (channels : List (Option ℤ)) (m : AnyMessage) → IsValid m → All IsSignalInRange (entries_of channels m)
entries_of-in_range channels (any.Message m) valid =
    All-map IsSignalInRange signal_of (cells_of (any.Message m))
    (All-weaker IsInRange (λ (e : CellEntry). IsSignalInRange (signal_of e)) in-range (cells_of (any.Message m)) (cells_of-in_range (any.Message m) valid))
entries_of-in_range channels (any.Msm m) valid = entries-range m valid channels
entries_of-in_range channels (any.Obs1012 m) valid = glonass-range channels m valid

-- ---- no two of one satellite and code

differ : (a b : CellEntry) → AreDifferentSignals a b → AreDifferentEntries (signal_of a) (signal_of b)
differ a b h same codes = h same (same-code a.code b.code codes)

differ-tail : (x : CellEntry) (xs : List CellEntry) → AreDistinct (x ∷ xs) → AreDistinct xs
differ-tail x xs h = λ i j d before inside. h (suc i) (suc j) d (omega (arith, before)) (omega (arith, inside))

differ-head : (x : CellEntry) (xs : List CellEntry) → AreDistinct (x ∷ xs) → All (AreDifferentSignals x) xs
differ-head x xs h = λ j d inside. h zero (suc j) d (omega arith) (omega (arith, inside))

all-differ : (cells : List CellEntry) → AreDistinct cells → AllPairs AreDifferentEntries (map signal_of cells)
all-differ [] h = λ i j d before inside. absurd (omega (arith, before, inside))
all-differ (x ∷ xs) h =
    AllPairs-cons AreDifferentEntries (signal_of x) (map signal_of xs)
    (All-map (AreDifferentEntries (signal_of x)) signal_of xs
    (All-weaker (AreDifferentSignals x) (λ (b : CellEntry). AreDifferentEntries (signal_of x) (signal_of b)) (λ b. differ x b) xs (differ-head x xs h)))
    (all-differ xs (differ-tail x xs h))

pub entries_of-differ : (channels : List (Option ℤ)) (m : AnyMessage) → IsValid m → AllPairs AreDifferentEntries (entries_of channels m)
entries_of-differ channels (any.Message m) valid = all-differ (cells_of (any.Message m)) (cells_of-distinct (any.Message m) valid)
entries_of-differ channels (any.Msm m) valid = entries-distinct channels m valid
entries_of-differ channels (any.Obs1012 m) valid = glonass-differ channels m.satellites

-- ---- one kind

abbrev IsOfKind : CellSource → SignalEntry → Type 0
IsOfKind source e = e.cell.source ≡ source

if-kind : (m : Msm) (k row : ℕ) (channel : Option ℤ) (o : Option ℕ) (c : Option AnyCode) → AllByRecursion (IsOfKind SourceMsm) (entry_if m k row channel o c)
if-kind m k row channel None c = tt
if-kind m k row channel (Some i) None = tt
if-kind m k row channel (Some i) (Some c) = (refl, tt)

pub entries_of-kind : (channels : List (Option ℤ)) (m : AnyMessage) → EntriesAreOfOneKind (entries_of channels m)
entries_of-kind channels (any.Message m) =
    (let kind = cells_of-kind (any.Message m) in (kind.0, All-map (IsOfKind kind.0) signal_of (cells_of (any.Message m)) kind.1))
entries_of-kind channels (any.Msm m) = (
  SourceMsm,
  All-from_recursion (IsOfKind SourceMsm) (signal_entries channels m)
      (all-join_from (signal_entry channels m) (IsOfKind SourceMsm) 0 (length (slots_of m.header m.cell_mask)) (slots_of m.header m.cell_mask) (omega arith)
      (λ k slot below. if-kind m k slot.row (channel_in m.system channels (bit_of_row m slot.row) (field_of_row m slot.row)) (index_in m.system (bit_of_row m slot.row)) (code_in m.system slot.signal))),
)
entries_of-kind channels (any.Obs1012 m) = (Legacy, glonass-legacy channels m.satellites)

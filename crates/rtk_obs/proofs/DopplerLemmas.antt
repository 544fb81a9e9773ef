-- The entries of an MSM with their Doppler shifts: each one, and that they are the entries without them but for the shift.
use Rattle.std.proofs.Common.{◌≡◌, ◌∙◌, ℕ, suc, zero, ◌<◌, List, [], ◌∷◌, ◌++◌, length, map, Option, Some, None, refl, sym, ap, subst, arith, ℤ, pos}
use Rattle.std.specs.List.{All, AllPairs, AllByRecursion}
use Rattle.std.proofs.lemmas.List.{map-append}
use Rattle.std.proofs.lemmas.List.Elements.{All-from_recursion, recursion_from_All}
use Rattle.std.proofs.lemmas.List.Kept.{AllPairs-cons}
use Rattle.rtk_message.specs.AnyDecoded.{IsValid}
use Rattle.rtk_message.specs.declared.any_message.AnyMessage.{AnyMessage}
use Rattle.rtk_message.specs.declared.any_message.AnyMessage.TheVariants as any
use Rattle.rtk_message.specs.declared.msm.Msm.{Msm}
use Rattle.rtk_obs.specs.declared.any_code.AnyCode.{AnyCode}
use Rattle.rtk_obs.specs.declared.cell.Cell.{Cell}
use Rattle.rtk_obs.specs.declared.cell.CellSource.{CellSource}
use Rattle.rtk_obs.specs.declared.signal_cells.SignalEntry.{SignalEntry}
use Rattle.rtk_obs.specs.declared.signal_rows.SignalRow.{SignalRow}
use Rattle.rtk_obs.specs.AnyCode.{carrier_of, IsSignal}
use Rattle.rtk_obs.specs.Carriers.{frequency_at}
use Rattle.rtk_obs.specs.Doppler.{doppler_on, rate_at, doppler_entry_if, doppler_entry, doppler_entries, entries_with_doppler, without_doppler}
use Rattle.rtk_obs.specs.Mask.{join_from}
use Rattle.rtk_obs.specs.MsmCells.{Slot, slots_of, cell_on}
use Rattle.rtk_obs.specs.SatelliteIndex.{index_in}
use Rattle.rtk_obs.specs.Signals.{code_in}
use Rattle.rtk_obs.specs.SignalCells.{bit_of_row, field_of_row, channel_in, entry_if, signal_entry, signal_entries, entries_of, AreDifferentEntries, IsSignalInRange, EntriesAreOfOneKind}
use Rattle.rtk_obs.specs.Steps.SignalRows.{IsDopplerRow}
use Rattle.rtk_obs.proofs.MsmLemmas.{slot_of}
use Rattle.rtk_obs.proofs.SignalEntryLemmas.{entries_of-own, entries_of-in_range, entries_of-differ, entries_of-kind}

-- ---- the entry of a cell

module _ (channels : List (Option ℤ)) (m : Msm) (k place signal : ℕ) where
  pub doppler-there : (row : SignalRow) (code : AnyCode) (shift : ℤ) (cell : Cell) → IsDopplerRow channels m place row → code_in m.system signal ≡ Some code
      → shift ≡ doppler_on (frequency_at (carrier_of code) row.channel) (rate_at m k place)
      → cell ≡ cell_on m k place (frequency_at (carrier_of code) row.channel)
      → doppler_entry channels m k (slot_of place signal) ≡ record { satellite = row.satellite; code = code; doppler_millihertz = shift; cell = cell } ∷ []
  doppler-there row code shift cell is c d e =
      ap (λ (i : Option ℕ). doppler_entry_if m k place (channel_in m.system channels (bit_of_row m place) (field_of_row m place)) i (code_in m.system signal)) is.satellite
      ∙ ap (λ (o : Option AnyCode). doppler_entry_if m k place (channel_in m.system channels (bit_of_row m place) (field_of_row m place)) (Some row.satellite) o) c
      ∙ ap (λ (x : Option ℤ). doppler_entry_if m k place x (Some row.satellite) (Some code)) (sym is.channel)
      ∙ ap (λ (x : ℤ). record { satellite = row.satellite; code = code; doppler_millihertz = x; cell = cell_on m k place (frequency_at (carrier_of code) row.channel) } ∷ []) (sym d)
      ∙ ap (λ (x : Cell). record { satellite = row.satellite; code = code; doppler_millihertz = shift; cell = x } ∷ []) (sym e)

  pub doppler-absent : (row : SignalRow) → IsDopplerRow channels m place row → code_in m.system signal ≡ None → doppler_entry channels m k (slot_of place signal) ≡ []
  doppler-absent row is none =
      ap (λ (i : Option ℕ). doppler_entry_if m k place (channel_in m.system channels (bit_of_row m place) (field_of_row m place)) i (code_in m.system signal)) is.satellite
      ∙ ap (λ (o : Option AnyCode). doppler_entry_if m k place (channel_in m.system channels (bit_of_row m place) (field_of_row m place)) (Some row.satellite) o) none

  pub doppler-no-satellite : index_in m.system (bit_of_row m place) ≡ None → doppler_entry channels m k (slot_of place signal) ≡ []
  doppler-no-satellite none =
      ap (λ (i : Option ℕ). doppler_entry_if m k place (channel_in m.system channels (bit_of_row m place) (field_of_row m place)) i (code_in m.system signal)) none

-- ---- without the shifts they are the entries

module _ (channels : List (Option ℤ)) (m : Msm) where
  if-plain : (k row : ℕ) (channel : Option ℤ) (o : Option ℕ) (c : Option AnyCode) → entry_if m k row channel o c ≡ map without_doppler (doppler_entry_if m k row channel o c)
  if-plain k row channel None c = refl
  if-plain k row channel (Some i) None = refl
  if-plain k row channel (Some i) (Some c) = refl

  joined-plain : (k : ℕ) (ss : List Slot) → join_from (signal_entry channels m) k ss ≡ map without_doppler (join_from (doppler_entry channels m) k ss)
  unfolding join_from
  joined-plain k [] = refl
  joined-plain k (s ∷ ss) =
      ap (λ (es : List SignalEntry). es ++ join_from (signal_entry channels m) (suc k) ss)
      (if-plain k s.row (channel_in m.system channels (bit_of_row m s.row) (field_of_row m s.row)) (index_in m.system (bit_of_row m s.row)) (code_in m.system s.signal))
      ∙ ap (λ (es : List SignalEntry). map without_doppler (doppler_entry channels m k s) ++ es) (joined-plain (suc k) ss)
      ∙ sym (map-append without_doppler (doppler_entry channels m k s) (join_from (doppler_entry channels m) (suc k) ss))

  pub plain-entries : signal_entries channels m ≡ map without_doppler (doppler_entries channels m)
  plain-entries = joined-plain 0 (slots_of m.header m.cell_mask)

-- ---- what holds of the entries holds of those with shifts

with-shifts : (P : SignalEntry → Type 0) → ((e : SignalEntry) → P (without_doppler e) → P e) → (xs : List SignalEntry) → AllByRecursion P (map without_doppler xs) → AllByRecursion P xs
with-shifts P back [] a = tt
with-shifts P back (x ∷ xs) a = (back x a.0, with-shifts P back xs a.1)

all-with-shifts : (P : SignalEntry → Type 0) → ((e : SignalEntry) → P (without_doppler e) → P e) → (xs : List SignalEntry) → All P (map without_doppler xs) → All P xs
all-with-shifts P back xs a = All-from_recursion P xs (with-shifts P back xs (recursion_from_All P (map without_doppler xs) a))

tail : (x : SignalEntry) (xs : List SignalEntry) → AllPairs AreDifferentEntries (x ∷ xs) → AllPairs AreDifferentEntries xs
tail x xs h = λ i j d before inside. h (suc i) (suc j) d (omega (arith, before)) (omega (arith, inside))

head : (x : SignalEntry) (xs : List SignalEntry) → AllPairs AreDifferentEntries (x ∷ xs) → All (AreDifferentEntries x) xs
head x xs h = λ j d inside. h zero (suc j) d (omega arith) (omega (arith, inside))

differ-with-shifts : (xs : List SignalEntry) → AllPairs AreDifferentEntries (map without_doppler xs) → AllPairs AreDifferentEntries xs
differ-with-shifts [] h = λ i j d before inside. absurd (omega (arith, before, inside))
differ-with-shifts (x ∷ xs) h =
    AllPairs-cons AreDifferentEntries x xs
    (all-with-shifts (AreDifferentEntries x) (λ e p. p) xs (head (without_doppler x) (map without_doppler xs) h))
    (differ-with-shifts xs (tail (without_doppler x) (map without_doppler xs) h))

abbrev IsOwn : SignalEntry → Type 0
IsOwn e = IsSignal e.satellite e.code

abbrev IsOfKind : CellSource → SignalEntry → Type 0
IsOfKind source e = e.cell.source ≡ source

own-msm : (channels : List (Option ℤ)) (m : Msm) → All IsOwn (doppler_entries channels m)
own-msm channels m =
    all-with-shifts IsOwn (λ e p. p) (doppler_entries channels m)
    (subst (λ (es : List SignalEntry). All IsOwn es) (plain-entries channels m) (entries_of-own channels (any.Msm m)))

range-msm : (channels : List (Option ℤ)) (m : Msm) → IsValid (any.Msm m) → All IsSignalInRange (doppler_entries channels m)
range-msm channels m valid =
    all-with-shifts IsSignalInRange (λ e p. record { signal = p.signal; strength = p.strength }) (doppler_entries channels m)
    (subst (λ (es : List SignalEntry). All IsSignalInRange es) (plain-entries channels m) (entries_of-in_range channels (any.Msm m) valid))

differ-msm : (channels : List (Option ℤ)) (m : Msm) → IsValid (any.Msm m) → AllPairs AreDifferentEntries (doppler_entries channels m)
differ-msm channels m valid =
    differ-with-shifts (doppler_entries channels m)
    (subst (λ (es : List SignalEntry). AllPairs AreDifferentEntries es) (plain-entries channels m) (entries_of-differ channels (any.Msm m) valid))

kind-msm : (channels : List (Option ℤ)) (m : Msm) → EntriesAreOfOneKind (doppler_entries channels m)
kind-msm channels m =
    let kind = entries_of-kind channels (any.Msm m) in (
      kind.0,
      all-with-shifts (IsOfKind kind.0) (λ e p. p) (doppler_entries channels m)
          (subst (λ (es : List SignalEntry). All (IsOfKind kind.0) es) (plain-entries channels m) kind.1),
    )

-- ---- the entries of a message

module _ (plain : AnyMessage → List SignalEntry) (channels : List (Option ℤ)) where
  pub doppler-own : (m : AnyMessage) → All IsOwn (plain m) → All IsOwn (entries_with_doppler plain channels m)
  doppler-own (any.Message m) a = a
  doppler-own (any.Msm m) a = own-msm channels m
  doppler-own (any.Obs1012 m) a = a

  pub doppler-range : (m : AnyMessage) → IsValid m → All IsSignalInRange (plain m) → All IsSignalInRange (entries_with_doppler plain channels m)
  doppler-range (any.Message m) valid a = a
  doppler-range (any.Msm m) valid a = range-msm channels m valid
  doppler-range (any.Obs1012 m) valid a = a

  pub doppler-differ : (m : AnyMessage) → IsValid m → AllPairs AreDifferentEntries (plain m) → AllPairs AreDifferentEntries (entries_with_doppler plain channels m)
  doppler-differ (any.Message m) valid a = a
  doppler-differ (any.Msm m) valid a = differ-msm channels m valid
  doppler-differ (any.Obs1012 m) valid a = a

  pub doppler-kind : (m : AnyMessage) → EntriesAreOfOneKind (plain m) → EntriesAreOfOneKind (entries_with_doppler plain channels m)
  doppler-kind (any.Message m) a = a
  doppler-kind (any.Msm m) a = kind-msm channels m
  doppler-kind (any.Obs1012 m) a = a

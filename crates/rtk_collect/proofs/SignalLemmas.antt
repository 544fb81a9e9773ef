-- The signals of all systems as cells of a window: their keys, their order, and how many an epoch has.
use Rattle.std.proofs.Common.{false, true, Bool, refl, ◌≡◌, ◌∙◌, ℕ, suc, ◌+◌, ◌-◌, ◌*◌, ◌<◌, ◌≤◌, ℤ, List, [], ◌∷◌, length, get_or, Option, inl, inr, sym, ap, arith}
use Rattle.std.specs.Prelude.{All}
use Rattle.std.specs.List.{AllByRecursion, AllPairs}
use Rattle.std.proofs.lemmas.Bool.{cases_order}
use Rattle.std.proofs.lemmas.List.Elements.{recursion_from_All}
use Rattle.rtk_message.specs.declared.any_message.AnyMessage.{AnyMessage as Message}
use Rattle.rtk_message.specs.declared.any_message.AnyMessage.TheVariants as any
use Rattle.rtk_message.specs.declared.message.Message.{Message as FourMessage}
use Rattle.rtk_message.specs.declared.message.Message.TheVariants.{Obs1004}
use Rattle.rtk_message.specs.declared.msm.Msm.{Msm}
use Rattle.rtk_message.specs.declared.obs1004.Satellite.{Satellite}
use Rattle.rtk_message.specs.declared.obs1012.Obs1012.{Obs1012}
use Rattle.rtk_message.specs.AnyDecoded.{IsValid}
use Rattle.rtk_obs.specs.AnyCode.{codes_before, system_of, place_of, number_of, IsSignal, signal_place}
use Rattle.rtk_obs.specs.Code as gps_code
use Rattle.rtk_obs.specs.Cell.{IsSatellite}
use Rattle.rtk_obs.specs.LegacyCells.{cells_of_1004}
use Rattle.rtk_obs.specs.SatelliteIndex.{system_at}
use Rattle.rtk_obs.specs.SignalCells.{signal_of, entries_of, IsSignalInRange, AreDifferentEntries, EntriesAreOfOneKind}
use Rattle.rtk_obs.specs.declared.cell.CellEntry.{CellEntry}
use Rattle.rtk_obs.specs.declared.signal_cells.SignalEntry.{SignalEntry}
use Rattle.rtk_obs.proofs.PublicLaws.{cells_of-satellites, place_below, number_below, same_number, number-of-gps, entries_of-own, entries_of-in_range, entries_of-differ, entries_of-kind, sbas-own, sbas-range, sbas-differ, sbas-kind, doppler-own, doppler-range, doppler-differ, doppler-kind}
use Rattle.rtk_collect.specs.declared.conflicts.AnySatelliteCode.{AnySatelliteCode}
use Rattle.rtk_collect.specs.Arrival.{Arrival, message_of}
use Rattle.rtk_collect.specs.Entries.{Entries}
use Rattle.rtk_collect.specs.Key.{key, key_at, rank_of, KeysRise}
use Rattle.rtk_collect.specs.Laws.{KeptAreFew, OpeningConflictsNot, ClosingConflictsNot}
use Rattle.rtk_collect.specs.Signals.{signals, plain_entries_by, entries_by, SignalKeysAreDistinct, GpsKeepsItsOrder, EpochsAreOfSatellites}
use Rattle.rtk_collect.proofs.CellsLemmas.{From, keys-fit}
use Rattle.rtk_collect.proofs.EqualityLemmas.{place-less, rank-less, rank-one}
use Rattle.rtk_collect.proofs.FewLemmas.{AreOfArrivals, of-arrivals, kept-few}
use Rattle.rtk_collect.proofs.OpeningLemmas.{HasOtherKey, KeysDiffer, differ-none, closing-none}

-- ---- keys

parts : (s s' p p' r r' : ℕ) → p < 69 → p' < 69 → r < 2 → r' < 2 → (s * 128 + p) * 2 + r ≡ (s' * 128 + p') * 2 + r' → (s ≡ s') × (p ≡ p') × (r ≡ r')
parts s s' p p' r r' a b c d h = (omega arith, omega arith, omega arith)

pub signal-keys-are-distinct : SignalKeysAreDistinct
unfolding key key_at
signal-keys-are-distinct c d = (
  λ h. let p = parts c.satellite d.satellite (number_of c.code) (number_of d.code) (rank_of c.cell.source) (rank_of d.cell.source) (number_below c.code) (number_below d.code) (rank-less c.cell.source) (rank-less d.cell.source) h in
      (p.0, same_number c.code d.code p.1, rank-one c.cell.source d.cell.source p.2),
  λ h. ap (λ s. (s * 128 + number_of c.code) * 2 + rank_of c.cell.source) h.0 ∙ ap (λ k. (d.satellite * 128 + number_of k) * 2 + rank_of c.cell.source) h.1 ∙ ap (λ t. (d.satellite * 128 + number_of d.code) * 2 + rank_of t) h.2,
)

order-up : (s s' p p' r r' : ℕ) → p < 16 → p' < 16 → r < 2 → r' < 2 → (s * 16 + p) * 2 + r < (s' * 16 + p') * 2 + r' → (s * 128 + p) * 2 + r < (s' * 128 + p') * 2 + r'
order-up s s' p p' r r' a b c d h = omega arith

order-down : (s s' p p' r r' : ℕ) → p < 16 → p' < 16 → r < 2 → r' < 2 → (s * 128 + p) * 2 + r < (s' * 128 + p') * 2 + r' → (s * 16 + p) * 2 + r < (s' * 16 + p') * 2 + r'
order-down s s' p p' r r' a b c d h = omega arith

pub key-of-gps : (c : CellEntry) → key signals (signal_of c) ≡ (c.satellite * 128 + gps_code.place_of c.code) * 2 + rank_of c.cell.source
unfolding key key_at
key-of-gps c = ap (λ n. (c.satellite * 128 + n) * 2 + rank_of c.cell.source) (number-of-gps c.code)

pub gps-keeps-its-order : GpsKeepsItsOrder
unfolding key key_at
gps-keeps-its-order c d = (
  λ h. rw (key-of-gps c, key-of-gps d) (order-up c.satellite d.satellite (gps_code.place_of c.code) (gps_code.place_of d.code) (rank_of c.cell.source) (rank_of d.cell.source)
      (place-less c.code) (place-less d.code) (rank-less c.cell.source) (rank-less d.cell.source) h),
  λ h. order-down c.satellite d.satellite (gps_code.place_of c.code) (gps_code.place_of d.code) (rank_of c.cell.source) (rank_of d.cell.source)
      (place-less c.code) (place-less d.code) (rank-less c.cell.source) (rank-less d.cell.source) (rw (key-of-gps c, key-of-gps d) at h),
)

-- ---- how many: each satellite has 16 places of codes, so the keys have as many numbers as cells are allowed

dense : Entries SignalEntry AnySatelliteCode
dense = record {
  place = λ c. signal_place c.satellite c.code;
  signal = λ c. record { satellite = c.satellite; code = c.code };
  cell = λ c. c.cell;
  doppler = λ c. c.doppler_millihertz;
}

abbrev IsUpTo : ℕ → SignalEntry → Type 0
IsUpTo greatest c = IsSignal c.satellite c.code × (c.satellite ≤ greatest)

dense-less : (a b : SignalEntry) → IsSignal a.satellite a.code → IsSignal b.satellite b.code → key signals a < key signals b → key dense a < key dense b
unfolding dense key key_at
dense-less a b h g less = elim (cases_order a.satellite b.satellite) [
  | inl same ↦
      let before : codes_before (system_of a.code) ≡ codes_before (system_of b.code) = ap codes_before (h.1 ∙ ap system_at same ∙ sym g.1) in
      omega (arith, less, same, before)
  | inr other ↦ elim other [
    | inl under ↦ omega (arith, under, h.0.0, place_below a.code, rank-less a.cell.source)
    | inr over ↦ absurd (omega (arith, over, less, number_below b.code, rank-less b.cell.source))
  ]
]

dense-rise : (g : ℕ) (xs : List SignalEntry) → AllByRecursion (IsUpTo g) xs → KeysRise signals xs → KeysRise dense xs
dense-rise g [] h r = tt
dense-rise g (x ∷ []) h r = (tt, tt)
dense-rise g (x ∷ y ∷ ys) h r = (dense-less x y h.0.0 h.1.0.0 r.0, dense-rise g (y ∷ ys) h.1 r.1)

dense-below : (g : ℕ) (c : SignalEntry) → IsUpTo g c → key dense c < 32 * g
unfolding dense key key_at
dense-below g c h = omega (arith, h.0.0.0, h.1, place_below c.code, rank-less c.cell.source)

dense-all : (g : ℕ) (xs : List SignalEntry) → AllByRecursion (IsUpTo g) xs → AllByRecursion (λ (c : SignalEntry). key dense c < 32 * g) xs
dense-all g [] h = tt
dense-all g (x ∷ xs) h = (dense-below g x h.0, dense-all g xs h.1)

dense-from : (xs : List SignalEntry) → From dense 0 xs
dense-from [] = tt
dense-from (x ∷ xs) = omega arith

pub signals-few : (g : ℕ) (xs : List SignalEntry) → KeysRise signals xs → AllByRecursion (IsUpTo g) xs → length xs ≤ 32 * g
signals-few g xs r h =
    let f : length xs + 0 ≤ 32 * g = keys-fit dense 0 (32 * g) xs (omega arith) (dense-rise g xs h r) (dense-from xs) (dense-all g xs h) in
    omega (arith, f)

range-up-to : (xs : List SignalEntry) → AllByRecursion IsSignalInRange xs → AllByRecursion (IsUpTo 221) xs
range-up-to [] h = tt
range-up-to (x ∷ xs) h = ((h.0.signal, h.0.signal.0.1), range-up-to xs h.1)

pub in-range-few : (xs : List SignalEntry) → KeysRise signals xs → All IsSignalInRange xs → length xs ≤ 7072
in-range-few xs r h = omega (arith, signals-few 221 xs r (range-up-to xs (recursion_from_All IsSignalInRange xs h)))

-- ---- the entries of a message, with those of SBAS in a 1004 or without them

abbrev IsOfOwnSystem : SignalEntry → Type 0
IsOfOwnSystem e = IsSignal e.satellite e.code

plain-own : (sbas : Bool) (channels : List (Option ℤ)) (m : Message) → All IsOfOwnSystem (plain_entries_by sbas channels m)
plain-own true channels m = sbas-own channels m
plain-own false channels m = entries_of-own channels m

plain-range : (sbas : Bool) (channels : List (Option ℤ)) (m : Message) → IsValid m → All IsSignalInRange (plain_entries_by sbas channels m)
plain-range true channels m valid = sbas-range channels m valid
plain-range false channels m valid = entries_of-in_range channels m valid

plain-differ : (sbas : Bool) (channels : List (Option ℤ)) (m : Message) → IsValid m → AllPairs AreDifferentEntries (plain_entries_by sbas channels m)
plain-differ true channels m valid = sbas-differ channels m valid
plain-differ false channels m valid = entries_of-differ channels m valid

plain-kind : (sbas : Bool) (channels : List (Option ℤ)) (m : Message) → EntriesAreOfOneKind (plain_entries_by sbas channels m)
plain-kind true channels m = sbas-kind channels m
plain-kind false channels m = entries_of-kind channels m

entries_by-own : (sbas doppler : Bool) (channels : List (Option ℤ)) (m : Message) → All IsOfOwnSystem (entries_by sbas doppler channels m)
entries_by-own sbas true channels m = doppler-own (plain_entries_by sbas channels) channels m (plain-own sbas channels m)
entries_by-own sbas false channels m = plain-own sbas channels m

pub entries_by-range : (sbas doppler : Bool) (channels : List (Option ℤ)) (m : Message) → IsValid m → All IsSignalInRange (entries_by sbas doppler channels m)
entries_by-range sbas true channels m valid = doppler-range (plain_entries_by sbas channels) channels m valid (plain-range sbas channels m valid)
entries_by-range sbas false channels m valid = plain-range sbas channels m valid

entries_by-differ : (sbas doppler : Bool) (channels : List (Option ℤ)) (m : Message) → IsValid m → AllPairs AreDifferentEntries (entries_by sbas doppler channels m)
entries_by-differ sbas true channels m valid = doppler-differ (plain_entries_by sbas channels) channels m valid (plain-differ sbas channels m valid)
entries_by-differ sbas false channels m valid = plain-differ sbas channels m valid

pub entries_by-kind : (sbas doppler : Bool) (channels : List (Option ℤ)) (m : Message) → EntriesAreOfOneKind (entries_by sbas doppler channels m)
entries_by-kind sbas true channels m = doppler-kind (plain_entries_by sbas channels) channels m (plain-kind sbas channels m)
entries_by-kind sbas false channels m = plain-kind sbas channels m

-- an MSM that is no 1074, and a 1012, have no satellite of SBAS beside their own
pub entries_by-msm : (sbas : Bool) (channels : List (Option ℤ)) (m : Msm) → entries_by sbas false channels (any.Msm m) ≡ entries_of channels (any.Msm m)
entries_by-msm true channels m = refl
entries_by-msm false channels m = refl

pub entries_by-1012 : (sbas doppler : Bool) (channels : List (Option ℤ)) (m : Obs1012) → entries_by sbas doppler channels (any.Obs1012 m) ≡ entries_of channels (any.Obs1012 m)
entries_by-1012 true true channels m = refl
entries_by-1012 true false channels m = refl
entries_by-1012 false true channels m = refl
entries_by-1012 false false channels m = refl

-- the four types have no Doppler shifts
pub entries_by-four : (sbas doppler : Bool) (channels : List (Option ℤ)) (m : FourMessage) → entries_by sbas doppler channels (any.Message m) ≡ plain_entries_by sbas channels (any.Message m)
entries_by-four sbas true channels m = refl
entries_by-four sbas false channels m = refl

-- ---- how many cells an epoch has

up-to-all : (sbas doppler : Bool) (channels : List (Option ℤ)) (m : Message) → All (IsUpTo 221) (entries_by sbas doppler channels m)
up-to-all sbas doppler channels m = λ k d inside. (entries_by-own sbas doppler channels m k d inside, (entries_by-own sbas doppler channels m k d inside).0.1)

pub signals-are-few : (sbas doppler : Bool) (channels : List (Option ℤ)) → KeptAreFew 7072 signals (entries_by sbas doppler channels)
signals-are-few sbas doppler channels n arrivals =
    kept-few signals (IsUpTo 221) (entries_by sbas doppler channels) 7072 (λ cells r h. omega (arith, signals-few 221 cells r h)) n arrivals
    (of-arrivals (entries_by sbas doppler channels) (IsUpTo 221) (up-to-all sbas doppler channels) arrivals)

both : (g : ℕ) (xs : List SignalEntry) → AllByRecursion (λ (c : SignalEntry). IsSignal c.satellite c.code) xs → AllByRecursion (λ (c : SignalEntry). c.satellite ≤ g) xs → AllByRecursion (IsUpTo g) xs
both g [] a b = tt
both g (x ∷ xs) a b = ((a.0, b.0), both g xs a.1 b.1)

up-to-arrivals : (sbas doppler : Bool) (channels : List (Option ℤ)) (g : ℕ) (arrivals : List Arrival)
    → AllByRecursion (λ (a : Arrival). All (λ (c : SignalEntry). c.satellite ≤ g) (entries_by sbas doppler channels (message_of a))) arrivals → AreOfArrivals (entries_by sbas doppler channels) (IsUpTo g) arrivals
up-to-arrivals sbas doppler channels g [] h = tt
up-to-arrivals sbas doppler channels g (a ∷ before) h = (
  both g (entries_by sbas doppler channels (message_of a))
      (recursion_from_All (λ (c : SignalEntry). IsSignal c.satellite c.code) (entries_by sbas doppler channels (message_of a)) (entries_by-own sbas doppler channels (message_of a)))
      (recursion_from_All (λ (c : SignalEntry). c.satellite ≤ g) (entries_by sbas doppler channels (message_of a)) h.0),
  up-to-arrivals sbas doppler channels g before h.1,
)

pub epochs-are-of-satellites : EpochsAreOfSatellites
epochs-are-of-satellites sbas doppler channels g n arrivals h =
    kept-few signals (IsUpTo g) (entries_by sbas doppler channels) (32 * g) (signals-few g) n arrivals
    (up-to-arrivals sbas doppler channels g arrivals (recursion_from_All (λ (a : Arrival). All (λ (c : SignalEntry). c.satellite ≤ g) (entries_by sbas doppler channels (message_of a))) arrivals h))

-- ---- conflicts

keys-differ : (a b : SignalEntry) → AreDifferentEntries a b → HasOtherKey signals a b
keys-differ a b h k = let p = (signal-keys-are-distinct a b).0 k in h p.0 p.1

pairs-differ : (xs : List SignalEntry) → AllPairs AreDifferentEntries xs → KeysDiffer signals xs
pairs-differ [] h = tt
pairs-differ (x ∷ xs) h = (
  recursion_from_All (HasOtherKey signals x) xs (λ j d l. keys-differ x (get_or xs j d) (h 0 (suc j) d (omega arith) (omega arith))),
  pairs-differ xs (λ i j d before inside. h (suc i) (suc j) d (omega arith) (omega arith)),
)

pub signals-open : (sbas doppler : Bool) (channels : List (Option ℤ)) → OpeningConflictsNot signals (entries_by sbas doppler channels)
signals-open sbas doppler channels m valid = differ-none signals (entries_by sbas doppler channels m) (pairs-differ (entries_by sbas doppler channels m) (entries_by-differ sbas doppler channels m valid))

pub signals-close : (sbas doppler : Bool) (channels : List (Option ℤ)) → ClosingConflictsNot signals (entries_by sbas doppler channels)
signals-close sbas doppler channels = closing-none signals (entries_by sbas doppler channels) (signals-open sbas doppler channels)

-- ---- the satellites of a first 1004

abbrev pub HasSatellite : CellEntry → Type 0
HasSatellite e = IsSatellite e.satellite

-- the cells of satellites are those of a 1004
pub legacy-satellites : (ss : List Satellite) → All HasSatellite (cells_of_1004 ss)
legacy-satellites ss = cells_of-satellites (any.Message (Obs1004 (record { station = 0; tow = 0; synchronous = false; smoothing = false; smoothing_interval = 0; satellites = ss })))

-- The cells of an MSM of another system than GPS rise by satellite and code: its satellites and signals rise, and the codes of
-- the signals do.
use Rattle.std.proofs.Common.{◌≡◌, ◌≢◌, ◌∙◌, ◌⊎◌, ◌+◌, ◌-◌, ◌^◌, ◌<◌, ◌≤◌, ℕ, zero, suc, ℤ, Bool, true, false, cond, nat_eq, ltb, [], ◌∷◌, ◌++◌, List, length, map, get_or, Option, Some, None, inl, inr, refl, sym, ap, subst, arith}
use Rattle.std.specs.Prelude.{IfSome, nat_le, if◌then◌else◌}
use Rattle.std.specs.List.{AllByRecursion, AllPairs}
use Rattle.std.proofs.lemmas.Bool.{and_parts, cases_lt, eqb-true, lt-ltb, ltb-true}
use Rattle.std.proofs.lemmas.Bool.Decides.{nat_tests}
use Rattle.std.proofs.lemmas.List.{get_or_past}
use Rattle.std.proofs.lemmas.List.Elements.{All-from_recursion}
use Rattle.std.proofs.lemmas.List.Kept.{AllPairs-cons}
use Rattle.rtk_message.specs.declared.any_message.AnyMessage.TheVariants as any
use Rattle.rtk_message.specs.declared.msm.Msm.{Msm}
use Rattle.rtk_message.specs.declared.system.System.{System}
use Rattle.rtk_message.specs.declared.system.System.TheVariants.{Gps, Glonass, Galileo, Beidou, Qzss, Sbas, Navic}
use Rattle.rtk_obs.specs.declared.any_code.AnyCode.{AnyCode}
use Rattle.rtk_obs.specs.declared.any_code.AnyCode.TheVariants.{R1C, R1P, R2C, R2P, E1C, E1B, E1X, E6C, E6B, E6X, E7I, E7Q, E7X, E8I, E8Q, E8X, E5I, E5Q, E5X, C2I, C2Q, C2X, C6I, C6Q, C6X, C7I, C7Q, C7X, C5D, C5P, C5X, C7D, C1D, C1P, C1X, J1C, J6S, J6L, J6X, J2S, J2L, J2X, J5I, J5Q, J5X, J1S, J1L, J1X, S1C, S5I, S5Q, S5X, I5A}
use Rattle.rtk_obs.specs.declared.signal_cells.SignalEntry.{SignalEntry}
use Rattle.rtk_obs.specs.AnyCode.{codes_before, number_of}
use Rattle.rtk_obs.specs.Doppler.{doppler_entry_if, doppler_entry}
use Rattle.rtk_obs.specs.Mask.{set_bits_from, set_bits, join_from}
use Rattle.rtk_obs.specs.MsmCells.{Slot, satellites_of, signals_of, row_slots, slots_of}
use Rattle.rtk_obs.specs.SatelliteIndex.{index_in, is_taken, satellites_before, satellites_of_system}
use Rattle.rtk_obs.specs.SignalCells.{channel_in, bit_of_row, field_of_row, entry_if, signal_entry}
use Rattle.rtk_obs.specs.Signals.{glonass_code, galileo_code, beidou_code, qzss_code, sbas_code, navic_code, code_in}
use Rattle.rtk_obs.proofs.PublicLaws.{number_below}
use Rattle.rtk_collect.specs.Key.{key, key_at, Above, KeysRise}
use Rattle.rtk_collect.specs.Signals.{signals, entries_by}
use Rattle.rtk_collect.proofs.EqualityLemmas.{rank-less}

-- ---- each element and each later one

all-from : {X : Type 0} (P Q : X → Type 0) → ((x : X) → P x → Q x) → (xs : List X) → AllByRecursion P xs → AllByRecursion Q xs
all-from P Q f [] a = tt
all-from P Q f (x ∷ xs) a = (f x a.0, all-from P Q f xs a.1)

all-append : {X : Type 0} (P : X → Type 0) (xs ys : List X) → AllByRecursion P xs → AllByRecursion P ys → AllByRecursion P (xs ++ ys)
all-append P [] ys a b = b
all-append P (x ∷ xs) ys a b = (a.0, all-append P xs ys a.1 b)

-- R holds of each element and each later one
abbrev EachPair : {X : Type 0} → (X → X → Type 0) → List X → Type 0
EachPair R [] = Unit {0}
EachPair R (x ∷ xs) = AllByRecursion (R x) xs × EachPair R xs

all-pairs : {X : Type 0} (R : X → X → Type 0) (xs : List X) → EachPair R xs → AllPairs R xs
all-pairs R [] p = λ i j d before inside. absurd (omega (arith, before, inside))
all-pairs R (x ∷ xs) p = AllPairs-cons R x xs (All-from_recursion (R x) xs p.0) (all-pairs R xs p.1)

pairs-joined : {X : Type 0} (R : X → X → Type 0) (xs ys : List X) → EachPair R xs → EachPair R ys → AllByRecursion (λ x. AllByRecursion (R x) ys) xs → EachPair R (xs ++ ys)
pairs-joined R [] ys p q a = q
pairs-joined R (x ∷ xs) ys p q a = (all-append (R x) xs ys p.0 a.0, pairs-joined R xs ys p.1 q a.1)

-- ---- the places of set bits rise

abbrev IsLess : ℕ → ℕ → Type 0
IsLess a b = a < b

-- places from one on, among so many
abbrev IsAmong : ℕ → ℕ → ℕ → Type 0
IsAmong place w p = (place ≤ p) × (p < place + w)

among-more : (place w : ℕ) (ps : List ℕ) → AllByRecursion (IsAmong (suc place) w) ps → AllByRecursion (IsAmong place (suc w)) ps
among-more place w ps a = all-from (IsAmong (suc place) w) (IsAmong place (suc w)) (λ p h. (omega (arith, h.0), omega (arith, h.1))) ps a

among-if : (b : Bool) (place w : ℕ) (more rest : List ℕ) → AllByRecursion (IsAmong (suc place) w) more → AllByRecursion (IsAmong (suc place) w) rest → AllByRecursion (IsAmong place (suc w)) (cond b (place ∷ more) rest)
among-if true place w more rest a b = ((omega arith, omega arith), among-more place w more a)
among-if false place w more rest a b = among-more place w rest b

bits-among : (place w mask : ℕ) → AllByRecursion (IsAmong place w) (set_bits_from place w mask)
unfolding set_bits_from
bits-among place zero mask = tt
bits-among place (suc w) mask =
    among-if (nat_le (2 ^ w) mask) place w (set_bits_from (suc place) w (mask - 2 ^ w)) (set_bits_from (suc place) w mask)
    (bits-among (suc place) w (mask - 2 ^ w)) (bits-among (suc place) w mask)

rising-if : (b : Bool) (place : ℕ) (more rest : List ℕ) → AllByRecursion (IsLess place) more → EachPair IsLess more → EachPair IsLess rest → EachPair IsLess (cond b (place ∷ more) rest)
rising-if true place more rest a p q = (a, p)
rising-if false place more rest a p q = q

bits-rise : (place w mask : ℕ) → EachPair IsLess (set_bits_from place w mask)
unfolding set_bits_from
bits-rise place zero mask = tt
bits-rise place (suc w) mask =
    rising-if (nat_le (2 ^ w) mask) place (set_bits_from (suc place) w (mask - 2 ^ w)) (set_bits_from (suc place) w mask)
    (all-from (IsAmong (suc place) w) (IsLess place) (λ p h. omega (arith, h.0)) (set_bits_from (suc place) w (mask - 2 ^ w)) (bits-among (suc place) w (mask - 2 ^ w)))
    (bits-rise (suc place) w (mask - 2 ^ w)) (bits-rise (suc place) w mask)

-- an element stands below a later one
less-at : (xs : List ℕ) → EachPair IsLess xs → (i j : ℕ) → i < j → j < length xs → get_or xs i 0 < get_or xs j 0
less-at xs p i j before inside = all-pairs IsLess xs p i j 0 before inside

-- ---- the slots of the cells of a message rise

-- of an earlier row, or of the same one and a lesser signal
abbrev IsSlotBefore : Slot → Slot → Type 0
IsSlotBefore s t = (s.row < t.row) ⊎ ((s.row ≡ t.row) × (s.signal < t.signal))

module _ (signals : List ℕ) (rise : EachPair IsLess signals) where
  abbrev slot-at : ℕ → ℕ → Slot
  slot-at row p = record { row = row; signal = get_or signals (p - 1) 0 }

  row-below : (row p : ℕ) (ps : List ℕ) → 1 ≤ p → AllByRecursion (IsLess p) ps → AllByRecursion (IsAmong 1 (length signals)) ps → AllByRecursion (IsSlotBefore (slot-at row p)) (map (slot-at row) ps)
  row-below row p [] one a b = tt
  row-below row p (q ∷ ps) one a b = (inr (refl, less-at signals rise (p - 1) (q - 1) (omega (arith, one, a.0)) (omega (arith, one, a.0, b.0.1))), row-below row p ps one a.1 b.1)

  row-rises : (row : ℕ) (ps : List ℕ) → EachPair IsLess ps → AllByRecursion (IsAmong 1 (length signals)) ps → EachPair IsSlotBefore (map (slot-at row) ps)
  row-rises row [] p b = tt
  row-rises row (q ∷ ps) p b = (row-below row q ps b.0.0 p.0 b.1, row-rises row ps p.1 b.1)

  row-of : (row k : ℕ) (ps : List ℕ) → k ≤ row → AllByRecursion (λ s. k ≤ s.row) (map (slot-at row) ps)
  row-of row k [] low = tt
  row-of row k (p ∷ ps) low = (low, row-of row k ps low)

  rows-from : (k : ℕ) (masks : List ℕ) → AllByRecursion (λ s. k ≤ s.row) (join_from (row_slots signals) k masks)
  unfolding join_from
  rows-from k [] = tt
  rows-from k (b ∷ bs) =
      all-append (λ (s : Slot). k ≤ s.row) (row_slots signals k b) (join_from (row_slots signals) (suc k) bs)
      (row-of k k (set_bits (length signals) b) (omega arith))
      (all-from (λ (s : Slot). suc k ≤ s.row) (λ (s : Slot). k ≤ s.row) (λ s h. omega (arith, h)) (join_from (row_slots signals) (suc k) bs) (rows-from (suc k) bs))

  across : (k : ℕ) (later : List Slot) (ps : List ℕ) → AllByRecursion (λ s. suc k ≤ s.row) later → AllByRecursion (λ s. AllByRecursion (IsSlotBefore s) later) (map (slot-at k) ps)
  across k later [] a = tt
  across k later (p ∷ ps) a = (all-from (λ (s : Slot). suc k ≤ s.row) (IsSlotBefore (slot-at k p)) (λ s h. inl (omega (arith, h))) later a, across k later ps a)

  slots-rise : (k : ℕ) (masks : List ℕ) → EachPair IsSlotBefore (join_from (row_slots signals) k masks)
  unfolding join_from
  slots-rise k [] = tt
  slots-rise k (b ∷ bs) =
      pairs-joined IsSlotBefore (row_slots signals k b) (join_from (row_slots signals) (suc k) bs)
      (row-rises k (set_bits (length signals) b) (bits-rise 1 (length signals) b) (bits-among 1 (length signals) b))
      (slots-rise (suc k) bs)
      (across k (join_from (row_slots signals) (suc k) bs) (set_bits (length signals) b) (rows-from (suc k) bs))

-- ---- the codes of signals rise

-- how many of these signals are below this one
abbrev count-below : List ℕ → ℕ → ℕ
count-below [] n = 0
count-below (k ∷ ks) n = cond (ltb k n) 1 0 + count-below ks n

count-if : (a b : Bool) → (a ≡ true → b ≡ true) → cond a 1 0 ≤ cond b 1 0
count-if true true h = omega arith
count-if true false h = let e : false ≡ true = h refl in absurd cc
count-if false true h = omega arith
count-if false false h = omega arith

count-grows : (ks : List ℕ) (n m : ℕ) → n ≤ m → count-below ks n ≤ count-below ks m
count-grows [] n m h = omega arith
count-grows (k ∷ ks) n m h =
    let first = count-if (ltb k n) (ltb k m) (λ t. lt-ltb k m (omega (arith, ltb-true k n t, h))) in
    omega (arith, first, count-grows ks n m h)

-- a code has the number that its signal has among those of its system, after so many others
abbrev IsNumbered : List ℕ → ℕ → ℕ → AnyCode → Type 0
IsNumbered ks before n c = (number_of c ≡ before + count-below ks n) × (before + count-below ks (suc n) ≡ number_of c + 1)

first-if : (P : ℕ → AnyCode → Type 0) (b : Bool) (n k : ℕ) (c : AnyCode) (others : Option AnyCode) → nat_eq n k ≡ b → P k c → IfSome others (P n) → IfSome (cond b (Some c) others) (P n)
first-if P true n k c others e is rest = subst (λ (i : ℕ). P i c) (sym (eqb-true n k e)) is
first-if P false n k c others e is rest = rest

-- the first code is numbered, if it is that of the signal, and so are the others
first : (P : ℕ → AnyCode → Type 0) (n k : ℕ) (c : AnyCode) (others : Option AnyCode) → P k c → IfSome others (P n) → IfSome (cond (nat_eq n k) (Some c) others) (P n)
first P n k c others is rest = first-if P (nat_eq n k) n k c others refl is rest

-- the signals of a system that have a code; of GPS none are looked at
abbrev coded : System → List ℕ
coded Gps = []
coded Glonass = 2 ∷ 3 ∷ 8 ∷ 9 ∷ []
coded Galileo = 2 ∷ 4 ∷ 5 ∷ 8 ∷ 10 ∷ 11 ∷ 14 ∷ 15 ∷ 16 ∷ 18 ∷ 19 ∷ 20 ∷ 22 ∷ 23 ∷ 24 ∷ []
coded Beidou = 2 ∷ 3 ∷ 4 ∷ 8 ∷ 9 ∷ 10 ∷ 14 ∷ 15 ∷ 16 ∷ 22 ∷ 23 ∷ 24 ∷ 25 ∷ 30 ∷ 31 ∷ 32 ∷ []
coded Qzss = 2 ∷ 9 ∷ 10 ∷ 11 ∷ 15 ∷ 16 ∷ 17 ∷ 22 ∷ 23 ∷ 24 ∷ 30 ∷ 31 ∷ 32 ∷ []
coded Sbas = 2 ∷ 22 ∷ 23 ∷ 24 ∷ []
coded Navic = 22 ∷ []

glonass-numbered : (n : ℕ) → IfSome (glonass_code n) (IsNumbered (coded Glonass) (codes_before Glonass) n)
glonass-numbered n =
    let P = IsNumbered (coded Glonass) (codes_before Glonass) in
    first P n 2 R1C _ (refl, refl) (
    first P n 3 R1P _ (refl, refl) (
    first P n 8 R2C _ (refl, refl) (
    first P n 9 R2P _ (refl, refl) (tt))))

galileo-numbered : (n : ℕ) → IfSome (galileo_code n) (IsNumbered (coded Galileo) (codes_before Galileo) n)
galileo-numbered n =
    let P = IsNumbered (coded Galileo) (codes_before Galileo) in
    first P n 2 E1C _ (refl, refl) (
    first P n 4 E1B _ (refl, refl) (
    first P n 5 E1X _ (refl, refl) (
    first P n 8 E6C _ (refl, refl) (
    first P n 10 E6B _ (refl, refl) (
    first P n 11 E6X _ (refl, refl) (
    first P n 14 E7I _ (refl, refl) (
    first P n 15 E7Q _ (refl, refl) (
    first P n 16 E7X _ (refl, refl) (
    first P n 18 E8I _ (refl, refl) (
    first P n 19 E8Q _ (refl, refl) (
    first P n 20 E8X _ (refl, refl) (
    first P n 22 E5I _ (refl, refl) (
    first P n 23 E5Q _ (refl, refl) (
    first P n 24 E5X _ (refl, refl) (tt)))))))))))))))

beidou-numbered : (n : ℕ) → IfSome (beidou_code n) (IsNumbered (coded Beidou) (codes_before Beidou) n)
beidou-numbered n =
    let P = IsNumbered (coded Beidou) (codes_before Beidou) in
    first P n 2 C2I _ (refl, refl) (
    first P n 3 C2Q _ (refl, refl) (
    first P n 4 C2X _ (refl, refl) (
    first P n 8 C6I _ (refl, refl) (
    first P n 9 C6Q _ (refl, refl) (
    first P n 10 C6X _ (refl, refl) (
    first P n 14 C7I _ (refl, refl) (
    first P n 15 C7Q _ (refl, refl) (
    first P n 16 C7X _ (refl, refl) (
    first P n 22 C5D _ (refl, refl) (
    first P n 23 C5P _ (refl, refl) (
    first P n 24 C5X _ (refl, refl) (
    first P n 25 C7D _ (refl, refl) (
    first P n 30 C1D _ (refl, refl) (
    first P n 31 C1P _ (refl, refl) (
    first P n 32 C1X _ (refl, refl) (tt))))))))))))))))

qzss-numbered : (n : ℕ) → IfSome (qzss_code n) (IsNumbered (coded Qzss) (codes_before Qzss) n)
qzss-numbered n =
    let P = IsNumbered (coded Qzss) (codes_before Qzss) in
    first P n 2 J1C _ (refl, refl) (
    first P n 9 J6S _ (refl, refl) (
    first P n 10 J6L _ (refl, refl) (
    first P n 11 J6X _ (refl, refl) (
    first P n 15 J2S _ (refl, refl) (
    first P n 16 J2L _ (refl, refl) (
    first P n 17 J2X _ (refl, refl) (
    first P n 22 J5I _ (refl, refl) (
    first P n 23 J5Q _ (refl, refl) (
    first P n 24 J5X _ (refl, refl) (
    first P n 30 J1S _ (refl, refl) (
    first P n 31 J1L _ (refl, refl) (
    first P n 32 J1X _ (refl, refl) (tt)))))))))))))

sbas-numbered : (n : ℕ) → IfSome (sbas_code n) (IsNumbered (coded Sbas) (codes_before Sbas) n)
sbas-numbered n =
    let P = IsNumbered (coded Sbas) (codes_before Sbas) in
    first P n 2 S1C _ (refl, refl) (
    first P n 22 S5I _ (refl, refl) (
    first P n 23 S5Q _ (refl, refl) (
    first P n 24 S5X _ (refl, refl) (tt))))

navic-numbered : (n : ℕ) → IfSome (navic_code n) (IsNumbered (coded Navic) (codes_before Navic) n)
navic-numbered n =
    let P = IsNumbered (coded Navic) (codes_before Navic) in
    first P n 22 I5A _ (refl, refl) (tt)

numbered : (s : System) → s ≢ Gps → (n : ℕ) → IfSome (code_in s n) (IsNumbered (coded s) (codes_before s) n)
numbered Gps ne n = absurd (ne refl)
numbered Glonass ne n = glonass-numbered n
numbered Galileo ne n = galileo-numbered n
numbered Beidou ne n = beidou-numbered n
numbered Qzss ne n = qzss-numbered n
numbered Sbas ne n = sbas-numbered n
numbered Navic ne n = navic-numbered n

is-of : (P : AnyCode → Type 0) (o : Option AnyCode) (c : AnyCode) → IfSome o P → o ≡ Some c → P c
is-of P None c a e = absurd cc
is-of P (Some d) c a e = let same : d ≡ c = cc in subst P same a

numbers-rise : (s : System) → s ≢ Gps → (n m : ℕ) (c d : AnyCode) → code_in s n ≡ Some c → code_in s m ≡ Some d → n < m → number_of c < number_of d
numbers-rise s ne n m c d e f less =
    let p = is-of (IsNumbered (coded s) (codes_before s) n) (code_in s n) c (numbered s ne n) e in
    let q = is-of (IsNumbered (coded s) (codes_before s) m) (code_in s m) d (numbered s ne m) f in
    omega (arith, p.1, q.0, count-grows (coded s) (suc n) m (omega (arith, less)))

-- ---- the satellites of mask bits rise

some-if : (b : Bool) (k i : ℕ) → (if b then Some k else None) ≡ Some i → (b ≡ true) × (k ≡ i)
some-if true k i e = (refl, cc)
some-if false k i e = absurd cc

le-of : (a b : ℕ) → nat_le a b ≡ true → a ≤ b
le-of a b h = grind (arith, nat_tests)

bit-of : (s : System) (bit i : ℕ) → index_in s bit ≡ Some i → (1 ≤ bit) × (satellites_before s + bit ≡ i)
bit-of s bit i e =
    let p = some-if (is_taken s bit) (satellites_before s + bit) i e in
    (le-of 1 bit (and_parts (nat_le 1 bit) (nat_le bit (satellites_of_system s)) p.0).0, p.1)

-- ---- the entries

abbrev IsKeyBefore : SignalEntry → SignalEntry → Type 0
IsKeyBefore a b = key signals a < key signals b

key-before : (a b : SignalEntry) → (a.satellite < b.satellite) ⊎ ((a.satellite ≡ b.satellite) × (number_of a.code < number_of b.code)) → IsKeyBefore a b
unfolding key key_at
key-before a b (inl less) = omega (arith, less, number_below a.code, rank-less a.cell.source)
key-before a b (inr (same, less)) = omega (arith, same, less, rank-less a.cell.source)

above-later : (x : SignalEntry) (xs : List SignalEntry) → AllByRecursion (IsKeyBefore x) xs → Above signals (key signals x) xs
above-later x [] a = tt
above-later x (y ∷ ys) a = a.0

keys-of-pairs : (xs : List SignalEntry) → EachPair IsKeyBefore xs → KeysRise signals xs
keys-of-pairs [] p = tt
keys-of-pairs (x ∷ xs) p = (above-later x xs p.0, keys-of-pairs xs p.1)

module _ (m : Msm) where
  abbrev IsOfSlot : Slot → SignalEntry → Type 0
  IsOfSlot s e = (index_in m.system (bit_of_row m s.row) ≡ Some e.satellite) × (code_in m.system s.signal ≡ Some e.code)

  -- a bit that a satellite has stands in the mask
  row-inside : (row : ℕ) → 1 ≤ bit_of_row m row → row < length (satellites_of m.header)
  row-inside row h = elim (cases_lt row (length (satellites_of m.header))) [
    | inl less ↦ less
    | inr past ↦ absurd (omega (arith, h, get_or_past (satellites_of m.header) row 0 past))
  ]

  before : m.system ≢ Gps → (s t : Slot) (a b : SignalEntry) → IsSlotBefore s t → IsOfSlot s a → IsOfSlot t b → IsKeyBefore a b
  before ne s t a b order p q =
      let x = bit-of m.system (bit_of_row m s.row) a.satellite p.0 in
      let y = bit-of m.system (bit_of_row m t.row) b.satellite q.0 in
      elim order [
        | inl less ↦
            let bits : bit_of_row m s.row < bit_of_row m t.row = less-at (satellites_of m.header) (bits-rise 1 64 m.header.satellite_mask) s.row t.row less (row-inside t.row y.0) in
            key-before a b (inl (omega (arith, bits, x.1, y.1)))
        | inr more ↦
            let same : a.satellite ≡ b.satellite = omega (arith, x.1, y.1, ap (bit_of_row m) more.0) in
            key-before a b (inr (same, numbers-rise m.system ne s.signal t.signal a.code b.code p.1 q.1 more.1))
      ]

  module _ (ne : m.system ≢ Gps) (entry : ℕ → Slot → List SignalEntry) (of-slot : (k : ℕ) (s : Slot) → AllByRecursion (IsOfSlot s) (entry k s)) (one : (k : ℕ) (s : Slot) → EachPair IsKeyBefore (entry k s)) where
    after : (s : Slot) (a : SignalEntry) → IsOfSlot s a → (k : ℕ) (ts : List Slot) → AllByRecursion (IsSlotBefore s) ts → AllByRecursion (IsKeyBefore a) (join_from entry k ts)
    unfolding join_from
    after s a is k [] o = tt
    after s a is k (t ∷ ts) o =
        all-append (IsKeyBefore a) (entry k t) (join_from entry (suc k) ts)
        (all-from (IsOfSlot t) (IsKeyBefore a) (λ b q. before ne s t a b o.0 is q) (entry k t) (of-slot k t))
        (after s a is (suc k) ts o.1)

    of-slots : (k : ℕ) (ss : List Slot) → EachPair IsSlotBefore ss → EachPair IsKeyBefore (join_from entry k ss)
    unfolding join_from
    of-slots k [] p = tt
    of-slots k (s ∷ ss) p =
        pairs-joined IsKeyBefore (entry k s) (join_from entry (suc k) ss) (one k s) (of-slots (suc k) ss p.1)
        (all-from (IsOfSlot s) (λ (a : SignalEntry). AllByRecursion (IsKeyBefore a) (join_from entry (suc k) ss)) (λ a is. after s a is (suc k) ss p.0) (entry k s) (of-slot k s))

    joined-rise : KeysRise signals (join_from entry 0 (slots_of m.header m.cell_mask))
    joined-rise =
        keys-of-pairs (join_from entry 0 (slots_of m.header m.cell_mask))
        (of-slots 0 (slots_of m.header m.cell_mask) (slots-rise (signals_of m.header) (bits-rise 1 32 m.header.signal_mask) 0 m.cell_mask))

module _ (channels : List (Option ℤ)) (m : Msm) where
  -- without Doppler shifts
  plain-of : (k : ℕ) (s : Slot) (channel : Option ℤ) (o : Option ℕ) (c : Option AnyCode) → index_in m.system (bit_of_row m s.row) ≡ o → code_in m.system s.signal ≡ c
      → AllByRecursion (IsOfSlot m s) (entry_if m k s.row channel o c)
  plain-of k s channel None c e f = tt
  plain-of k s channel (Some i) None e f = tt
  plain-of k s channel (Some i) (Some c) e f = ((e, f), tt)

  plain-one : (k row : ℕ) (channel : Option ℤ) (o : Option ℕ) (c : Option AnyCode) → EachPair IsKeyBefore (entry_if m k row channel o c)
  plain-one k row channel None c = tt
  plain-one k row channel (Some i) None = tt
  plain-one k row channel (Some i) (Some c) = (tt, tt)

  plain-rise : m.system ≢ Gps → KeysRise signals (join_from (signal_entry channels m) 0 (slots_of m.header m.cell_mask))
  plain-rise ne =
      joined-rise m ne (signal_entry channels m)
      (λ k s. plain-of k s (channel_in m.system channels (bit_of_row m s.row) (field_of_row m s.row)) (index_in m.system (bit_of_row m s.row)) (code_in m.system s.signal) refl refl)
      (λ k s. plain-one k s.row (channel_in m.system channels (bit_of_row m s.row) (field_of_row m s.row)) (index_in m.system (bit_of_row m s.row)) (code_in m.system s.signal))

  -- with them
  shifted-of : (k : ℕ) (s : Slot) (channel : Option ℤ) (o : Option ℕ) (c : Option AnyCode) → index_in m.system (bit_of_row m s.row) ≡ o → code_in m.system s.signal ≡ c
      → AllByRecursion (IsOfSlot m s) (doppler_entry_if m k s.row channel o c)
  shifted-of k s channel None c e f = tt
  shifted-of k s channel (Some i) None e f = tt
  shifted-of k s channel (Some i) (Some c) e f = ((e, f), tt)

  shifted-one : (k row : ℕ) (channel : Option ℤ) (o : Option ℕ) (c : Option AnyCode) → EachPair IsKeyBefore (doppler_entry_if m k row channel o c)
  shifted-one k row channel None c = tt
  shifted-one k row channel (Some i) None = tt
  shifted-one k row channel (Some i) (Some c) = (tt, tt)

  shifted-rise : m.system ≢ Gps → KeysRise signals (join_from (doppler_entry channels m) 0 (slots_of m.header m.cell_mask))
  shifted-rise ne =
      joined-rise m ne (doppler_entry channels m)
      (λ k s. shifted-of k s (channel_in m.system channels (bit_of_row m s.row) (field_of_row m s.row)) (index_in m.system (bit_of_row m s.row)) (code_in m.system s.signal) refl refl)
      (λ k s. shifted-one k s.row (channel_in m.system channels (bit_of_row m s.row) (field_of_row m s.row)) (index_in m.system (bit_of_row m s.row)) (code_in m.system s.signal))

-- ---- a message

pub msm-rises : (sbas doppler : Bool) (channels : List (Option ℤ)) (m : Msm) → m.system ≢ Gps → KeysRise signals (entries_by sbas doppler channels (any.Msm m))
msm-rises true true channels m ne = shifted-rise channels m ne
msm-rises false true channels m ne = shifted-rise channels m ne
msm-rises true false channels m ne = plain-rise channels m ne
msm-rises false false channels m ne = plain-rise channels m ne

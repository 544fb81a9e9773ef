-- No two cells of a message are of one satellite and code. They rise if the satellites of a 1004 do, and if
-- an MSM has no signal from 30 to 32.
use Rattle.std.proofs.Common.{◌≡◌, ◌≢◌, ℕ, zero, suc, ◌+◌, ◌-◌, ◌^◌, ◌<◌, ◌≤◌, [], ◌∷◌, List, length, take, ◌*◌, ◌/◌, ◌%◌, ◌⊎◌, inl, inr, min, get_or, map, Option, Some, None, refl, sym, ◌∙◌, ap, arith, nat_eq, true, false, Bool, not, cond}
use Rattle.std.specs.Prelude.{filter, nat_le}
use Rattle.std.specs.List.{flat_map, AllByRecursion, AllPairs}
use Rattle.std.proofs.lemmas.List.{take_more, take_all}
use Rattle.std.proofs.lemmas.Bool.Decides.{nat_tests}
use Rattle.rtk_message.specs.declared.obs1004.Satellite.{Satellite}
use Rattle.rtk_message.specs.declared.msm1074.MsmHeader.{MsmHeader}
use Rattle.rtk_message.specs.declared.msm1074.Msm1074.{Msm1074}
use Rattle.rtk_message.specs.declared.msm.Msm.{Msm}
use Rattle.rtk_message.specs.Msm1074.{IsValid}
use Rattle.rtk_message.specs.MsmForm.{IsValid as IsValidMsm}
use Rattle.rtk_obs.specs.declared.code.Band.{Band}
use Rattle.rtk_obs.specs.declared.code.Code.{Code}
use Rattle.rtk_obs.specs.declared.code.Code.TheVariants.{G1C, G1P, G1W, G1S, G1L, G1X, G2C, G2D, G2P, G2W, G2S, G2L, G2X, G5I, G5Q, G5X}
use Rattle.rtk_obs.specs.declared.cell.Cell.{Cell}
use Rattle.rtk_obs.specs.declared.cell.CellEntry.{CellEntry}
use Rattle.rtk_obs.specs.Code.{place_of}
use Rattle.rtk_obs.specs.Cell.{is_satellite, entry_of, AreDifferentSignals, AreDistinct, IsBefore, AreRising}
use Rattle.rtk_obs.specs.Mask.{set_bits_from, set_bits, join_from}
use Rattle.rtk_obs.specs.LegacyCells.{first_entries, has_number, satellite_entries, cells_of_1004, l1_code_of, l2_code_of, l1_cell_of, l2_cell_of}
use Rattle.rtk_obs.specs.MsmCells.{Slot, satellites_of, signals_of, row_slots, slots_of, coded_entry, slot_entry, msm_entries, code_of_signal, cell_of_1074, cells_of_1074, cell_of_msm, cells_of_msm}
use Rattle.rtk_obs.specs.Steps.MsmRows.{IsCellMask}
use Rattle.rtk_obs.proofs.PairsLemmas.{Pairs, all_append, all_filter, all_from, all_pairs, pairs-append, pairs_filter}
use Rattle.rtk_obs.proofs.MaskLemmas.{set_bits_from-bounds, set_bits_from-early}
use Rattle.rtk_obs.proofs.MsmLemmas.{satellite_in, count-satellites}
use Rattle.rtk_obs.proofs.MsmFieldLemmas.{is_cell_mask-1074, is_cell_mask-msm, below_at, gps_or_none}

-- ---- 1004

abbrev pub AreOthers : Satellite → Satellite → Type 0
AreOthers s t = s.satellite ≢ t.satellite

others_if : (b : Bool) (s t : Satellite) (rest : List Satellite) → nat_eq t.satellite s.satellite ≡ b → AllByRecursion (AreOthers s) rest → AllByRecursion (AreOthers s) (cond (not b) (t ∷ rest) rest)
others_if true s t rest e a = a
others_if false s t rest e a = (λ same. absurd (grind (arith, nat_tests, e, same)), a)

others : (s : Satellite) (ts : List Satellite) → AllByRecursion (AreOthers s) (filter (λ (t : Satellite). not (has_number s.satellite t)) ts)
others s [] = tt
others s (t ∷ ts) = others_if (nat_eq t.satellite s.satellite) s t (filter (λ (t : Satellite). not (has_number s.satellite t)) ts) refl (others s ts)

pub first_others : (ss : List Satellite) → Pairs AreOthers (first_entries ss)
unfolding first_entries
first_others [] = tt
first_others (s ∷ ss) = (others s (first_entries ss), pairs_filter AreOthers (λ (t : Satellite). not (has_number s.satellite t)) (first_entries ss) (first_others ss))

-- a code of L1 stands before place 2, one of L2 after place 5
l1_place : (b : Bool) → place_of (l1_code_of b) < 2
l1_place true = omega arith
l1_place false = omega arith

l2_place_if : (a b c : Bool) → 6 ≤ place_of (cond a G2X (cond b G2P (cond c G2D G2W)))
l2_place_if true b c = omega arith
l2_place_if false true c = omega arith
l2_place_if false false true = omega arith
l2_place_if false false false = omega arith

l2_place : (n : ℕ) → 6 ≤ place_of (l2_code_of n)
l2_place n = l2_place_if (nat_eq n 0) (nat_eq n 1) (nat_eq n 2)

pub two_codes : (b : Bool) (n : ℕ) → l1_code_of b ≢ l2_code_of n
two_codes b n same = absurd (omega (arith, l1_place b, l2_place n, ap place_of same))

away : (e : CellEntry) (ts : List Satellite) → AllByRecursion (λ t. e.satellite ≢ t.satellite) ts → AllByRecursion (AreDifferentSignals e) (flat_map satellite_entries ts)
away e [] a = tt
away e (t ∷ ts) a = (λ same. absurd (a.0 same), (λ same. absurd (a.0 same), away e ts a.1))

entries_differ : (ss : List Satellite) → Pairs AreOthers ss → Pairs AreDifferentSignals (flat_map satellite_entries ss)
entries_differ [] p = tt
entries_differ (s ∷ ss) p = (
  (λ same. two_codes s.l1_code s.l2_code, away (entry_of s.satellite (l1_code_of s.l1_code) (l1_cell_of s)) ss p.0),
  (away (entry_of s.satellite (l2_code_of s.l2_code) (l2_cell_of s)) ss p.0, entries_differ ss p.1),
)

pub cells_of_1004-distinct : (ss : List Satellite) → AreDistinct (cells_of_1004 ss)
cells_of_1004-distinct ss =
    all_pairs AreDifferentSignals (cells_of_1004 ss)
    (entries_differ (filter (λ (s : Satellite). is_satellite s.satellite) (first_entries ss)) (pairs_filter AreOthers (λ (s : Satellite). is_satellite s.satellite) (first_entries ss) (first_others ss)))

-- and they rise if the satellites of the message do
abbrev pub IsLess : Satellite → Satellite → Type 0
IsLess s t = s.satellite < t.satellite

pub all_first : (P : Satellite → Type 0) (ss : List Satellite) → AllByRecursion P ss → AllByRecursion P (first_entries ss)
unfolding first_entries
all_first P [] a = tt
all_first P (s ∷ ss) a = (a.0, all_filter P (λ (t : Satellite). not (has_number s.satellite t)) (first_entries ss) (all_first P ss a.1))

first_rise : (ss : List Satellite) → Pairs IsLess ss → Pairs IsLess (first_entries ss)
unfolding first_entries
first_rise [] p = tt
first_rise (s ∷ ss) p = (
  all_filter (IsLess s) (λ (t : Satellite). not (has_number s.satellite t)) (first_entries ss) (all_first (IsLess s) ss p.0),
  pairs_filter IsLess (λ (t : Satellite). not (has_number s.satellite t)) (first_entries ss) (first_rise ss p.1),
)

after : (e : CellEntry) (ts : List Satellite) → AllByRecursion (λ t. e.satellite < t.satellite) ts → AllByRecursion (IsBefore e) (flat_map satellite_entries ts)
after e [] a = tt
after e (t ∷ ts) a = (inl a.0, (inl a.0, after e ts a.1))

entries_rise : (ss : List Satellite) → Pairs IsLess ss → Pairs IsBefore (flat_map satellite_entries ss)
entries_rise [] p = tt
entries_rise (s ∷ ss) p = (
  (inr (refl, omega (arith, l1_place s.l1_code, l2_place s.l2_code)), after (entry_of s.satellite (l1_code_of s.l1_code) (l1_cell_of s)) ss p.0),
  (after (entry_of s.satellite (l2_code_of s.l2_code) (l2_cell_of s)) ss p.0, entries_rise ss p.1),
)

-- the satellites rise to this last number
abbrev pub RiseTo : ℕ → List Satellite → Type 0
RiseTo last ss = Pairs IsLess ss × AllByRecursion (λ s. s.satellite ≤ last) ss

pub rise-more : (last i : ℕ) (d : Satellite) (ss : List Satellite) → i < length ss → RiseTo last (take i ss) → last < (get_or ss i d).satellite → RiseTo (get_or ss i d).satellite (take (i + 1) ss)
rise-more last i d ss inside p less =
    let s = get_or ss i d in
    rw (take_more ss i d inside) (
      pairs-append IsLess (take i ss) (s ∷ []) p.0 (tt, tt) (all_from (λ (t : Satellite). t.satellite ≤ last) (λ (t : Satellite). AllByRecursion (IsLess t) (s ∷ [])) (λ t h. (omega (arith, h, less), tt)) (take i ss) p.1),
      all_append (λ (t : Satellite). t.satellite ≤ s.satellite) (take i ss) (s ∷ []) (all_from (λ (t : Satellite). t.satellite ≤ last) (λ (t : Satellite). t.satellite ≤ s.satellite) (λ t h. omega (arith, h, less)) (take i ss) p.1) (omega arith, tt),
    )

pub pairs-rise : (ss : List Satellite) → Pairs IsLess ss → AreRising (cells_of_1004 ss)
pairs-rise ss rise =
    all_pairs IsBefore (cells_of_1004 ss)
    (entries_rise (filter (λ (s : Satellite). is_satellite s.satellite) (first_entries ss)) (pairs_filter IsLess (λ (s : Satellite). is_satellite s.satellite) (first_entries ss) (first_rise ss rise)))

pub cells_of_1004-rise : (last i : ℕ) (ss : List Satellite) → RiseTo last (take i ss) → length ss ≤ i → AreRising (cells_of_1004 ss)
cells_of_1004-rise last i ss p all = pairs-rise ss (rw (take_all i ss all) at p.0)

-- ---- MSM: the satellites and the signals rise

to_above : (place w : ℕ) (ps : List ℕ) → AllByRecursion (λ p. (suc place ≤ p) × (p < suc place + w)) ps → AllByRecursion (λ p. place < p) ps
to_above place w [] a = tt
to_above place w (p ∷ ps) a = (omega arith, to_above place w ps a.1)

abbrev pub IsBelow : ℕ → ℕ → Type 0
IsBelow a b = a < b

rising_if : (b : Bool) (place : ℕ) (more rest : List ℕ) → AllByRecursion (IsBelow place) more → Pairs IsBelow more → Pairs IsBelow rest → Pairs IsBelow (cond b (place ∷ more) rest)
rising_if true place more rest a p q = (a, p)
rising_if false place more rest a p q = q

pub set_bits_from-rise : (place w mask : ℕ) → Pairs IsBelow (set_bits_from place w mask)
unfolding set_bits_from
set_bits_from-rise place zero mask = tt
set_bits_from-rise place (suc w) mask =
    rising_if (nat_le (2 ^ w) mask) place (set_bits_from (suc place) w (mask - 2 ^ w)) (set_bits_from (suc place) w mask)
    (to_above place w (set_bits_from (suc place) w (mask - 2 ^ w)) (set_bits_from-bounds (suc place) w (mask - 2 ^ w)))
    (set_bits_from-rise (suc place) w (mask - 2 ^ w)) (set_bits_from-rise (suc place) w mask)

-- an element stands below a later one
rises_at : (xs : List ℕ) → Pairs IsBelow xs → (i j : ℕ) → i < j → j < length xs → get_or xs i 0 < get_or xs j 0
rises_at xs p i j before inside = all_pairs IsBelow xs p i j 0 before inside

-- ---- its slots

module _ (satellites signals : List ℕ) (top : ℕ) where
  -- of a lesser satellite, or of the same one and a lesser signal; this one is below the top
  abbrev pub IsSlotBefore : Slot → Slot → Type 0
  IsSlotBefore s t =
      (satellite_in satellites s < satellite_in satellites t) ⊎ ((satellite_in satellites s ≡ satellite_in satellites t) × (s.signal < t.signal) × (t.signal < top))

  abbrev pub slot_at : ℕ → ℕ → Slot
  slot_at row p = record { row = row; signal = get_or signals (p - 1) 0 }

  module _ (rise : Pairs IsBelow signals) (low : (k : ℕ) → get_or signals k 0 < top) where
    row_below : (row p : ℕ) (ps : List ℕ) → 1 ≤ p → AllByRecursion (IsBelow p) ps → AllByRecursion (λ q. (1 ≤ q) × (q < 1 + length signals)) ps
        → AllByRecursion (IsSlotBefore (slot_at row p)) (map (slot_at row) ps)
    row_below row p [] one a b = tt
    row_below row p (q ∷ ps) one a b =
        (inr (refl, rises_at signals rise (p - 1) (q - 1) (omega (arith, one, a.0)) (omega (arith, one, a.0, b.0.1)), low (q - 1)), row_below row p ps one a.1 b.1)

    row_rises : (row : ℕ) (ps : List ℕ) → Pairs IsBelow ps → AllByRecursion (λ q. (1 ≤ q) × (q < 1 + length signals)) ps → Pairs IsSlotBefore (map (slot_at row) ps)
    row_rises row [] p b = tt
    row_rises row (q ∷ ps) p b = (row_below row q ps b.0.0 p.0 b.1, row_rises row ps p.1 b.1)

  rows_of : (row n k : ℕ) (ps : List ℕ) → k ≤ row → row < n → AllByRecursion (λ s. (k ≤ s.row) × (s.row < n)) (map (slot_at row) ps)
  rows_of row n k [] low high = tt
  rows_of row n k (p ∷ ps) low high = ((low, high), rows_of row n k ps low high)

  rows_from : (n k : ℕ) (masks : List ℕ) → k + length masks ≤ n → AllByRecursion (λ s. (k ≤ s.row) × (s.row < n)) (join_from (row_slots signals) k masks)
  unfolding join_from
  rows_from n k [] h = tt
  rows_from n k (b ∷ bs) h =
      all_append (λ (s : Slot). (k ≤ s.row) × (s.row < n)) (row_slots signals k b) (join_from (row_slots signals) (suc k) bs)
      (rows_of k n k (set_bits (length signals) b) (omega arith) (omega arith))
      (all_from (λ (s : Slot). (suc k ≤ s.row) × (s.row < n)) (λ (s : Slot). (k ≤ s.row) × (s.row < n)) (λ s r. (omega (arith, r.0), r.1))
      (join_from (row_slots signals) (suc k) bs) (rows_from n (suc k) bs (omega arith)))

  -- slots of a row are before slots of later rows, which belong to greater satellites
  across : Pairs IsBelow satellites → (k : ℕ) (later : List Slot) (ps : List ℕ) → AllByRecursion (λ s. (suc k ≤ s.row) × (s.row < length satellites)) later
      → AllByRecursion (λ s. AllByRecursion (IsSlotBefore s) later) (map (slot_at k) ps)
  across rise k later [] a = tt
  across rise k later (p ∷ ps) a = (
    all_from (λ (s : Slot). (suc k ≤ s.row) × (s.row < length satellites)) (IsSlotBefore (slot_at k p))
        (λ s r. inl (rises_at satellites rise k s.row (omega (arith, r.0)) r.1)) later a,
    across rise k later ps a,
  )

  pub slots_rise : Pairs IsBelow satellites → Pairs IsBelow signals → ((k : ℕ) → get_or signals k 0 < top) → (k : ℕ) (masks : List ℕ) → k + length masks ≤ length satellites
      → Pairs IsSlotBefore (join_from (row_slots signals) k masks)
  unfolding join_from
  slots_rise rise signals_rise low k [] h = tt
  slots_rise rise signals_rise low k (b ∷ bs) h =
      pairs-append IsSlotBefore (row_slots signals k b) (join_from (row_slots signals) (suc k) bs)
      (row_rises signals_rise low k (set_bits (length signals) b) (set_bits_from-rise 1 (length signals) b) (set_bits_from-bounds 1 (length signals) b))
      (slots_rise rise signals_rise low (suc k) bs (omega arith))
      (across rise k (join_from (row_slots signals) (suc k) bs) (set_bits (length signals) b) (rows_from (length satellites) (suc k) bs (omega arith)))

-- ---- one signal a code

-- 33, which is no signal, for the code that none has
abbrev pub signal_of : Code → ℕ
signal_of G1C = 2
signal_of G1P = 3
signal_of G1W = 4
signal_of G1S = 30
signal_of G1L = 31
signal_of G1X = 32
signal_of G2C = 8
signal_of G2D = 33
signal_of G2P = 9
signal_of G2W = 10
signal_of G2S = 15
signal_of G2L = 16
signal_of G2X = 17
signal_of G5I = 22
signal_of G5Q = 23
signal_of G5X = 24

some_code : (x c : Code) → Some x ≡ Some c → x ≡ c
some_code x c e = cc

or_later : (b : Bool) (s n : ℕ) (x c : Code) (rest : Option Code) → nat_eq s n ≡ b → n ≡ signal_of x → cond b (Some x) rest ≡ Some c → (rest ≡ Some c → s ≡ signal_of c) → s ≡ signal_of c
or_later true s n x c rest e f h more =
    let is : s ≡ n = grind (arith, nat_tests, e) in
    is ∙ (f ∙ ap signal_of (some_code x c h))
or_later false s n x c rest e f h more = more h

signal_of_coded : (s : ℕ) (c : Code) → code_of_signal s ≡ Some c → s ≡ signal_of c
signal_of_coded s c h =
    or_later (nat_eq s 2) s 2 G1C c _ refl refl h
    (λ h3. or_later (nat_eq s 3) s 3 G1P c _ refl refl h3
    (λ h4. or_later (nat_eq s 4) s 4 G1W c _ refl refl h4
    (λ h8. or_later (nat_eq s 8) s 8 G2C c _ refl refl h8
    (λ h9. or_later (nat_eq s 9) s 9 G2P c _ refl refl h9
    (λ h10. or_later (nat_eq s 10) s 10 G2W c _ refl refl h10
    (λ h15. or_later (nat_eq s 15) s 15 G2S c _ refl refl h15
    (λ h16. or_later (nat_eq s 16) s 16 G2L c _ refl refl h16
    (λ h17. or_later (nat_eq s 17) s 17 G2X c _ refl refl h17
    (λ h22. or_later (nat_eq s 22) s 22 G5I c _ refl refl h22
    (λ h23. or_later (nat_eq s 23) s 23 G5Q c _ refl refl h23
    (λ h24. or_later (nat_eq s 24) s 24 G5X c _ refl refl h24
    (λ h30. or_later (nat_eq s 30) s 30 G1S c _ refl refl h30
    (λ h31. or_later (nat_eq s 31) s 31 G1L c _ refl refl h31
    (λ h32. or_later (nat_eq s 32) s 32 G1X c None refl refl h32 (λ none. absurd cc)))))))))))))))

-- ---- the places of codes rise with the signals below 30

code_place : (c : Code) → signal_of c < 30
    → (place_of c + 2 + min 4 (signal_of c - 10) + min 4 (signal_of c - 17) ≡ signal_of c + min 1 (signal_of c - 8))
    × (signal_of c + min 1 (signal_of c - 9) ≤ place_of c + 2 + min 4 (signal_of c - 11) + min 4 (signal_of c - 18))
code_place G1C h = (omega arith, omega arith)
code_place G1P h = (omega arith, omega arith)
code_place G1W h = (omega arith, omega arith)
code_place G1S h = absurd (omega (arith, h))
code_place G1L h = absurd (omega (arith, h))
code_place G1X h = absurd (omega (arith, h))
code_place G2C h = (omega arith, omega arith)
code_place G2D h = absurd (omega (arith, h))
code_place G2P h = (omega arith, omega arith)
code_place G2W h = (omega arith, omega arith)
code_place G2S h = (omega arith, omega arith)
code_place G2L h = (omega arith, omega arith)
code_place G2X h = (omega arith, omega arith)
code_place G5I h = (omega arith, omega arith)
code_place G5Q h = (omega arith, omega arith)
code_place G5X h = (omega arith, omega arith)

code_before : (c d : Code) → signal_of c < signal_of d → signal_of d < 30 → place_of c < place_of d
code_before c d less low =
    let p = code_place c (omega (arith, less, low)) in
    let q = code_place d low in
    omega (arith, less, p.0, q.1)

-- ---- its cells

-- what is said of a slot and a later one
abbrev pub Slots : ℕ → MsmHeader → Slot → Slot → Type 0
Slots top h s t = IsSlotBefore (satellites_of h) (signals_of h) top s t

abbrev pub IsOfSlot : MsmHeader → Slot → CellEntry → Type 0
IsOfSlot h s e = (e.satellite ≡ satellite_in (satellites_of h) s) × (code_of_signal s.signal ≡ Some e.code)

module _ (h : MsmHeader) (cell_of : ℕ → ℕ → Band → Cell) where
  coded_of : (k : ℕ) (s : Slot) (code : Option Code) → code_of_signal s.signal ≡ code → AllByRecursion (IsOfSlot h s) (coded_entry (cell_of k s.row) (satellite_in (satellites_of h) s) code)
  coded_of k s None e = tt
  coded_of k s (Some code) e = ((refl, e), tt)

  of_slot_if : (b : Bool) (k : ℕ) (s : Slot)
      → AllByRecursion (IsOfSlot h s) (cond b (coded_entry (cell_of k s.row) (satellite_in (satellites_of h) s) (code_of_signal s.signal)) [])
  of_slot_if true k s = coded_of k s (code_of_signal s.signal) refl
  of_slot_if false k s = tt

  slot_entry-of : (k : ℕ) (s : Slot) → AllByRecursion (IsOfSlot h s) (slot_entry h cell_of k s)
  slot_entry-of k s = of_slot_if (is_satellite (satellite_in (satellites_of h) s)) k s

  -- a relation of the cells of a slot and a later one
  module _ (R : CellEntry → CellEntry → Type 0) (top : ℕ) (each : (s t : Slot) (a b : CellEntry) → Slots top h s t → IsOfSlot h s a → IsOfSlot h t b → R a b) where
    coded_one : (k row satellite : ℕ) (code : Option Code) → Pairs R (coded_entry (cell_of k row) satellite code)
    coded_one k row satellite None = tt
    coded_one k row satellite (Some code) = (tt, tt)

    one_if : (b : Bool) (k row satellite : ℕ) (code : Option Code) → Pairs R (cond b (coded_entry (cell_of k row) satellite code) [])
    one_if true k row satellite code = coded_one k row satellite code
    one_if false k row satellite code = tt

    later_cells : (s : Slot) (a : CellEntry) → IsOfSlot h s a → (k : ℕ) (ts : List Slot) → AllByRecursion (Slots top h s) ts → AllByRecursion (R a) (join_from (slot_entry h cell_of) k ts)
    unfolding join_from
    later_cells s a is k [] o = tt
    later_cells s a is k (t ∷ ts) o =
        all_append (R a) (slot_entry h cell_of k t) (join_from (slot_entry h cell_of) (suc k) ts)
        (all_from (IsOfSlot h t) (R a) (λ b q. each s t a b o.0 is q) (slot_entry h cell_of k t) (slot_entry-of k t))
        (later_cells s a is (suc k) ts o.1)

    entries_of_slots : (k : ℕ) (ss : List Slot) → Pairs (Slots top h) ss → Pairs R (join_from (slot_entry h cell_of) k ss)
    unfolding join_from
    entries_of_slots k [] p = tt
    entries_of_slots k (s ∷ ss) p =
        pairs-append R (slot_entry h cell_of k s) (join_from (slot_entry h cell_of) (suc k) ss)
        (one_if (is_satellite (satellite_in (satellites_of h) s)) k s.row (satellite_in (satellites_of h) s) (code_of_signal s.signal))
        (entries_of_slots (suc k) ss p.1)
        (all_from (IsOfSlot h s) (λ (a : CellEntry). AllByRecursion (R a) (join_from (slot_entry h cell_of) (suc k) ss))
        (λ a is. later_cells s a is (suc k) ss p.0) (slot_entry h cell_of k s) (slot_entry-of k s))

    entries_all : 0 < top → AllByRecursion (λ p. p < top) (signals_of h) → (rows : List ℕ) → IsCellMask h rows → AllPairs R (msm_entries h rows cell_of)
    entries_all some low rows is =
        all_pairs R (msm_entries h rows cell_of)
        (entries_of_slots 0 (slots_of h rows)
        (slots_rise (satellites_of h) (signals_of h) top (set_bits_from-rise 1 64 h.satellite_mask) (set_bits_from-rise 1 32 h.signal_mask)
        (λ k. below_at top some (signals_of h) k low) 0 rows (omega (arith, is.rows, count-satellites h rows is))))

-- they are distinct

differ : (h : MsmHeader) (s t : Slot) (a b : CellEntry) → Slots 33 h s t → IsOfSlot h s a → IsOfSlot h t b → AreDifferentSignals a b
differ h s t a b before p q same codes = elim before [
  | inl less ↦ absurd (omega (arith, less, p.0, q.0, same))
  | inr more ↦ absurd (omega (arith, more.1, signal_of_coded s.signal a.code p.1, signal_of_coded t.signal b.code q.1, ap signal_of codes))
]

pub below_33 : (ps : List ℕ) → AllByRecursion (λ p. (1 ≤ p) × (p < 1 + 32)) ps → AllByRecursion (λ p. p < 33) ps
below_33 ps a = all_from (λ (p : ℕ). (1 ≤ p) × (p < 1 + 32)) (λ (p : ℕ). p < 33) (λ p b. b.1) ps a

entries-distinct : (h : MsmHeader) (cell_of : ℕ → ℕ → Band → Cell) (rows : List ℕ) → IsCellMask h rows → AreDistinct (msm_entries h rows cell_of)
entries-distinct h cell_of rows is =
    entries_all h cell_of AreDifferentSignals 33 (differ h) (omega arith) (below_33 (signals_of h) (set_bits_from-bounds 1 32 h.signal_mask)) rows is

pub cells_of_1074-distinct : (m : Msm1074) → IsValid m → AreDistinct (cells_of_1074 m)
cells_of_1074-distinct m valid = entries-distinct m.header (cell_of_1074 m) m.cell_mask (is_cell_mask-1074 m valid)

pub gps_cells-distinct : (m : Msm) → IsValidMsm m → AreDistinct (msm_entries m.header m.cell_mask (cell_of_msm m))
gps_cells-distinct m valid = entries-distinct m.header (cell_of_msm m) m.cell_mask (is_cell_mask-msm m valid)

pub none-distinct : AreDistinct []
none-distinct i j d before inside = absurd (omega arith)

pub cells_of_msm-distinct : (m : Msm) → IsValidMsm m → AreDistinct (cells_of_msm m)
cells_of_msm-distinct m valid = gps_or_none AreDistinct m.system _ (gps_cells-distinct m valid) none-distinct

-- they rise if there is no signal from 30 to 32

before : (h : MsmHeader) (s t : Slot) (a b : CellEntry) → Slots 30 h s t → IsOfSlot h s a → IsOfSlot h t b → IsBefore a b
before h s t a b slots p q = elim slots [
  | inl less ↦ inl (omega (arith, less, p.0, q.0))
  | inr more ↦
      let c = signal_of_coded s.signal a.code p.1 in
      let d = signal_of_coded t.signal b.code q.1 in
      inr (p.0 ∙ more.0 ∙ sym q.0, code_before a.code b.code (omega (arith, c, d, more.1)) (omega (arith, d, more.2)))
]

pub entries-rise : (h : MsmHeader) (cell_of : ℕ → ℕ → Band → Cell) (rows : List ℕ) → IsCellMask h rows → AllByRecursion (λ p. p < 30) (signals_of h) → AreRising (msm_entries h rows cell_of)
entries-rise h cell_of rows is early = entries_all h cell_of IsBefore 30 (before h) (omega arith) early rows is

pub early-signals : (mask : ℕ) → mask < 2 ^ 32 → mask % 8 ≡ 0 → AllByRecursion (λ p. p < 30) (set_bits 32 mask)
early-signals mask fits none =
    let e : 8 * (mask / 8) ≡ mask = omega (arith, none) in
    let early = set_bits_from-early 29 1 (mask / 8) (omega (arith, fits)) in
    rw e at early

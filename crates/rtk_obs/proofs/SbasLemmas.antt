-- The entries of a 1004 with those of SBAS.
use Rattle.std.proofs.Common.{◌≡◌, ◌≢◌, ◌∙◌, ℕ, ℤ, ◌+◌, ◌-◌, ◌<◌, ◌≤◌, ◌⊎◌, inl, inr, Bool, true, false, not, cond, nat_eq, List, [], ◌∷◌, ◌++◌, map, filter, Option, Some, None, refl, sym, ap, arith}
use Rattle.std.specs.Prelude.{IfSome}
use Rattle.std.specs.List.{All, AllPairs, AllByRecursion, list_any, flat_map}
use Rattle.std.proofs.lemmas.Bool.Decides.{nat_tests}
use Rattle.std.proofs.lemmas.List.{append-nil, map-append}
use Rattle.std.proofs.lemmas.List.Concat.{flat_map-append}
use Rattle.std.proofs.lemmas.List.Elements.{All-from_recursion, recursion_from_All}
use Rattle.rtk_message.specs.AnyDecoded.{IsValid}
use Rattle.rtk_message.specs.Fields.{FieldsFit}
use Rattle.rtk_message.specs.Obs1004.{satellite_table, IsValid as IsValid1004}
use Rattle.rtk_message.specs.declared.any_message.AnyMessage.{AnyMessage}
use Rattle.rtk_message.specs.declared.any_message.AnyMessage.TheVariants as any
use Rattle.rtk_message.specs.declared.message.Message.TheVariants.{Obs1004, Arp1005, Arp1006, Msm1074}
use Rattle.rtk_message.specs.declared.obs1004.Obs1004 as declared_obs1004
use Rattle.rtk_message.specs.declared.obs1004.Satellite.{Satellite}
use Rattle.rtk_message.specs.declared.system.System.TheVariants.{Sbas}
use Rattle.rtk_obs.specs.declared.cell.CellSource.TheVariants.{Legacy}
use Rattle.rtk_obs.specs.declared.signal_cells.SignalEntry.{SignalEntry}
use Rattle.rtk_obs.specs.AnyCode.{IsSignal}
use Rattle.rtk_obs.specs.Cell.{is_satellite, IsSatellite, IsStrength}
use Rattle.rtk_obs.specs.CellsLeft.{HasLegacyWidths}
use Rattle.rtk_obs.specs.LegacyCells.{l1_code_of, l2_code_of, l1_cell_of, first_entries, has_number, satellite_entries, cells_of_1004}
use Rattle.rtk_obs.specs.SatelliteIndex.{IsSatelliteIndex, system_at, is_taken, index_in}
use Rattle.rtk_obs.specs.SbasCells.{is_sbas_number, sbas_entry_if, satellite_signals, signals_of_1004, entries_with_sbas}
use Rattle.rtk_obs.specs.SignalCells.{signal_of, AreDifferentEntries, IsSignalInRange, EntriesAreOfOneKind}
use Rattle.rtk_obs.specs.Steps.GlonassFields.{HasSeenNumbers}
use Rattle.rtk_obs.proofs.DistinctLemmas.{AreOthers, first_others, all_first, two_codes}
use Rattle.rtk_obs.proofs.LegacyLemmas.{fresh, entries-snoc, fields_of_valid, strength_in_range}
use Rattle.rtk_obs.proofs.OwnCodeLemmas.{own-index}
use Rattle.rtk_obs.proofs.PairsLemmas.{Pairs, all_append, all_from, all_pairs, pairs-append}
use Rattle.rtk_obs.proofs.SeenLemmas.{any-map}
use Rattle.rtk_obs.proofs.SignalEntryLemmas.{own, same-code, entries_of-own, entries_of-in_range, entries_of-differ, entries_of-kind}

-- ---- one entry more

signals-snoc : (ss : List Satellite) (s : Satellite) → signals_of_1004 (ss ++ s ∷ []) ≡ signals_of_1004 ss ++ flat_map satellite_signals (fresh ss s)
signals-snoc ss s = ap (flat_map satellite_signals) (entries-snoc ss s) ∙ flat_map-append satellite_signals (first_entries ss) (fresh ss s)

new : (s : Satellite) (b : Bool) → not b ≡ true → flat_map satellite_signals (cond b [] (s ∷ [])) ≡ satellite_signals s
new s true e = absurd cc
new s false e = append-nil (satellite_signals s)

old : (s : Satellite) (b : Bool) → not b ≡ false → flat_map satellite_signals (cond b [] (s ∷ [])) ≡ []
old s true e = refl
old s false e = absurd cc

numbers-any : (ss : List Satellite) (n : ℕ) → list_any (λ m. nat_eq m n) (map (λ s. s.satellite) ss) ≡ list_any (has_number n) ss
numbers-any ss n = any-map (λ (s : Satellite). s.satellite) n ss

-- the satellite came before
pub put-again : (ss : List Satellite) (s : Satellite) (is_new : Bool) (stood : List SignalEntry) → is_new ≡ not (list_any (λ m. nat_eq m s.satellite) (map (λ t. t.satellite) ss))
    → is_new ≡ false → stood ≡ signals_of_1004 ss → stood ≡ signals_of_1004 (ss ++ s ∷ [])
put-again ss s is_new stood e not_new is =
    is ∙ sym (signals-snoc ss s ∙ ap (λ (es : List SignalEntry). signals_of_1004 ss ++ es) (old s (list_any (has_number s.satellite) ss) (sym (ap not (numbers-any ss s.satellite)) ∙ sym e ∙ not_new))
    ∙ append-nil (signals_of_1004 ss))

-- its entries are put
pub put-new : (ss : List Satellite) (s : Satellite) (is_new : Bool) (stood found : List SignalEntry) → is_new ≡ not (list_any (λ m. nat_eq m s.satellite) (map (λ t. t.satellite) ss))
    → is_new ≡ true → found ≡ stood ++ satellite_signals s → stood ≡ signals_of_1004 ss → found ≡ signals_of_1004 (ss ++ s ∷ [])
put-new ss s is_new stood found e is_first put is =
    put ∙ ap (λ (es : List SignalEntry). es ++ satellite_signals s) is
    ∙ sym (signals-snoc ss s ∙ ap (λ (es : List SignalEntry). signals_of_1004 ss ++ es) (new s (list_any (has_number s.satellite) ss) (sym (ap not (numbers-any ss s.satellite)) ∙ sym e ∙ is_first)))

-- no satellite came yet
pub none-yet : [] ≡ signals_of_1004 []
unfolding first_entries
none-yet = refl

-- the marks after one satellite more
pub seen-map : (seen : List Bool) (ss : List Satellite) (s : Satellite) → HasSeenNumbers seen (map (λ t. t.satellite) ss ++ s.satellite ∷ []) → HasSeenNumbers seen (map (λ t. t.satellite) (ss ++ s ∷ []))
seen-map seen ss s h = rw (map-append (λ (t : Satellite). t.satellite) ss (s ∷ [])) h

-- ---- widths

numbers_by_recursion : (ss : List Satellite) → FieldsFit (flat_map satellite_table ss) → AllByRecursion (λ s. s.satellite < 64) ss
numbers_by_recursion [] h = tt
numbers_by_recursion (s ∷ ss) h = (h.0, numbers_by_recursion ss h.1.1.1.1.1.1.1.1.1.1.1.1)

pub numbers_of_valid : (m : declared_obs1004.Obs1004) → IsValid1004 m → All (λ s. s.satellite < 64) m.satellites
numbers_of_valid m h = All-from_recursion (λ (s : Satellite). s.satellite < 64) m.satellites (numbers_by_recursion m.satellites h.fields_fit.1.1.1.1.1.1)

-- ---- a satellite

satellite-is : (n : ℕ) → is_satellite n ≡ true → IsSatellite n
satellite-is n h = grind (arith, nat_tests)

sbas-is : (n : ℕ) → is_sbas_number n ≡ true → (40 ≤ n) × (n ≤ 58)
sbas-is n h = grind (arith, nat_tests)

-- a satellite of GPS or of SBAS of this number
abbrev IsOfNumber : ℕ → SignalEntry → Type 0
IsOfNumber n e = ((e.satellite ≡ n) × (n ≤ 32)) ⊎ ((e.satellite ≡ n + 129) × (40 ≤ n))

apart : (m n : ℕ) (a b : SignalEntry) → m ≢ n → IsOfNumber m a → IsOfNumber n b → AreDifferentEntries a b
apart m n a b other (inl p) (inl q) same = absurd (other (omega (arith, p.0, q.0, same)))
apart m n a b other (inl p) (inr q) same = absurd (omega (arith, p.0, p.1, q.0, q.1, same))
apart m n a b other (inr p) (inl q) same = absurd (omega (arith, p.0, p.1, q.0, q.1, same))
apart m n a b other (inr p) (inr q) same = absurd (other (omega (arith, p.0, q.0, same)))

index-if : (b : Bool) (n : ℕ) → IfSome (cond b (Some n) None) (λ i. i ≡ n)
index-if true n = refl
index-if false n = tt

index-of : (bit : ℕ) → IfSome (index_in Sbas bit) (λ i. i ≡ 168 + bit)
index-of bit = index-if (is_taken Sbas bit) (168 + bit)

number-sbas : (s : Satellite) (o : Option ℕ) → 40 ≤ s.satellite → IfSome o (λ i. i ≡ 168 + (s.satellite - 39)) → AllByRecursion (IsOfNumber s.satellite) (sbas_entry_if s o)
number-sbas s None from e = tt
number-sbas s (Some i) from e = (inr (omega (arith, from, e), from), tt)

number-if : (a b : Bool) (s : Satellite) → is_satellite s.satellite ≡ a → is_sbas_number s.satellite ≡ b
    → AllByRecursion (IsOfNumber s.satellite) (cond a (map signal_of (satellite_entries s)) (cond b (sbas_entry_if s (index_in Sbas (s.satellite - 39))) []))
number-if true b s e f = let is = satellite-is s.satellite e in (inl (refl, is.1), (inl (refl, is.1), tt))
number-if false true s e f = number-sbas s (index_in Sbas (s.satellite - 39)) (sbas-is s.satellite f).0 (index-of (s.satellite - 39))
number-if false false s e f = tt

numbers : (s : Satellite) → AllByRecursion (IsOfNumber s.satellite) (satellite_signals s)
numbers s = number-if (is_satellite s.satellite) (is_sbas_number s.satellite) s refl refl

one-sbas : (s : Satellite) (o : Option ℕ) → Pairs AreDifferentEntries (sbas_entry_if s o)
one-sbas s None = tt
one-sbas s (Some i) = (tt, tt)

two-if : (a b : Bool) (s : Satellite) → Pairs AreDifferentEntries (cond a (map signal_of (satellite_entries s)) (cond b (sbas_entry_if s (index_in Sbas (s.satellite - 39))) []))
two-if true b s = ((λ same codes. two_codes s.l1_code s.l2_code (same-code (l1_code_of s.l1_code) (l2_code_of s.l2_code) codes), tt), (tt, tt))
two-if false true s = one-sbas s (index_in Sbas (s.satellite - 39))
two-if false false s = tt

abbrev IsOwn : SignalEntry → Type 0
IsOwn e = IsSignal e.satellite e.code

own-sbas : (s : Satellite) (o : Option ℕ) → IfSome o (λ i. IsSatelliteIndex i × (system_at i ≡ Sbas)) → AllByRecursion IsOwn (sbas_entry_if s o)
own-sbas s None is = tt
own-sbas s (Some i) is = ((is.0, sym is.1), tt)

own-if : (a b : Bool) (s : Satellite) → is_satellite s.satellite ≡ a → AllByRecursion IsOwn (cond a (map signal_of (satellite_entries s)) (cond b (sbas_entry_if s (index_in Sbas (s.satellite - 39))) []))
own-if true b s e =
    let is = satellite-is s.satellite e in
    (own (record { satellite = s.satellite; code = l1_code_of s.l1_code; cell = l1_cell_of s }) is, (own (record { satellite = s.satellite; code = l2_code_of s.l2_code; cell = l1_cell_of s }) is, tt))
own-if false true s e = own-sbas s (index_in Sbas (s.satellite - 39)) (own-index Sbas (s.satellite - 39) (index_in Sbas (s.satellite - 39)) refl)
own-if false false s e = tt

abbrev HasLegacy : SignalEntry → Type 0
HasLegacy e = e.cell.source ≡ Legacy

legacy-sbas : (s : Satellite) (o : Option ℕ) → AllByRecursion HasLegacy (sbas_entry_if s o)
legacy-sbas s None = tt
legacy-sbas s (Some i) = (refl, tt)

legacy-if : (a b : Bool) (s : Satellite) → AllByRecursion HasLegacy (cond a (map signal_of (satellite_entries s)) (cond b (sbas_entry_if s (index_in Sbas (s.satellite - 39))) []))
legacy-if true b s = (refl, (refl, tt))
legacy-if false true s = legacy-sbas s (index_in Sbas (s.satellite - 39))
legacy-if false false s = tt

abbrev HasStrength : SignalEntry → Type 0
HasStrength e = IfSome e.cell.strength_millidbhz IsStrength

strength-sbas : (s : Satellite) (o : Option ℕ) → s.l1_cnr < 256 → AllByRecursion HasStrength (sbas_entry_if s o)
strength-sbas s None h = tt
strength-sbas s (Some i) h = (strength_in_range s.l1_cnr h, tt)

strength-if : (a b : Bool) (s : Satellite) → HasLegacyWidths s → AllByRecursion HasStrength (cond a (map signal_of (satellite_entries s)) (cond b (sbas_entry_if s (index_in Sbas (s.satellite - 39))) []))
strength-if true b s h = (strength_in_range s.l1_cnr h.l1_cnr, (strength_in_range s.l2_cnr h.l2_cnr, tt))
strength-if false true s h = strength-sbas s (index_in Sbas (s.satellite - 39)) h.l1_cnr
strength-if false false s h = tt

-- ---- all entries of a 1004

all-flat : (P : SignalEntry → Type 0) (ss : List Satellite) → ((s : Satellite) → AllByRecursion P (satellite_signals s)) → AllByRecursion P (flat_map satellite_signals ss)
all-flat P [] h = tt
all-flat P (s ∷ ss) h = all_append P (satellite_signals s) (flat_map satellite_signals ss) (h s) (all-flat P ss h)

away : (a : SignalEntry) (n : ℕ) → IsOfNumber n a → (ts : List Satellite) → AllByRecursion (λ t. n ≢ t.satellite) ts → AllByRecursion (AreDifferentEntries a) (flat_map satellite_signals ts)
away a n is [] o = tt
away a n is (t ∷ ts) o =
    all_append (AreDifferentEntries a) (satellite_signals t) (flat_map satellite_signals ts)
    (all_from (IsOfNumber t.satellite) (AreDifferentEntries a) (λ b there. apart n t.satellite a b o.0 is there) (satellite_signals t) (numbers t))
    (away a n is ts o.1)

pairs-flat : (ss : List Satellite) → Pairs AreOthers ss → Pairs AreDifferentEntries (flat_map satellite_signals ss)
pairs-flat [] p = tt
pairs-flat (s ∷ ss) p =
    pairs-append AreDifferentEntries (satellite_signals s) (flat_map satellite_signals ss)
    (two-if (is_satellite s.satellite) (is_sbas_number s.satellite) s) (pairs-flat ss p.1)
    (all_from (IsOfNumber s.satellite) (λ (a : SignalEntry). AllByRecursion (AreDifferentEntries a) (flat_map satellite_signals ss)) (λ a there. away a s.satellite there ss p.0) (satellite_signals s) (numbers s))

strengths : (ss : List Satellite) → AllByRecursion HasLegacyWidths ss → AllByRecursion HasStrength (flat_map satellite_signals ss)
strengths [] h = tt
strengths (s ∷ ss) h = all_append HasStrength (satellite_signals s) (flat_map satellite_signals ss) (strength-if (is_satellite s.satellite) (is_sbas_number s.satellite) s h.0) (strengths ss h.1)

own-1004 : (ss : List Satellite) → All IsOwn (signals_of_1004 ss)
own-1004 ss = All-from_recursion IsOwn (signals_of_1004 ss) (all-flat IsOwn (first_entries ss) (λ s. own-if (is_satellite s.satellite) (is_sbas_number s.satellite) s refl))

legacy-1004 : (ss : List Satellite) → All HasLegacy (signals_of_1004 ss)
legacy-1004 ss = All-from_recursion HasLegacy (signals_of_1004 ss) (all-flat HasLegacy (first_entries ss) (λ s. legacy-if (is_satellite s.satellite) (is_sbas_number s.satellite) s))

differ-1004 : (ss : List Satellite) → AllPairs AreDifferentEntries (signals_of_1004 ss)
differ-1004 ss = all_pairs AreDifferentEntries (signals_of_1004 ss) (pairs-flat (first_entries ss) (first_others ss))

range-1004 : (m : declared_obs1004.Obs1004) → IsValid1004 m → All IsSignalInRange (signals_of_1004 m.satellites)
range-1004 m valid =
    let widths = all_first HasLegacyWidths m.satellites (recursion_from_All HasLegacyWidths m.satellites (fields_of_valid m valid)) in
    let each = All-from_recursion HasStrength (signals_of_1004 m.satellites) (strengths (first_entries m.satellites) widths) in
    λ k d inside. record { signal = own-1004 m.satellites k d inside; strength = each k d inside }

-- without a satellite of SBAS the entries are those of GPS
plain-if : (a b : Bool) (s : Satellite) (rest : List SignalEntry) (more : List Satellite) → b ≡ false → rest ≡ map signal_of (flat_map satellite_entries more)
    → cond a (map signal_of (satellite_entries s)) (cond b (sbas_entry_if s (index_in Sbas (s.satellite - 39))) []) ++ rest ≡ map signal_of (flat_map satellite_entries (cond a (s ∷ more) more))
plain-if true b s rest more e is = ap (λ (es : List SignalEntry). map signal_of (satellite_entries s) ++ es) is
plain-if false true s rest more e is = absurd cc
plain-if false false s rest more e is = is

plain : (ss : List Satellite) → AllByRecursion (λ s. is_sbas_number s.satellite ≡ false) ss → flat_map satellite_signals ss ≡ map signal_of (flat_map satellite_entries (filter (λ s. is_satellite s.satellite) ss))
plain [] h = refl
plain (s ∷ ss) h =
    plain-if (is_satellite s.satellite) (is_sbas_number s.satellite) s (flat_map satellite_signals ss) (filter (λ s. is_satellite s.satellite) ss) h.0 (plain ss h.1)

pub plain-1004 : (ss : List Satellite) → All (λ s. is_sbas_number s.satellite ≡ false) ss → signals_of_1004 ss ≡ map signal_of (cells_of_1004 ss)
plain-1004 ss h =
    plain (first_entries ss) (all_first (λ (s : Satellite). is_sbas_number s.satellite ≡ false) ss (recursion_from_All (λ (s : Satellite). is_sbas_number s.satellite ≡ false) ss h))

-- ---- all entries of a message

pub sbas-own : (channels : List (Option ℤ)) (m : AnyMessage) → All IsOwn (entries_with_sbas channels m)
sbas-own channels (any.Message (Obs1004 m)) = own-1004 m.satellites
sbas-own channels (any.Message (Arp1005 m)) = entries_of-own channels (any.Message (Arp1005 m))
sbas-own channels (any.Message (Arp1006 m)) = entries_of-own channels (any.Message (Arp1006 m))
sbas-own channels (any.Message (Msm1074 m)) = entries_of-own channels (any.Message (Msm1074 m))
sbas-own channels (any.Msm m) = entries_of-own channels (any.Msm m)
sbas-own channels (any.Obs1012 m) = entries_of-own channels (any.Obs1012 m)

pub sbas-range : (channels : List (Option ℤ)) (m : AnyMessage) → IsValid m → All IsSignalInRange (entries_with_sbas channels m)
sbas-range channels (any.Message (Obs1004 m)) valid = range-1004 m valid
sbas-range channels (any.Message (Arp1005 m)) valid = entries_of-in_range channels (any.Message (Arp1005 m)) valid
sbas-range channels (any.Message (Arp1006 m)) valid = entries_of-in_range channels (any.Message (Arp1006 m)) valid
sbas-range channels (any.Message (Msm1074 m)) valid = entries_of-in_range channels (any.Message (Msm1074 m)) valid
sbas-range channels (any.Msm m) valid = entries_of-in_range channels (any.Msm m) valid
sbas-range channels (any.Obs1012 m) valid = entries_of-in_range channels (any.Obs1012 m) valid

pub sbas-differ : (channels : List (Option ℤ)) (m : AnyMessage) → IsValid m → AllPairs AreDifferentEntries (entries_with_sbas channels m)
sbas-differ channels (any.Message (Obs1004 m)) valid = differ-1004 m.satellites
sbas-differ channels (any.Message (Arp1005 m)) valid = entries_of-differ channels (any.Message (Arp1005 m)) valid
sbas-differ channels (any.Message (Arp1006 m)) valid = entries_of-differ channels (any.Message (Arp1006 m)) valid
sbas-differ channels (any.Message (Msm1074 m)) valid = entries_of-differ channels (any.Message (Msm1074 m)) valid
sbas-differ channels (any.Msm m) valid = entries_of-differ channels (any.Msm m) valid
sbas-differ channels (any.Obs1012 m) valid = entries_of-differ channels (any.Obs1012 m) valid

pub sbas-kind : (channels : List (Option ℤ)) (m : AnyMessage) → EntriesAreOfOneKind (entries_with_sbas channels m)
sbas-kind channels (any.Message (Obs1004 m)) = (Legacy, legacy-1004 m.satellites)
sbas-kind channels (any.Message (Arp1005 m)) = entries_of-kind channels (any.Message (Arp1005 m))
sbas-kind channels (any.Message (Arp1006 m)) = entries_of-kind channels (any.Message (Arp1006 m))
sbas-kind channels (any.Message (Msm1074 m)) = entries_of-kind channels (any.Message (Msm1074 m))
sbas-kind channels (any.Msm m) = entries_of-kind channels (any.Msm m)
sbas-kind channels (any.Obs1012 m) = entries_of-kind channels (any.Obs1012 m)

-- The entries of a 1012: each is of a code of GLONASS and has a strength that messages give, no two are of one
-- satellite and code, and all are legacy ones.
use Rattle.std.proofs.Common.{◌≡◌, ◌≢◌, ◌∙◌, ℕ, ℤ, ◌+◌, ◌<◌, ◌≤◌, Bool, true, false, not, cond, nat_eq, List, [], ◌∷◌, filter, Option, Some, None, refl, sym, ap, arith}
use Rattle.std.specs.Prelude.{IfSome}
use Rattle.std.specs.List.{All, AllPairs, AllByRecursion, flat_map}
use Rattle.std.proofs.lemmas.Bool.Decides.{nat_tests}
use Rattle.std.proofs.lemmas.List.Elements.{All-from_recursion}
use Rattle.rtk_message.specs.declared.obs1012.GlonassSatellite.{GlonassSatellite}
use Rattle.rtk_message.specs.declared.obs1012.Obs1012.{Obs1012}
use Rattle.rtk_message.specs.declared.system.System.TheVariants.{Glonass}
use Rattle.rtk_message.specs.Obs1012.{IsValid}
use Rattle.rtk_obs.specs.declared.any_code.AnyCode.{AnyCode}
use Rattle.rtk_obs.specs.declared.any_code.AnyCode.TheVariants.{R2C, R2P}
use Rattle.rtk_obs.specs.declared.cell.CellSource.TheVariants.{Legacy}
use Rattle.rtk_obs.specs.declared.signal_cells.SignalEntry.{SignalEntry}
use Rattle.rtk_obs.specs.AnyCode.{system_of, place_of, IsSignal}
use Rattle.rtk_obs.specs.Cell.{IsStrength}
use Rattle.rtk_obs.specs.GlonassCells.{glonass_l1_code, glonass_l2_code, glonass_channel, glonass_l1_entry, glonass_l2_entries, glonass_entries, slot_entries, is_of_slot, first_of_slots, entries_of_1012}
use Rattle.rtk_obs.specs.SatelliteIndex.{IsSatelliteIndex, system_at, is_taken, index_in}
use Rattle.rtk_obs.specs.SignalCells.{AreDifferentEntries, IsSignalInRange}
use Rattle.rtk_obs.specs.Steps.GlonassFields.{HasGlonassWidths}
use Rattle.rtk_obs.proofs.GlonassLemmas.{widths-by_recursion}
use Rattle.rtk_obs.proofs.LegacyLemmas.{strength_in_range}
use Rattle.rtk_obs.proofs.OwnCodeLemmas.{own-index}
use Rattle.rtk_obs.proofs.PairsLemmas.{Pairs, all_append, all_from, all_filter, all_pairs, pairs-append, pairs_filter}

-- ---- codes

l1-own : (b : Bool) → system_of (glonass_l1_code b) ≡ Glonass
l1-own true = refl
l1-own false = refl

abbrev IsL2 : AnyCode → Type 0
IsL2 c = (system_of c ≡ Glonass) × (2 ≤ place_of c)

l2-if : (a b : Bool) → IfSome (cond a (Some R2C) (cond b (Some R2P) None)) IsL2
l2-if true b = (refl, omega arith)
l2-if false true = (refl, omega arith)
l2-if false false = tt

l2-own : (n : ℕ) → IfSome (glonass_l2_code n) IsL2
l2-own n = l2-if (nat_eq n 0) (nat_eq n 1)

l1_place : (b : Bool) → place_of (glonass_l1_code b) < 2
l1_place true = omega arith
l1_place false = omega arith

two_codes : (b : Bool) (c : AnyCode) → IsL2 c → glonass_l1_code b ≢ c
two_codes b c is same = absurd (omega (arith, l1_place b, is.1, ap place_of same))

-- ---- a satellite

-- an index is that of its slot
index-if : (b : Bool) (n : ℕ) → IfSome (cond b (Some n) None) (λ i. i ≡ n)
index-if true n = refl
index-if false n = tt

index-of : (bit : ℕ) → IfSome (index_in Glonass bit) (λ i. i ≡ 32 + bit)
index-of bit = index-if (is_taken Glonass bit) (32 + bit)

abbrev IsAt : ℕ → SignalEntry → Type 0
IsAt n e = e.satellite ≡ n

at-l2 : (s : GlonassSatellite) (channel : Option ℤ) (n i : ℕ) (o : Option AnyCode) → i ≡ n → AllByRecursion (IsAt n) (glonass_l2_entries s channel i o)
at-l2 s channel n i None e = tt
at-l2 s channel n i (Some c) e = (e, tt)

stands-at : (s : GlonassSatellite) (channel : Option ℤ) (n : ℕ) (o : Option ℕ) → IfSome o (λ i. i ≡ n) → AllByRecursion (IsAt n) (glonass_entries s channel o)
stands-at s channel n None e = tt
stands-at s channel n (Some i) e = (e, at-l2 s channel n i (glonass_l2_code s.l2_code) e)

two-if : (s : GlonassSatellite) (channel : Option ℤ) (i : ℕ) (o : Option AnyCode) → IfSome o IsL2
    → Pairs AreDifferentEntries (glonass_l1_entry s channel i (glonass_l1_code s.l1_code) ∷ glonass_l2_entries s channel i o)
two-if s channel i None is = (tt, tt)
two-if s channel i (Some c) is = ((λ same. two_codes s.l1_code c is, tt), (tt, tt))

two : (s : GlonassSatellite) (channel : Option ℤ) (o : Option ℕ) → Pairs AreDifferentEntries (glonass_entries s channel o)
two s channel None = tt
two s channel (Some i) = two-if s channel i (glonass_l2_code s.l2_code) (l2-own s.l2_code)

abbrev IsOwn : SignalEntry → Type 0
IsOwn e = IsSignal e.satellite e.code

own-l2 : (s : GlonassSatellite) (channel : Option ℤ) (i : ℕ) (o : Option AnyCode) → IsSatelliteIndex i → system_at i ≡ Glonass → IfSome o IsL2 → AllByRecursion IsOwn (glonass_l2_entries s channel i o)
own-l2 s channel i None is of is_code = tt
own-l2 s channel i (Some c) is of is_code = ((is, is_code.0 ∙ sym of), tt)

own-if : (s : GlonassSatellite) (channel : Option ℤ) (o : Option ℕ) → IfSome o (λ i. IsSatelliteIndex i × (system_at i ≡ Glonass)) → AllByRecursion IsOwn (glonass_entries s channel o)
own-if s channel None is = tt
own-if s channel (Some i) is = ((is.0, l1-own s.l1_code ∙ sym is.1), own-l2 s channel i (glonass_l2_code s.l2_code) is.0 is.1 (l2-own s.l2_code))

abbrev HasLegacy : SignalEntry → Type 0
HasLegacy e = e.cell.source ≡ Legacy

legacy-l2 : (s : GlonassSatellite) (channel : Option ℤ) (i : ℕ) (o : Option AnyCode) → AllByRecursion HasLegacy (glonass_l2_entries s channel i o)
legacy-l2 s channel i None = tt
legacy-l2 s channel i (Some c) = (refl, tt)

legacy-if : (s : GlonassSatellite) (channel : Option ℤ) (o : Option ℕ) → AllByRecursion HasLegacy (glonass_entries s channel o)
legacy-if s channel None = tt
legacy-if s channel (Some i) = (refl, legacy-l2 s channel i (glonass_l2_code s.l2_code))

abbrev HasStrength : SignalEntry → Type 0
HasStrength e = IfSome e.cell.strength_millidbhz IsStrength

strength-l2 : (s : GlonassSatellite) (channel : Option ℤ) (i : ℕ) (o : Option AnyCode) → s.l2_cnr < 256 → AllByRecursion HasStrength (glonass_l2_entries s channel i o)
strength-l2 s channel i None h = tt
strength-l2 s channel i (Some c) h = (strength_in_range s.l2_cnr h, tt)

strength-if : (s : GlonassSatellite) (channel : Option ℤ) (o : Option ℕ) → HasGlonassWidths s → AllByRecursion HasStrength (glonass_entries s channel o)
strength-if s channel None h = tt
strength-if s channel (Some i) h = (strength_in_range s.l1_cnr h.l1_cnr, strength-l2 s channel i (glonass_l2_code s.l2_code) h.l2_cnr)

-- ---- slots that came first

abbrev AreOtherSlots : GlonassSatellite → GlonassSatellite → Type 0
AreOtherSlots s t = s.slot ≢ t.slot

others_if : (b : Bool) (s t : GlonassSatellite) (rest : List GlonassSatellite) → nat_eq t.slot s.slot ≡ b → AllByRecursion (AreOtherSlots s) rest → AllByRecursion (AreOtherSlots s) (cond (not b) (t ∷ rest) rest)
others_if true s t rest e a = a
others_if false s t rest e a = (λ same. absurd (grind (arith, nat_tests, e, same)), a)

others : (s : GlonassSatellite) (ts : List GlonassSatellite) → AllByRecursion (AreOtherSlots s) (filter (λ (t : GlonassSatellite). not (is_of_slot s.slot t)) ts)
others s [] = tt
others s (t ∷ ts) = others_if (nat_eq t.slot s.slot) s t (filter (λ (t : GlonassSatellite). not (is_of_slot s.slot t)) ts) refl (others s ts)

first-others : (ss : List GlonassSatellite) → Pairs AreOtherSlots (first_of_slots ss)
unfolding first_of_slots
first-others [] = tt
first-others (s ∷ ss) = (others s (first_of_slots ss), pairs_filter AreOtherSlots (λ (t : GlonassSatellite). not (is_of_slot s.slot t)) (first_of_slots ss) (first-others ss))

first-all : (P : GlonassSatellite → Type 0) (ss : List GlonassSatellite) → AllByRecursion P ss → AllByRecursion P (first_of_slots ss)
unfolding first_of_slots
first-all P [] a = tt
first-all P (s ∷ ss) a = (a.0, all_filter P (λ (t : GlonassSatellite). not (is_of_slot s.slot t)) (first_of_slots ss) (first-all P ss a.1))

-- ---- all entries

module _ (channels : List (Option ℤ)) where
  all-flat : (P : SignalEntry → Type 0) (ss : List GlonassSatellite) → ((s : GlonassSatellite) → AllByRecursion P (slot_entries channels s)) → AllByRecursion P (flat_map (slot_entries channels) ss)
  all-flat P [] h = tt
  all-flat P (s ∷ ss) h = all_append P (slot_entries channels s) (flat_map (slot_entries channels) ss) (h s) (all-flat P ss h)

  away : (a : SignalEntry) (n : ℕ) → a.satellite ≡ 32 + n → (ts : List GlonassSatellite) → AllByRecursion (λ t. n ≢ t.slot) ts → AllByRecursion (AreDifferentEntries a) (flat_map (slot_entries channels) ts)
  away a n is [] o = tt
  away a n is (t ∷ ts) o =
      all_append (AreDifferentEntries a) (slot_entries channels t) (flat_map (slot_entries channels) ts)
      (all_from (IsAt (32 + t.slot)) (AreDifferentEntries a) (λ b there same. absurd (o.0 (omega (arith, is, there, same)))) (slot_entries channels t) (stands-at t (glonass_channel channels t) (32 + t.slot) (index_in Glonass t.slot) (index-of t.slot)))
      (away a n is ts o.1)

  pairs-flat : (ss : List GlonassSatellite) → Pairs AreOtherSlots ss → Pairs AreDifferentEntries (flat_map (slot_entries channels) ss)
  pairs-flat [] p = tt
  pairs-flat (s ∷ ss) p =
      pairs-append AreDifferentEntries (slot_entries channels s) (flat_map (slot_entries channels) ss)
      (two s (glonass_channel channels s) (index_in Glonass s.slot)) (pairs-flat ss p.1)
      (all_from (IsAt (32 + s.slot)) (λ (a : SignalEntry). AllByRecursion (AreDifferentEntries a) (flat_map (slot_entries channels) ss))
      (λ a there. away a s.slot there ss p.0) (slot_entries channels s) (stands-at s (glonass_channel channels s) (32 + s.slot) (index_in Glonass s.slot) (index-of s.slot)))

  pub glonass-own : (ss : List GlonassSatellite) → All IsOwn (entries_of_1012 channels ss)
  glonass-own ss =
      All-from_recursion IsOwn (entries_of_1012 channels ss)
      (all-flat IsOwn (first_of_slots ss) (λ s. own-if s (glonass_channel channels s) (index_in Glonass s.slot) (own-index Glonass s.slot (index_in Glonass s.slot) refl)))

  pub glonass-legacy : (ss : List GlonassSatellite) → All HasLegacy (entries_of_1012 channels ss)
  glonass-legacy ss =
      All-from_recursion HasLegacy (entries_of_1012 channels ss) (all-flat HasLegacy (first_of_slots ss) (λ s. legacy-if s (glonass_channel channels s) (index_in Glonass s.slot)))

  pub glonass-differ : (ss : List GlonassSatellite) → AllPairs AreDifferentEntries (entries_of_1012 channels ss)
  glonass-differ ss = all_pairs AreDifferentEntries (entries_of_1012 channels ss) (pairs-flat (first_of_slots ss) (first-others ss))

  strengths : (ss : List GlonassSatellite) → AllByRecursion HasGlonassWidths ss → AllByRecursion HasStrength (flat_map (slot_entries channels) ss)
  strengths [] h = tt
  strengths (s ∷ ss) h =
      all_append HasStrength (slot_entries channels s) (flat_map (slot_entries channels) ss) (strength-if s (glonass_channel channels s) (index_in Glonass s.slot) h.0) (strengths ss h.1)

  glonass-strength : (m : Obs1012) → IsValid m → All HasStrength (entries_of_1012 channels m.satellites)
  glonass-strength m valid =
      All-from_recursion HasStrength (entries_of_1012 channels m.satellites) (strengths (first_of_slots m.satellites) (first-all HasGlonassWidths m.satellites (widths-by_recursion m valid)))

  pub glonass-range : (m : Obs1012) → IsValid m → All IsSignalInRange (entries_of_1012 channels m.satellites)
  glonass-range m valid = λ k d inside. record { signal = glonass-own m.satellites k d inside; strength = glonass-strength m valid k d inside }

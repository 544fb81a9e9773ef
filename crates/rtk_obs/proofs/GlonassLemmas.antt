-- The cells of a 1012: one entry more, and the widths of the fields.
use Rattle.std.proofs.Common.{◌≡◌, ◌∙◌, ℕ, ℤ, ◌+◌, ◌||◌, Bool, true, false, not, cond, nat_eq, List, [], ◌∷◌, ◌++◌, map, filter, Option, Some, None, refl, sym, ap, arith, append_assoc}
use Rattle.std.specs.List.{list_any, flat_map, All, AllByRecursion}
use Rattle.std.proofs.lemmas.Bool.Decides.{nat_tests}
use Rattle.std.proofs.lemmas.List.{append-nil, map-append}
use Rattle.std.proofs.lemmas.List.Concat.{flat_map-append}
use Rattle.std.proofs.lemmas.List.Elements.{filter-append, All-from_recursion}
use Rattle.rtk_message.specs.declared.obs1012.GlonassSatellite.{GlonassSatellite}
use Rattle.rtk_message.specs.declared.obs1012.Obs1012.{Obs1012}
use Rattle.rtk_message.specs.declared.system.System.TheVariants.{Glonass}
use Rattle.rtk_message.specs.Fields.{FieldsFit}
use Rattle.rtk_message.specs.Obs1012.{satellite_table, IsValid}
use Rattle.rtk_obs.specs.declared.signal_cells.SignalEntry.{SignalEntry}
use Rattle.rtk_obs.specs.Carriers.{IsSlot}
use Rattle.rtk_obs.specs.GlonassCells.{glonass_channel, glonass_entries, slot_entries, is_of_slot, first_of_slots, entries_of_1012}
use Rattle.rtk_obs.specs.SatelliteIndex.{is_taken, index_in}
use Rattle.rtk_obs.specs.Steps.GlonassFields.{HasGlonassWidths, HasSeenNumbers}
use Rattle.rtk_obs.proofs.SeenLemmas.{any-map}

-- ---- the first entry of a slot

-- the entry itself, if no entry of its slot stands among these
abbrev fresh : List GlonassSatellite → GlonassSatellite → List GlonassSatellite
fresh ss s = cond (list_any (is_of_slot s.slot) ss) [] (s ∷ [])

kept : (a b : Bool) (p : GlonassSatellite → Bool) (s : GlonassSatellite) → p s ≡ not a → filter p (cond b [] (s ∷ [])) ≡ cond (a || b) [] (s ∷ [])
kept true true p s e = refl
kept true false p s e = rw e refl
kept false true p s e = refl
kept false false p s e = rw e refl

either_way : (m n : ℕ) → nat_eq m n ≡ nat_eq n m
either_way m n = grind (arith, nat_tests)

fresh-step : (x : GlonassSatellite) (xs : List GlonassSatellite) (s : GlonassSatellite) → filter (λ t. not (is_of_slot x.slot t)) (fresh xs s) ≡ fresh (x ∷ xs) s
fresh-step x xs s =
    kept (nat_eq x.slot s.slot) (list_any (is_of_slot s.slot) xs) (λ t. not (is_of_slot x.slot t)) s (ap not (either_way s.slot x.slot))

slots-snoc : (ss : List GlonassSatellite) (s : GlonassSatellite) → first_of_slots (ss ++ s ∷ []) ≡ first_of_slots ss ++ fresh ss s
unfolding first_of_slots
slots-snoc [] s = refl
slots-snoc (x ∷ xs) s = rw (slots-snoc xs s, filter-append (λ (t : GlonassSatellite). not (is_of_slot x.slot t)) (first_of_slots xs) (fresh xs s), fresh-step x xs s) refl

-- ---- one entry more

module _ (channels : List (Option ℤ)) where
  entries-snoc : (ss : List GlonassSatellite) (s : GlonassSatellite) → entries_of_1012 channels (ss ++ s ∷ []) ≡ entries_of_1012 channels ss ++ flat_map (slot_entries channels) (fresh ss s)
  entries-snoc ss s = ap (flat_map (slot_entries channels)) (slots-snoc ss s) ∙ flat_map-append (slot_entries channels) (first_of_slots ss) (fresh ss s)

  new : (s : GlonassSatellite) (b : Bool) → not b ≡ true → flat_map (slot_entries channels) (cond b [] (s ∷ [])) ≡ slot_entries channels s
  new s true e = absurd cc
  new s false e = append-nil (slot_entries channels s)

  old : (s : GlonassSatellite) (b : Bool) → not b ≡ false → flat_map (slot_entries channels) (cond b [] (s ∷ [])) ≡ []
  old s true e = refl
  old s false e = absurd cc

  -- a slot that came for the first time
  entries-used : (ss : List GlonassSatellite) (s : GlonassSatellite) → not (list_any (is_of_slot s.slot) ss) ≡ true → entries_of_1012 channels (ss ++ s ∷ []) ≡ entries_of_1012 channels ss ++ slot_entries channels s
  entries-used ss s h = entries-snoc ss s ∙ ap (λ (es : List SignalEntry). entries_of_1012 channels ss ++ es) (new s (list_any (is_of_slot s.slot) ss) h)

  -- and one that came before
  entries-unused : (ss : List GlonassSatellite) (s : GlonassSatellite) → not (list_any (is_of_slot s.slot) ss) ≡ false → entries_of_1012 channels (ss ++ s ∷ []) ≡ entries_of_1012 channels ss
  entries-unused ss s h =
      entries-snoc ss s ∙ ap (λ (es : List SignalEntry). entries_of_1012 channels ss ++ es) (old s (list_any (is_of_slot s.slot) ss) h) ∙ append-nil (entries_of_1012 channels ss)

  slots-any : (ss : List GlonassSatellite) (n : ℕ) → list_any (λ m. nat_eq m n) (map (λ s. s.slot) ss) ≡ list_any (is_of_slot n) ss
  slots-any ss n = any-map (λ (s : GlonassSatellite). s.slot) n ss

  -- the satellite came before
  pub put-again : (ss : List GlonassSatellite) (s : GlonassSatellite) (is_new : Bool) (stood : List SignalEntry) → is_new ≡ not (list_any (λ m. nat_eq m s.slot) (map (λ t. t.slot) ss))
      → is_new ≡ false → stood ≡ entries_of_1012 channels ss → stood ≡ entries_of_1012 channels (ss ++ s ∷ [])
  put-again ss s is_new stood e not_new is = is ∙ sym (entries-unused ss s (sym (ap not (slots-any ss s.slot)) ∙ sym e ∙ not_new))

  -- its slot gives no entries
  pub put-none : (ss : List GlonassSatellite) (s : GlonassSatellite) (is_new : Bool) (stood : List SignalEntry) → is_new ≡ not (list_any (λ m. nat_eq m s.slot) (map (λ t. t.slot) ss))
      → is_new ≡ true → index_in Glonass s.slot ≡ None → stood ≡ entries_of_1012 channels ss → stood ≡ entries_of_1012 channels (ss ++ s ∷ [])
  put-none ss s is_new stood e is_first none is =
      is ∙ sym (entries-used ss s (sym (ap not (slots-any ss s.slot)) ∙ sym e ∙ is_first)
      ∙ ap (λ (o : Option ℕ). entries_of_1012 channels ss ++ glonass_entries s (glonass_channel channels s) o) none ∙ append-nil (entries_of_1012 channels ss))

  -- its entries are put
  pub put-new : (ss : List GlonassSatellite) (s : GlonassSatellite) (is_new : Bool) (index : ℕ) (channel : Option ℤ) (stood found : List SignalEntry)
      → is_new ≡ not (list_any (λ m. nat_eq m s.slot) (map (λ t. t.slot) ss)) → is_new ≡ true → index_in Glonass s.slot ≡ Some index → channel ≡ glonass_channel channels s
      → found ≡ stood ++ glonass_entries s channel (Some index) → stood ≡ entries_of_1012 channels ss → found ≡ entries_of_1012 channels (ss ++ s ∷ [])
  put-new ss s is_new index channel stood found e is_first some of put is =
      put ∙ ap (λ (es : List SignalEntry). es ++ glonass_entries s channel (Some index)) is
      ∙ ap (λ (k : Option ℤ). entries_of_1012 channels ss ++ glonass_entries s k (Some index)) of
      ∙ ap (λ (o : Option ℕ). entries_of_1012 channels ss ++ glonass_entries s (glonass_channel channels s) o) (sym some)
      ∙ sym (entries-used ss s (sym (ap not (slots-any ss s.slot)) ∙ sym e ∙ is_first))

  -- no satellite came yet
  pub none-yet : [] ≡ entries_of_1012 channels []
  unfolding first_of_slots
  none-yet = refl

-- the marks after one satellite more
pub seen-map : (seen : List Bool) (ss : List GlonassSatellite) (s : GlonassSatellite) → HasSeenNumbers seen (map (λ t. t.slot) ss ++ s.slot ∷ []) → HasSeenNumbers seen (map (λ t. t.slot) (ss ++ s ∷ []))
seen-map seen ss s h = rw (map-append (λ (t : GlonassSatellite). t.slot) ss (s ∷ [])) h

-- ---- slots that give entries

slot-is : (bit : ℕ) → is_taken Glonass bit ≡ true → IsSlot bit
slot-is bit h = grind (arith, nat_tests)

slot-if : (b : Bool) (bit i : ℕ) → is_taken Glonass bit ≡ b → cond b (Some (32 + bit)) None ≡ Some i → IsSlot bit
slot-if true bit i e h = slot-is bit e
slot-if false bit i e h = absurd cc

pub slot-of_index : (bit i : ℕ) → index_in Glonass bit ≡ Some i → IsSlot bit
slot-of_index bit i h = slot-if (is_taken Glonass bit) bit i refl h

-- ---- widths

fields_by_recursion : (ss : List GlonassSatellite) → FieldsFit (flat_map satellite_table ss) → AllByRecursion HasGlonassWidths ss
fields_by_recursion [] h = tt
fields_by_recursion (s ∷ ss) h = (
  record {
    slot = h.0;
    l1_range = h.1.1.1.0;
    modulus_ambiguity = h.1.1.1.1.1.1.0;
    l1_lock_indicator = h.1.1.1.1.1.0;
    l2_lock_indicator = h.1.1.1.1.1.1.1.1.1.1.1.0;
    l1_cnr = h.1.1.1.1.1.1.1.0;
    l2_cnr = h.1.1.1.1.1.1.1.1.1.1.1.1.0;
  },
  fields_by_recursion ss h.1.1.1.1.1.1.1.1.1.1.1.1.1,
)

pub widths-by_recursion : (m : Obs1012) → IsValid m → AllByRecursion HasGlonassWidths m.satellites
widths-by_recursion m h = fields_by_recursion m.satellites h.fields_fit.1.1.1.1.1.1

pub widths_of_1012 : (m : Obs1012) → IsValid m → All HasGlonassWidths m.satellites
widths_of_1012 m h = All-from_recursion HasGlonassWidths m.satellites (widths-by_recursion m h)

-- two entries one after another
pub two-more : (xs : List SignalEntry) (a b : SignalEntry) → (xs ++ a ∷ []) ++ b ∷ [] ≡ xs ++ a ∷ b ∷ []
two-more xs a b = append_assoc xs (a ∷ []) (b ∷ [])

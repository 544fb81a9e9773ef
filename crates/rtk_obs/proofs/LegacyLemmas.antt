-- The cells of a 1004: one entry more, the widths of the fields, and the ranges of the values.
use Rattle.std.proofs.Common.{◌≡◌, ℕ, zero, suc, get_or, ◌*◌, ◌<◌, [], ◌∷◌, ◌++◌, List, Some, None, refl, sym, ◌∙◌, ap, arith, true, false, Bool, nat_eq, not, ◌||◌, ◌&&◌, cond, append_assoc}
use Rattle.std.specs.Prelude.{filter, IfSome}
use Rattle.std.specs.List.{list_any, flat_map, All, AllByRecursion}
use Rattle.std.proofs.lemmas.List.{append-nil}
use Rattle.std.proofs.lemmas.List.Concat.{flat_map-append}
use Rattle.std.proofs.lemmas.List.Elements.{filter-append, All-from_recursion, recursion_from_All}
use Rattle.std.proofs.lemmas.Bool.Decides.{nat_tests}
use Rattle.rtk_message.specs.declared.obs1004.Satellite.{Satellite}
use Rattle.rtk_message.specs.Fields.{FieldsFit}
use Rattle.rtk_message.specs.Obs1004.{satellite_table, IsValid}
use Rattle.rtk_message.specs.declared.obs1004.Obs1004.{Obs1004}
use Rattle.rtk_obs.specs.declared.cell.CellEntry.{CellEntry}
use Rattle.rtk_obs.specs.declared.code.Code.{Code}
use Rattle.rtk_obs.specs.declared.legacy_cells.TheConstants.{L2_CODES}
use Rattle.rtk_obs.specs.Cell.{is_satellite, entry_of, IsSatellite, IsStrength, IsInRange}
use Rattle.rtk_obs.specs.Scaling.{strength_of}
use Rattle.rtk_obs.specs.LegacyCells.{first_entries, has_number, satellite_entries, cells_of_1004, l1_code_of, l2_code_of, l1_cell_of, l2_cell_of}
use Rattle.rtk_obs.specs.CellsLeft.{HasLegacyWidths}

-- ---- the first entry of a satellite

-- the entry itself, if no entry of its satellite stands among these
abbrev pub fresh : List Satellite → Satellite → List Satellite
fresh ss s = cond (list_any (has_number s.satellite) ss) [] (s ∷ [])

kept : (a b : Bool) (p : Satellite → Bool) (s : Satellite) → p s ≡ not a → filter p (cond b [] (s ∷ [])) ≡ cond (a || b) [] (s ∷ [])
kept true true p s e = refl
kept true false p s e = rw e refl
kept false true p s e = refl
kept false false p s e = rw e refl

either_way : (m n : ℕ) → nat_eq m n ≡ nat_eq n m
either_way m n = grind (arith, nat_tests)

fresh-step : (x : Satellite) (xs : List Satellite) (s : Satellite) → filter (λ t. not (has_number x.satellite t)) (fresh xs s) ≡ fresh (x ∷ xs) s
fresh-step x xs s =
    kept (nat_eq x.satellite s.satellite) (list_any (has_number s.satellite) xs) (λ t. not (has_number x.satellite t)) s (ap not (either_way s.satellite x.satellite))

pub entries-snoc : (ss : List Satellite) (s : Satellite) → first_entries (ss ++ s ∷ []) ≡ first_entries ss ++ fresh ss s
unfolding first_entries
entries-snoc [] s = refl
entries-snoc (x ∷ xs) s = rw (entries-snoc xs s, filter-append (λ (t : Satellite). not (has_number x.satellite t)) (first_entries xs) (fresh xs s), fresh-step x xs s) refl

cells-snoc : (ss : List Satellite) (s : Satellite)
    → cells_of_1004 (ss ++ s ∷ []) ≡ cells_of_1004 ss ++ flat_map satellite_entries (filter (λ (t : Satellite). is_satellite t.satellite) (fresh ss s))
cells-snoc ss s =
    rw (
      entries-snoc ss s,
      filter-append (λ (t : Satellite). is_satellite t.satellite) (first_entries ss) (fresh ss s),
      flat_map-append satellite_entries (filter (λ (t : Satellite). is_satellite t.satellite) (first_entries ss)) (filter (λ (t : Satellite). is_satellite t.satellite) (fresh ss s)),
    )
    refl

chosen : (s : Satellite) (a b : Bool) → is_satellite s.satellite ≡ a → (a && not b) ≡ true
    → flat_map satellite_entries (filter (λ (t : Satellite). is_satellite t.satellite) (cond b [] (s ∷ []))) ≡ satellite_entries s
chosen s true false e h = rw e refl
chosen s true true e h = cc
chosen s false b e h = cc

left_out : (s : Satellite) (a b : Bool) → is_satellite s.satellite ≡ a → (a && not b) ≡ false
    → flat_map satellite_entries (filter (λ (t : Satellite). is_satellite t.satellite) (cond b [] (s ∷ []))) ≡ []
left_out s true false e h = cc
left_out s a true e h = refl
left_out s false false e h = rw e refl

pub cells-used : (ss : List Satellite) (s : Satellite) → (is_satellite s.satellite && not (list_any (has_number s.satellite) ss)) ≡ true
    → cells_of_1004 (ss ++ s ∷ []) ≡ (cells_of_1004 ss ++ entry_of s.satellite (l1_code_of s.l1_code) (l1_cell_of s) ∷ []) ++ entry_of s.satellite (l2_code_of s.l2_code) (l2_cell_of s) ∷ []
cells-used ss s h =
    cells-snoc ss s
    ∙ (ap (λ (es : List CellEntry). cells_of_1004 ss ++ es) (chosen s (is_satellite s.satellite) (list_any (has_number s.satellite) ss) refl h)
    ∙ sym (append_assoc (cells_of_1004 ss) (entry_of s.satellite (l1_code_of s.l1_code) (l1_cell_of s) ∷ []) (entry_of s.satellite (l2_code_of s.l2_code) (l2_cell_of s) ∷ [])))

pub cells-unused : (ss : List Satellite) (s : Satellite) → (is_satellite s.satellite && not (list_any (has_number s.satellite) ss)) ≡ false
    → cells_of_1004 (ss ++ s ∷ []) ≡ cells_of_1004 ss
cells-unused ss s h =
    cells-snoc ss s
    ∙ (ap (λ (es : List CellEntry). cells_of_1004 ss ++ es) (left_out s (is_satellite s.satellite) (list_any (has_number s.satellite) ss) refl h)
    ∙ append-nil (cells_of_1004 ss))

-- ---- codes

pub l2-code : (n : ℕ) (d : Code) → n < 4 → get_or L2_CODES n d ≡ l2_code_of n
l2-code zero d h = refl
l2-code (suc zero) d h = refl
l2-code (suc (suc zero)) d h = refl
l2-code (suc (suc (suc zero))) d h = refl
l2-code (suc (suc (suc (suc n)))) d h = absurd (omega arith)

-- ---- widths

fields_by_recursion : (ss : List Satellite) → FieldsFit (flat_map satellite_table ss) → AllByRecursion HasLegacyWidths ss
fields_by_recursion [] h = tt
fields_by_recursion (s ∷ ss) h = (
  record {
    l1_range = h.1.1.0;
    l1_lock_indicator = h.1.1.1.1.0;
    l2_lock_indicator = h.1.1.1.1.1.1.1.1.1.1.0;
    l1_cnr = h.1.1.1.1.1.1.0;
    l2_code = h.1.1.1.1.1.1.1.0;
    l2_cnr = h.1.1.1.1.1.1.1.1.1.1.1.0;
  },
  fields_by_recursion ss h.1.1.1.1.1.1.1.1.1.1.1.1,
)

pub fields_of_valid : (m : Obs1004) → IsValid m → All HasLegacyWidths m.satellites
fields_of_valid m h = All-from_recursion HasLegacyWidths m.satellites (fields_by_recursion m.satellites h.fields_fit.1.1.1.1.1.1)

-- ---- ranges

strength_if : (b : Bool) (n : ℕ) → nat_eq n 0 ≡ b → n < 256 → IfSome (cond b None (Some (250 * n))) IsStrength
strength_if true n e h = tt
strength_if false n e h = record { least = grind (arith, nat_tests); greatest = omega arith; step = omega arith }

pub strength_in_range : (n : ℕ) → n < 256 → IfSome (strength_of 250 n) IsStrength
strength_in_range n h = strength_if (nat_eq n 0) n refl h

satellite_in_range : (n : ℕ) → is_satellite n ≡ true → IsSatellite n
satellite_in_range n h = grind (arith, nat_tests)

in_range_if : (b : Bool) (s : Satellite) (rest : List Satellite) → is_satellite s.satellite ≡ b → HasLegacyWidths s
    → AllByRecursion IsInRange (flat_map satellite_entries rest)
    → AllByRecursion IsInRange (flat_map satellite_entries (cond b (s ∷ rest) rest))
in_range_if true s rest e h a = (
  record { satellite = satellite_in_range s.satellite e; strength = strength_in_range s.l1_cnr h.l1_cnr },
  (record { satellite = satellite_in_range s.satellite e; strength = strength_in_range s.l2_cnr h.l2_cnr }, a),
)
in_range_if false s rest e h a = a

used_in_range : (ss : List Satellite) → AllByRecursion HasLegacyWidths ss → AllByRecursion IsInRange (flat_map satellite_entries (filter (λ (t : Satellite). is_satellite t.satellite) ss))
used_in_range [] h = tt
used_in_range (s ∷ ss) h = in_range_if (is_satellite s.satellite) s (filter (λ (t : Satellite). is_satellite t.satellite) ss) refl h.0 (used_in_range ss h.1)

kept_if : (b : Bool) (s : Satellite) (rest : List Satellite) → HasLegacyWidths s → AllByRecursion HasLegacyWidths rest → AllByRecursion HasLegacyWidths (cond b (s ∷ rest) rest)
kept_if true s rest h a = (h, a)
kept_if false s rest h a = a

kept_fields : (p : Satellite → Bool) (ss : List Satellite) → AllByRecursion HasLegacyWidths ss → AllByRecursion HasLegacyWidths (filter p ss)
kept_fields p [] h = tt
kept_fields p (s ∷ ss) h = kept_if (p s) s (filter p ss) h.0 (kept_fields p ss h.1)

first_fields : (ss : List Satellite) → AllByRecursion HasLegacyWidths ss → AllByRecursion HasLegacyWidths (first_entries ss)
unfolding first_entries
first_fields [] h = tt
first_fields (s ∷ ss) h = (h.0, kept_fields (λ (t : Satellite). not (has_number s.satellite t)) (first_entries ss) (first_fields ss h.1))

pub cells_in_range-1004 : (ss : List Satellite) → All HasLegacyWidths ss → All IsInRange (cells_of_1004 ss)
cells_in_range-1004 ss h = All-from_recursion IsInRange (cells_of_1004 ss) (used_in_range (first_entries ss) (first_fields ss (recursion_from_All HasLegacyWidths ss h)))

pub cells_of_valid : (m : Obs1004) → IsValid m → All IsInRange (cells_of_1004 m.satellites)
cells_of_valid m h = cells_in_range-1004 m.satellites (fields_of_valid m h)

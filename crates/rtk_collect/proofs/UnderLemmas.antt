-- The cell under a key, after cells join: the earlier one.
use Rattle.std.proofs.Common.{◌≡◌, ℕ, List, [], ◌∷◌, Option, None, Some, refl, ap, sym, ◌∙◌, inl, inr}
use Rattle.std.proofs.lemmas.Bool.{cases_order, cases_eq, eq-eqb, ne_eqb}
use Rattle.rtk_collect.specs.Key.{key, KeysRise}
use Rattle.rtk_collect.specs.EpochSet.{with_cell, with_cells, cell_under}
use Rattle.rtk_collect.specs.Laws.{earlier}
use Rattle.rtk_collect.proofs.CellsLemmas.{with_cell-new, with_cell-past, with_cell-same, with_cell-rises, with_cell-keeps}
use Rattle.rtk_collect.specs.Entries.{Entries}

-- the earlier of cells

pub earlier-none : {E : Type 0} (o : Option E) → earlier o None ≡ o
earlier-none None = refl
earlier-none (Some x) = refl

pub earlier-assoc : {E : Type 0} (a b c : Option E) → earlier (earlier a b) c ≡ earlier a (earlier b c)
earlier-assoc None b c = refl
earlier-assoc (Some x) b c = refl

-- a cell joins cells

under-absent : {E S : Type 0} (es : Entries E S) (k : ℕ) (c : E) (xs : List E) → cell_under es k xs ≡ None → cell_under es k (with_cell es c xs) ≡ cell_under es k (c ∷ [])
under-absent es k c [] h = refl
under-absent es k c (x ∷ xs) h = elim (cases_eq k (key es x)) [
  | inl here ↦ let q = rw (eq-eqb k (key es x) here) at h in cc
  | inr other ↦ elim (cases_order (key es c) (key es x)) [
    | inl same ↦ rw (with_cell-same es c x xs same, ne_eqb k (key es c) (λ q. other (q ∙ same))) h
    | inr more ↦ elim more [
      | inl new ↦ rw (with_cell-new es c x xs new) (elim (cases_eq k (key es c)) [
        | inl there ↦ rw (eq-eqb k (key es c) there) refl
        | inr away ↦ rw (ne_eqb k (key es c) away) h
      ])
      | inr past ↦ rw (with_cell-past es c x xs past, ne_eqb k (key es x) other) (under-absent es k c xs (rw (ne_eqb k (key es x) other) at h))
    ]
  ]
]

under-by : {E S : Type 0} (es : Entries E S) (k : ℕ) (c : E) (xs : List E) (o : Option E) → KeysRise es xs → cell_under es k xs ≡ o → cell_under es k (with_cell es c xs) ≡ earlier o (cell_under es k (c ∷ []))
under-by es k c xs None r h = under-absent es k c xs h
under-by es k c xs (Some v) r h = with_cell-keeps es k c v xs r h

under-first : {E S : Type 0} (es : Entries E S) (k : ℕ) (c : E) (more : List E) → earlier (cell_under es k (c ∷ [])) (cell_under es k more) ≡ cell_under es k (c ∷ more)
under-first es k c more = elim (cases_eq k (key es c)) [
  | inl here ↦ rw (eq-eqb k (key es c) here) refl
  | inr other ↦ rw (ne_eqb k (key es c) other) refl
]

pub under-with_cells : {E S : Type 0} (es : Entries E S) (k : ℕ) (cs held : List E) → KeysRise es held → cell_under es k (with_cells es cs held) ≡ earlier (cell_under es k held) (cell_under es k cs)
under-with_cells es k [] held r = sym (earlier-none (cell_under es k held))
under-with_cells es k (c ∷ more) held r =
    under-with_cells es k more (with_cell es c held) (with_cell-rises es c held r)
    ∙ ap (λ o. earlier o (cell_under es k more)) (under-by es k c held (cell_under es k held) r refl)
    ∙ earlier-assoc (cell_under es k held) (cell_under es k (c ∷ [])) (cell_under es k more)
    ∙ ap (earlier (cell_under es k held)) (under-first es k c more)

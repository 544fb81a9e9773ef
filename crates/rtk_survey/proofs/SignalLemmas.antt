-- Marks of the satellites and codes that have a value.
use Rattle.std.proofs.Common.{◌≡◌, ◌≢◌, ◌<◌, ◌≤◌, ◌+◌, ℕ, zero, suc, Bool, true, false, List, [], ◌∷◌, ◌++◌, ◌||◌, length, set, take, get_or, inl, inr, refl, sym, ap, ◌∙◌, get_or-set_same, get_or-set_other, arith}
use Rattle.std.proofs.lemmas.Bool.{cases_eq}
use Rattle.std.specs.List.{list_any}
use Rattle.std.proofs.lemmas.List.Folds.{list_any-append, list_any_more}
use Rattle.rtk_obs.specs.declared.cell.CellEntry.{CellEntry}
use Rattle.rtk_survey.specs.Contents.{HasCodes, HasSignals}
use Rattle.rtk_survey.specs.Tracing.{gives_satellite, gives_place}
use Rattle.rtk_survey.specs.declared.signals.Codes.{Codes}
use Rattle.rtk_survey.specs.declared.signals.Signals.{Signals}

-- where no mark is set each is false
pub unmarked : (marks : List Bool) (n : ℕ) → list_any (λ b. b) marks ≡ false → get_or marks n false ≡ false
unmarked [] zero none = refl
unmarked [] (suc n) none = refl
unmarked (false ∷ marks) zero none = refl
unmarked (false ∷ marks) (suc n) none = unmarked marks n none
unmarked (true ∷ marks) n none = cc

or-moved : (a b c : Bool) → ((a || b) || c) ≡ (b || (a || c))
or-moved true true c = refl
or-moved true false c = refl
or-moved false true c = refl
or-moved false false c = refl

-- the order of entries does not matter to a test of any
pub any-more : {X : Type 0} (test : X → Bool) (xs es : List X) (i : ℕ) (d : X) → i < length xs
    → list_any test (take (i + 1) xs ++ es) ≡ list_any test (get_or xs i d ∷ (take i xs ++ es))
any-more {X} test xs es i d within =
    list_any-append test (take (i + 1) xs) es ∙ ap (λ b. b || list_any test es) (list_any_more test xs i d within)
    ∙ or-moved (list_any test (take i xs)) (test (get_or xs i d)) (list_any test es)
    ∙ ap (λ b. test (get_or xs i d) || b) (sym (list_any-append test (take i xs) es))

pub codes-more : (c : Codes) (xs es : List CellEntry) (i : ℕ) (d : CellEntry) → i < length xs
    → HasCodes c (get_or xs i d ∷ (take i xs ++ es)) → HasCodes c (take (i + 1) xs ++ es)
codes-more c xs es i d within stands = record {
  size = stands.size;
  marks = λ n lt. stands.marks n lt ∙ sym (any-more (gives_place n) xs es i d within);
}

pub entries-more : (s : Signals) (xs es : List CellEntry) (i : ℕ) (d : CellEntry) → i < length xs
    → HasSignals s (get_or xs i d ∷ (take i xs ++ es)) → HasSignals s (take (i + 1) xs ++ es)
entries-more s xs es i d within stands = record {
  satellites_size = stands.satellites_size;
  satellites = λ n lt. stands.satellites n lt ∙ sym (any-more (gives_satellite n) xs es i d within);
  codes = codes-more s.codes xs es i d within stands.codes;
}

or-swapped : (a b : Bool) → (a || b) ≡ (b || a)
or-swapped true true = refl
or-swapped true false = refl
or-swapped false true = refl
or-swapped false false = refl

-- marks into which those of other cells are put, as far as a place, at one place more
pub joined-more : (old more now : List Bool) (k : ℕ) → k < length now
    → ((n : ℕ) → n < k → get_or now n false ≡ (get_or more n false || get_or old n false))
    → ((n : ℕ) → k ≤ n → get_or now n false ≡ get_or old n false)
    → (n : ℕ) → n < k + 1 → get_or (set now k (get_or now k false || get_or more k false)) n false ≡ (get_or more n false || get_or old n false)
joined-more old more now k within joined left n lt =
    let mark : Bool = get_or now k false || get_or more k false in
    elim (cases_eq n k) [
      | inl same ↦
          ap (λ (m : ℕ). get_or (set now k mark) m false) same ∙ get_or-set_same now k mark false within
          ∙ ap (λ (b : Bool). b || get_or more k false) (left k (omega arith)) ∙ or-swapped (get_or old k false) (get_or more k false)
          ∙ ap (λ (m : ℕ). get_or more m false || get_or old m false) (sym same)
      | inr other ↦ get_or-set_other now k n mark false other ∙ joined n (omega (arith, lt, other))
    ]

pub left-more : (old now : List Bool) (k : ℕ) (mark : Bool) → ((n : ℕ) → k ≤ n → get_or now n false ≡ get_or old n false)
    → (n : ℕ) → k + 1 ≤ n → get_or (set now k mark) n false ≡ get_or old n false
left-more old now k mark left n above =
    let other : n ≢ k = λ same. absurd (omega (arith, same, above)) in
    get_or-set_other now k n mark false other ∙ left n (omega (arith, above))

-- The phases of a station, cell by cell.
use Rattle.std.proofs.Common.{◌≡◌, ◌≢◌, ◌<◌, ◌+◌, ◌&&◌, ◌||◌, ℕ, Bool, true, false, cond, List, [], ◌∷◌, ◌++◌, length, set, take, get_or, replicate, is_some, inl, inr, refl, sym, ap, ◌∙◌, get_or-set_same, get_or-set_other, ne_eqb, arith}
use Rattle.std.proofs.lemmas.Bool.{cases_eq, eq-eqb}
use Rattle.std.proofs.lemmas.List.{length-set, get_or-replicate, take_more}
use Rattle.std.proofs.lemmas.List.Folds.{list_any-append, list_any_more}
use Rattle.std.proofs.lemmas.List.Sums.{sum_by-cons, sum_by-append}
use Rattle.std.specs.List.{list_any, count_by}
use Rattle.rtk_obs.specs.declared.cell.CellEntry.{CellEntry}
use Rattle.rtk_survey.specs.Counting.{shown_count, count_of}
use Rattle.rtk_survey.specs.Proposal.{entry_has_value}
use Rattle.rtk_survey.specs.Contents.{one_if}
use Rattle.rtk_survey.specs.Tracing.{has_value}
use Rattle.rtk_survey.specs.Phases.{place_in_table, is_at, gives_value_at, gives_phase_at, phase_count, CountsPlaces, CountsPhases}
use Rattle.rtk_survey.specs.declared.phases.PhaseCount.{PhaseCount}
use Rattle.rtk_survey.proofs.FreshLemmas.{as-many}

abbrev pub counted : Bool → ℕ → PhaseCount
counted value phases = record { has_value = value; phases = phases }

count-cons : (test : CellEntry → Bool) (e : CellEntry) (es : List CellEntry) → count_by test (e ∷ es) ≡ cond (test e) 1 0 + count_by test es
count-cons test e es = sum_by-cons (λ (x : CellEntry). cond (test x) 1 0) e es

count-append : (test : CellEntry → Bool) (xs es : List CellEntry) → count_by test (xs ++ es) ≡ count_by test xs + count_by test es
count-append test xs es = sum_by-append (λ (x : CellEntry). cond (test x) 1 0) xs es

and-true : (b : Bool) → (b && true) ≡ b
and-true true = refl
and-true false = refl

and-false : (b : Bool) → (b && false) ≡ false
and-false true = refl
and-false false = refl

-- the cell of a place counts there
pub count-own : (n : ℕ) (e : CellEntry) (es : List CellEntry) (old : PhaseCount) (value : Bool) (phases : ℕ) → n ≡ place_in_table e.satellite e.code → old ≡ phase_count n es
    → value ≡ (has_value e.cell || old.has_value) → phases ≡ shown_count (old.phases + one_if (is_some e.cell.phase_millicycles)) → counted value phases ≡ phase_count n (e ∷ es)
count-own n e es old value phases same stands valued more =
    let here : is_at n e ≡ true = eq-eqb (place_in_table e.satellite e.code) n (sym same) in
    let phase : Bool = is_some e.cell.phase_millicycles in
    let k : ℕ = count_by (gives_phase_at n) es in
    let value_is : gives_value_at n e ≡ has_value e.cell = ap (λ (b : Bool). has_value e.cell && b) here ∙ and-true (has_value e.cell) in
    let phase_is : gives_phase_at n e ≡ phase = ap (λ (b : Bool). phase && b) here ∙ and-true phase in
    let any : Bool = list_any (gives_value_at n) es in
    let a : value ≡ (gives_value_at n e || any) = valued ∙ ap (λ (o : PhaseCount). has_value e.cell || o.has_value) stands ∙ ap (λ (b : Bool). b || any) (sym value_is) in
    let shown : shown_count (shown_count k + one_if phase) ≡ shown_count (one_if phase + k) = omega arith in
    let b : phases ≡ count_of (gives_phase_at n) (e ∷ es) = more ∙ ap (λ (o : PhaseCount). shown_count (o.phases + one_if phase)) stands ∙ shown
    ∙ ap (λ (t : Bool). shown_count (one_if t + k)) (sym phase_is) ∙ ap shown_count (sym (count-cons (gives_phase_at n) e es)) in
    ap (λ (v : Bool). counted v phases) a ∙ ap (λ (p : ℕ). counted (gives_value_at n e || any) p) b

-- a cell that does not count
count-none : (n : ℕ) (e : CellEntry) (es : List CellEntry) → gives_value_at n e ≡ false → gives_phase_at n e ≡ false → phase_count n (e ∷ es) ≡ phase_count n es
count-none n e es value_is phase_is =
    let k : ℕ = count_by (gives_phase_at n) es in
    let any : Bool = list_any (gives_value_at n) es in
    let none : shown_count (cond false 1 0 + k) ≡ shown_count k = omega arith in
    let b : count_of (gives_phase_at n) (e ∷ es) ≡ shown_count k = ap shown_count (count-cons (gives_phase_at n) e es) ∙ ap (λ (t : Bool). shown_count (cond t 1 0 + k)) phase_is ∙ none in
    ap (λ (v : Bool). counted (v || any) (count_of (gives_phase_at n) (e ∷ es))) value_is ∙ ap (λ (p : ℕ). counted any p) b

-- no cell of another place counts
count-same : (n : ℕ) (e : CellEntry) (es : List CellEntry) → n ≢ place_in_table e.satellite e.code → phase_count n (e ∷ es) ≡ phase_count n es
count-same n e es other =
    let differs : is_at n e ≡ false = ne_eqb (place_in_table e.satellite e.code) n (λ same. other (sym same)) in
    let phase : Bool = is_some e.cell.phase_millicycles in
    count-none n e es (ap (λ (b : Bool). has_value e.cell && b) differs ∙ and-false (has_value e.cell)) (ap (λ (b : Bool). phase && b) differs ∙ and-false phase)

-- ---- cells without a value

neither : (a b c : Bool) → (a || (b || c)) ≡ false → b ≡ false
neither false false c is = refl
neither false true c is = cc
neither true b c is = cc

left-of : (a b : Bool) → (a || b) ≡ false → a ≡ false
left-of false b is = refl
left-of true b is = cc

right-of : (a b : Bool) → (a || b) ≡ false → b ≡ false
right-of false b is = is
right-of true b is = cc

count-bare : (n : ℕ) (e : CellEntry) (es : List CellEntry) → has_value e.cell ≡ false → phase_count n (e ∷ es) ≡ phase_count n es
count-bare n e es bare =
    let no_phase : is_some e.cell.phase_millicycles ≡ false = neither (is_some e.cell.range_mm) (is_some e.cell.phase_millicycles) (is_some e.cell.strength_millidbhz) bare in
    count-none n e es (ap (λ (b : Bool). b && is_at n e) bare) (ap (λ (b : Bool). b && is_at n e) no_phase)

none-counts : (xs es : List CellEntry) (n : ℕ) → list_any entry_has_value xs ≡ false → phase_count n (xs ++ es) ≡ phase_count n es
none-counts [] es n bare = refl
none-counts (x ∷ xs) es n bare =
    count-bare n x (xs ++ es) (left-of (entry_has_value x) (list_any entry_has_value xs) bare)
    ∙ none-counts xs es n (right-of (entry_has_value x) (list_any entry_has_value xs) bare)

values-bare : (table : List PhaseCount) (xs es : List CellEntry) → list_any entry_has_value xs ≡ false → CountsPlaces table es → CountsPlaces table (xs ++ es)
values-bare table [] es bare counts = counts
values-bare table (x ∷ xs) es bare counts =
    let rest : CountsPlaces table (xs ++ es) = values-bare table xs es (right-of (entry_has_value x) (list_any entry_has_value xs) bare) counts in
    record {
      size = rest.size;
      counts = λ n none lt. rest.counts n none lt ∙ sym (count-bare n x (xs ++ es) (left-of (entry_has_value x) (list_any entry_has_value xs) bare));
    }

-- ---- tables

pub there : (table : List PhaseCount) (es : List CellEntry) → (length table ≡ 0 → ⊥) → CountsPhases table es → CountsPlaces table es
there [] es some counts = absurd (some refl)
there (x ∷ xs) es some counts = counts

pub is-there : (table : List PhaseCount) (es : List CellEntry) → CountsPlaces table es → CountsPhases table es
is-there [] es counts = absurd (omega (arith, counts.size))
is-there (x ∷ xs) es counts = counts

pub no-table : (table : List PhaseCount) → table ≡ [] → CountsPhases table []
no-table [] none = λ n. refl
no-table (x ∷ xs) none = cc

-- a table more in which nothing came
pub table-made : (old new : List PhaseCount) (es : List CellEntry) (nothing : PhaseCount) → length old ≡ 0 → new ≡ replicate 528 nothing → ((n : ℕ) → nothing ≡ phase_count n [])
    → CountsPhases old es → CountsPlaces new es
table-made [] new es nothing none are nothing_is counts = record {
  size = as-many new 528 nothing are;
  counts = λ n d lt.
      let within : n < 528 = omega (arith, lt, as-many new 528 nothing are) in
      ap (λ ys. get_or ys n d) are ∙ get_or-replicate 528 n nothing d within ∙ nothing_is 0 ∙ sym (counts n);
}
table-made (x ∷ xs) new es nothing none are nothing_is counts = absurd (omega (arith, none))

pub valueless : (table : List PhaseCount) (xs es : List CellEntry) → list_any entry_has_value xs ≡ false → CountsPhases table es → CountsPhases table (xs ++ es)
valueless [] xs es bare counts = λ n. none-counts xs es n bare ∙ counts n
valueless (t ∷ ts) xs es bare counts = values-bare (t ∷ ts) xs es bare counts

-- the place of a cell took it
pub table-more : (table : List PhaseCount) (e : CellEntry) (es : List CellEntry) (place : ℕ) (new : PhaseCount) → place ≡ place_in_table e.satellite e.code → place < length table
    → CountsPlaces table es → new ≡ phase_count place (e ∷ es) → CountsPlaces (set table place new) (e ∷ es)
table-more table e es place new is within stands took = record {
  size = length-set table place new ∙ stands.size;
  counts = λ n none lt.
      let inside : n < length table = omega (arith, lt, length-set table place new) in
      elim (cases_eq n place) [
        | inl same ↦
            ap (λ (k : ℕ). get_or (set table place new) k none) same ∙ get_or-set_same table place new none within
            ∙ took ∙ ap (λ (k : ℕ). phase_count k (e ∷ es)) (sym same)
        | inr other ↦
            get_or-set_other table place n new none other ∙ stands.counts n none inside ∙ sym (count-same n e es (λ q. other (q ∙ sym is)))
      ];
}

-- a cell without a place
pub table-passed : (table : List PhaseCount) (e : CellEntry) (es : List CellEntry) (place : ℕ) → place ≡ place_in_table e.satellite e.code → (place < length table → ⊥)
    → CountsPlaces table es → CountsPlaces table (e ∷ es)
table-passed table e es place is outside stands = record {
  size = stands.size;
  counts = λ n none lt. stands.counts n none lt ∙ sym (count-same n e es (λ same. outside (omega (arith, lt, same, is))));
}

-- the order of cells does not matter
or-moved : (a b c : Bool) → ((a || b) || c) ≡ (b || (a || c))
or-moved true true c = refl
or-moved true false c = refl
or-moved false true c = refl
or-moved false false c = refl

any-moved : (test : CellEntry → Bool) (xs es : List CellEntry) (i : ℕ) (d : CellEntry) → i < length xs
    → list_any test (take (i + 1) xs ++ es) ≡ list_any test (get_or xs i d ∷ (take i xs ++ es))
any-moved test xs es i d within =
    list_any-append test (take (i + 1) xs) es ∙ ap (λ b. b || list_any test es) (list_any_more test xs i d within)
    ∙ or-moved (list_any test (take i xs)) (test (get_or xs i d)) (list_any test es)
    ∙ ap (λ b. test (get_or xs i d) || b) (sym (list_any-append test (take i xs) es))

count-moved : (test : CellEntry → Bool) (xs es : List CellEntry) (i : ℕ) (d : CellEntry) → i < length xs
    → count_of test (take (i + 1) xs ++ es) ≡ count_of test (get_or xs i d ∷ (take i xs ++ es))
count-moved test xs es i d within =
    let x : CellEntry = get_or xs i d in
    let before : List CellEntry = take i xs in
    let more : count_by test (take (i + 1) xs) ≡ count_by test (before ++ x ∷ []) = ap (λ (t : List CellEntry). count_by test t) (take_more xs i d within) in
    let last : count_by test (before ++ x ∷ []) ≡ count_by test before + count_by test (x ∷ []) = count-append test before (x ∷ []) in
    let alone : count_by test (x ∷ []) ≡ cond (test x) 1 0 + count_by test [] = count-cons test x [] in
    let nil : count_by test [] ≡ 0 = refl in
    let left : count_by test (take (i + 1) xs ++ es) ≡ count_by test (take (i + 1) xs) + count_by test es = count-append test (take (i + 1) xs) es in
    let right : count_by test (x ∷ (before ++ es)) ≡ cond (test x) 1 0 + count_by test (before ++ es) = count-cons test x (before ++ es) in
    let rest : count_by test (before ++ es) ≡ count_by test before + count_by test es = count-append test before es in
    ap shown_count (omega (arith, more, last, alone, nil, left, right, rest))

pub table-moved : (table : List PhaseCount) (xs es : List CellEntry) (i : ℕ) (d : CellEntry) → i < length xs
    → CountsPlaces table (get_or xs i d ∷ (take i xs ++ es)) → CountsPlaces table (take (i + 1) xs ++ es)
table-moved table xs es i d within stands = record {
  size = stands.size;
  counts = λ n none lt.
      let all : List CellEntry = take (i + 1) xs ++ es in
      let moved : List CellEntry = get_or xs i d ∷ (take i xs ++ es) in
      stands.counts n none lt
      ∙ ap (λ (v : Bool). counted v (count_of (gives_phase_at n) moved)) (sym (any-moved (gives_value_at n) xs es i d within))
      ∙ ap (λ (p : ℕ). counted (list_any (gives_value_at n) all) p) (sym (count-moved (gives_phase_at n) xs es i d within));
}

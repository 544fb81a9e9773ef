-- The phases of other systems than GPS, cell by cell and message by message.
use Rattle.std.proofs.Common.{◌≡◌, ◌≢◌, ◌<◌, ◌+◌, ◌==◌, ◌&&◌, ◌||◌, ℕ, Bool, true, false, cond, List, [], ◌∷◌, ◌++◌, Option, None, Some, length, set, take, get_or, replicate, is_some, inl, inr, refl, sym, ap, subst, ◌∙◌, get_or-set_same, get_or-set_other, ne_eqb, arith}
use Rattle.std.specs.Prelude.{filter, unwrap_or}
use Rattle.std.specs.BTreeMap.{BTreeMap, get, is_at, Updates}
use Rattle.std.specs.List.{list_any, count_by}
use Rattle.std.specs.Map.{lookup}
use Rattle.std.specs.Ordering.{nat_cmp}
use Rattle.std.proofs.lemmas.Bool.{cases_Bool, cases_eq, eq-eqb, eqb-true}
use Rattle.std.proofs.lemmas.List.{length-set, get_or-replicate, take_more}
use Rattle.std.proofs.lemmas.List.Folds.{list_any-append, list_any_more}
use Rattle.std.proofs.lemmas.List.Sums.{sum_by-cons, sum_by-append}
use Rattle.rtk_message.specs.declared.any_message.AnyMessage.{AnyMessage}
use Rattle.rtk_message.specs.AnyDecoded.{number_of, station_of}
use Rattle.rtk_obs.specs.declared.signal_cells.SignalEntry.{SignalEntry}
use Rattle.rtk_survey.specs.BesideGps.{cells_beside, cells_beside_gps}
use Rattle.rtk_survey.specs.Counting.{shown_count, count_of}
use Rattle.rtk_survey.specs.Contents.{one_if}
use Rattle.rtk_survey.specs.ReadFrames.{messages_from}
use Rattle.rtk_survey.specs.SystemPhases.{place_of_phase, is_at_place, signal_value_at, signal_phase_at, signal_phase_count, CountsSignalPlaces, CountsSignalPhases, table_of_phases, HasPhaseTables, cells_station, HasPhasesOf, HasSystemPhases}
use Rattle.rtk_survey.specs.Tracing.{is_numbered, has_value}
use Rattle.rtk_survey.specs.declared.phases.PhaseCount.{PhaseCount}
use Rattle.rtk_survey.specs.declared.system_phases.PhaseTable.{PhaseTable}
use Rattle.rtk_survey.specs.declared.system_phases.SystemPhases.{SystemPhases}
use Rattle.rtk_survey.proofs.FreshLemmas.{as-many}
use Rattle.rtk_survey.proofs.MapLemmas.{put-one}
use Rattle.rtk_survey.proofs.StationLemmas.{own-message, other-message}

abbrev pub counted : Bool → ℕ → PhaseCount
counted value phases = record { has_value = value; phases = phases }

count-cons : (test : SignalEntry → Bool) (e : SignalEntry) (es : List SignalEntry) → count_by test (e ∷ es) ≡ cond (test e) 1 0 + count_by test es
count-cons test e es = sum_by-cons (λ (x : SignalEntry). cond (test x) 1 0) e es

count-append : (test : SignalEntry → Bool) (xs es : List SignalEntry) → count_by test (xs ++ es) ≡ count_by test xs + count_by test es
count-append test xs es = sum_by-append (λ (x : SignalEntry). cond (test x) 1 0) xs es

and-true : (b : Bool) → (b && true) ≡ b
and-true true = refl
and-true false = refl

and-false : (b : Bool) → (b && false) ≡ false
and-false true = refl
and-false false = refl

-- the cell of a place counts there
pub count-own : (n : ℕ) (e : SignalEntry) (es : List SignalEntry) (old : PhaseCount) (value : Bool) (phases : ℕ) → n ≡ place_of_phase e.satellite e.code → old ≡ signal_phase_count n es
    → value ≡ (has_value e.cell || old.has_value) → phases ≡ shown_count (old.phases + one_if (is_some e.cell.phase_millicycles)) → counted value phases ≡ signal_phase_count n (e ∷ es)
count-own n e es old value phases same stands valued more =
    let here : is_at_place n e ≡ true = eq-eqb (place_of_phase e.satellite e.code) n (sym same) in
    let phase : Bool = is_some e.cell.phase_millicycles in
    let k : ℕ = count_by (signal_phase_at n) es in
    let value_is : signal_value_at n e ≡ has_value e.cell = ap (λ (b : Bool). has_value e.cell && b) here ∙ and-true (has_value e.cell) in
    let phase_is : signal_phase_at n e ≡ phase = ap (λ (b : Bool). phase && b) here ∙ and-true phase in
    let any : Bool = list_any (signal_value_at n) es in
    let a : value ≡ (signal_value_at n e || any) = valued ∙ ap (λ (o : PhaseCount). has_value e.cell || o.has_value) stands ∙ ap (λ (b : Bool). b || any) (sym value_is) in
    let shown : shown_count (shown_count k + one_if phase) ≡ shown_count (one_if phase + k) = omega arith in
    let b : phases ≡ count_of (signal_phase_at n) (e ∷ es) = more ∙ ap (λ (o : PhaseCount). shown_count (o.phases + one_if phase)) stands ∙ shown
    ∙ ap (λ (t : Bool). shown_count (one_if t + k)) (sym phase_is) ∙ ap shown_count (sym (count-cons (signal_phase_at n) e es)) in
    ap (λ (v : Bool). counted v phases) a ∙ ap (λ (p : ℕ). counted (signal_value_at n e || any) p) b

-- a cell that does not count
count-none : (n : ℕ) (e : SignalEntry) (es : List SignalEntry) → signal_value_at n e ≡ false → signal_phase_at n e ≡ false → signal_phase_count n (e ∷ es) ≡ signal_phase_count n es
count-none n e es value_is phase_is =
    let k : ℕ = count_by (signal_phase_at n) es in
    let any : Bool = list_any (signal_value_at n) es in
    let none : shown_count (cond false 1 0 + k) ≡ shown_count k = omega arith in
    let b : count_of (signal_phase_at n) (e ∷ es) ≡ shown_count k = ap shown_count (count-cons (signal_phase_at n) e es) ∙ ap (λ (t : Bool). shown_count (cond t 1 0 + k)) phase_is ∙ none in
    ap (λ (v : Bool). counted (v || any) (count_of (signal_phase_at n) (e ∷ es))) value_is ∙ ap (λ (p : ℕ). counted any p) b

-- no cell of another place counts
count-same : (n : ℕ) (e : SignalEntry) (es : List SignalEntry) → n ≢ place_of_phase e.satellite e.code → signal_phase_count n (e ∷ es) ≡ signal_phase_count n es
count-same n e es other =
    let differs : is_at_place n e ≡ false = ne_eqb (place_of_phase e.satellite e.code) n (λ same. other (sym same)) in
    let phase : Bool = is_some e.cell.phase_millicycles in
    count-none n e es (ap (λ (b : Bool). has_value e.cell && b) differs ∙ and-false (has_value e.cell)) (ap (λ (b : Bool). phase && b) differs ∙ and-false phase)

-- ---- tables

pub there : (table : List PhaseCount) (es : List SignalEntry) → (length table ≡ 0 → ⊥) → CountsSignalPhases table es → CountsSignalPlaces table es
there [] es some counts = absurd (some refl)
there (x ∷ xs) es some counts = counts

pub is-there : (table : List PhaseCount) (es : List SignalEntry) → CountsSignalPlaces table es → CountsSignalPhases table es
is-there [] es counts = absurd (omega (arith, counts.size))
is-there (x ∷ xs) es counts = counts

pub no-table : (table : List PhaseCount) → table ≡ [] → CountsSignalPhases table []
no-table [] none = λ n. refl
no-table (x ∷ xs) none = cc

-- a table more in which nothing came
pub table-made : (old new : List PhaseCount) (es : List SignalEntry) (nothing : PhaseCount) → length old ≡ 0 → new ≡ replicate 1024 nothing → ((n : ℕ) → nothing ≡ signal_phase_count n [])
    → CountsSignalPhases old es → CountsSignalPlaces new es
table-made [] new es nothing none are nothing_is counts = record {
  size = as-many new 1024 nothing are;
  counts = λ n d lt.
      let within : n < 1024 = omega (arith, lt, as-many new 1024 nothing are) in
      ap (λ ys. get_or ys n d) are ∙ get_or-replicate 1024 n nothing d within ∙ nothing_is 0 ∙ sym (counts n);
}
table-made (x ∷ xs) new es nothing none are nothing_is counts = absurd (omega (arith, none))

-- the place of a cell took it
pub table-more : (table : List PhaseCount) (e : SignalEntry) (es : List SignalEntry) (place : ℕ) (new : PhaseCount) → place ≡ place_of_phase e.satellite e.code → place < length table
    → CountsSignalPlaces table es → new ≡ signal_phase_count place (e ∷ es) → CountsSignalPlaces (set table place new) (e ∷ es)
table-more table e es place new is within stands took = record {
  size = length-set table place new ∙ stands.size;
  counts = λ n none lt.
      let inside : n < length table = omega (arith, lt, length-set table place new) in
      elim (cases_eq n place) [
        | inl same ↦
            ap (λ (k : ℕ). get_or (set table place new) k none) same ∙ get_or-set_same table place new none within
            ∙ took ∙ ap (λ (k : ℕ). signal_phase_count k (e ∷ es)) (sym same)
        | inr other ↦
            get_or-set_other table place n new none other ∙ stands.counts n none inside ∙ sym (count-same n e es (λ q. other (q ∙ sym is)))
      ];
}

-- a cell without a place
pub table-passed : (table : List PhaseCount) (e : SignalEntry) (es : List SignalEntry) (place : ℕ) → place ≡ place_of_phase e.satellite e.code → (place < length table → ⊥)
    → CountsSignalPlaces table es → CountsSignalPlaces table (e ∷ es)
table-passed table e es place is outside stands = record {
  size = stands.size;
  counts = λ n none lt. stands.counts n none lt ∙ sym (count-same n e es (λ same. outside (omega (arith, lt, same, is))));
}

-- the order of cells does not matter
or-moved : (a b c : Bool) → ((a || b) || c) ≡ (b || (a || c))
or-moved true true c = refl
or-moved true false c = refl
or-moved false true c = refl
or-moved false false c = refl

any-moved : (test : SignalEntry → Bool) (xs es : List SignalEntry) (i : ℕ) (d : SignalEntry) → i < length xs
    → list_any test (take (i + 1) xs ++ es) ≡ list_any test (get_or xs i d ∷ (take i xs ++ es))
any-moved test xs es i d within =
    list_any-append test (take (i + 1) xs) es ∙ ap (λ b. b || list_any test es) (list_any_more test xs i d within)
    ∙ or-moved (list_any test (take i xs)) (test (get_or xs i d)) (list_any test es)
    ∙ ap (λ b. test (get_or xs i d) || b) (sym (list_any-append test (take i xs) es))

count-moved : (test : SignalEntry → Bool) (xs es : List SignalEntry) (i : ℕ) (d : SignalEntry) → i < length xs
    → count_of test (take (i + 1) xs ++ es) ≡ count_of test (get_or xs i d ∷ (take i xs ++ es))
count-moved test xs es i d within =
    let x : SignalEntry = get_or xs i d in
    let before : List SignalEntry = take i xs in
    let more : count_by test (take (i + 1) xs) ≡ count_by test (before ++ x ∷ []) = ap (λ (t : List SignalEntry). count_by test t) (take_more xs i d within) in
    let last : count_by test (before ++ x ∷ []) ≡ count_by test before + count_by test (x ∷ []) = count-append test before (x ∷ []) in
    let alone : count_by test (x ∷ []) ≡ cond (test x) 1 0 + count_by test [] = count-cons test x [] in
    let nil : count_by test [] ≡ 0 = refl in
    let left : count_by test (take (i + 1) xs ++ es) ≡ count_by test (take (i + 1) xs) + count_by test es = count-append test (take (i + 1) xs) es in
    let right : count_by test (x ∷ (before ++ es)) ≡ cond (test x) 1 0 + count_by test (before ++ es) = count-cons test x (before ++ es) in
    let rest : count_by test (before ++ es) ≡ count_by test before + count_by test es = count-append test before es in
    ap shown_count (omega (arith, more, last, alone, nil, left, right, rest))

pub table-moved : (table : List PhaseCount) (xs es : List SignalEntry) (i : ℕ) (d : SignalEntry) → i < length xs
    → CountsSignalPlaces table (get_or xs i d ∷ (take i xs ++ es)) → CountsSignalPlaces table (take (i + 1) xs ++ es)
table-moved table xs es i d within stands = record {
  size = stands.size;
  counts = λ n none lt.
      let all : List SignalEntry = take (i + 1) xs ++ es in
      let moved : List SignalEntry = get_or xs i d ∷ (take i xs ++ es) in
      stands.counts n none lt
      ∙ ap (λ (v : Bool). counted v (count_of (signal_phase_at n) moved)) (sym (any-moved (signal_value_at n) xs es i d within))
      ∙ ap (λ (p : ℕ). counted (list_any (signal_value_at n) all) p) (sym (count-moved (signal_phase_at n) xs es i d within));
}

-- ---- messages of a number

numbered-cells : (number : ℕ) (m : AnyMessage) (ms : List AnyMessage) → is_numbered number m ≡ true → cells_beside (filter (is_numbered number) (m ∷ ms)) ≡ cells_beside_gps m ++ cells_beside (filter (is_numbered number) ms)
numbered-cells number m ms holds = ap (λ (b : Bool). cells_beside (cond b (m ∷ filter (is_numbered number) ms) (filter (is_numbered number) ms))) holds

other-cells : (number : ℕ) (m : AnyMessage) (ms : List AnyMessage) → is_numbered number m ≡ false → cells_beside (filter (is_numbered number) (m ∷ ms)) ≡ cells_beside (filter (is_numbered number) ms)
other-cells number m ms fails = ap (λ (b : Bool). cells_beside (cond b (m ∷ filter (is_numbered number) ms) (filter (is_numbered number) ms))) fails

same-cells : (number : ℕ) (m : AnyMessage) (ms : List AnyMessage) → cells_beside_gps m ≡ [] → cells_beside (filter (is_numbered number) (m ∷ ms)) ≡ cells_beside (filter (is_numbered number) ms)
same-cells number m ms none = elim (cases_Bool (is_numbered number m)) [
  | inl holds ↦ numbered-cells number m ms holds ∙ ap (λ (es : List SignalEntry). es ++ cells_beside (filter (is_numbered number) ms)) none
  | inr fails ↦ other-cells number m ms fails
]

-- ---- tables by number

table-or-new : (o : Option PhaseTable) (fresh : PhaseTable) → fresh.counts.items ≡ [] → (unwrap_or o fresh).counts.items ≡ table_of_phases o
table-or-new None fresh empty = empty
table-or-new (Some t) fresh empty = refl

module _ (tables tables' : BTreeMap ℕ PhaseTable) (old new fresh : PhaseTable) (ms : List AnyMessage) where
  pub phases-more : (x : AnyMessage) (k : ℕ) → k ≡ number_of x → old ≡ unwrap_or (get nat_cmp tables k) fresh → fresh.counts.items ≡ [] → Updates nat_cmp tables tables' k (Some new)
      → ((es : List SignalEntry) → CountsSignalPhases old.counts.items es → CountsSignalPhases new.counts.items (cells_beside_gps x ++ es))
      → HasPhaseTables tables ms → HasPhaseTables tables' (x ∷ ms)
  phases-more x k is was empty puts takes all =
      let yes : is_numbered k x ≡ true = eq-eqb (number_of x) k (sym is) in
      let before : old.counts.items ≡ table_of_phases (get nat_cmp tables k) = ap (λ (t : PhaseTable). t.counts.items) was ∙ table-or-new (get nat_cmp tables k) fresh empty in
      put-one (λ n o. CountsSignalPhases (table_of_phases o) (cells_beside (filter (is_numbered n) ms))) (λ n o. CountsSignalPhases (table_of_phases o) (cells_beside (filter (is_numbered n) (x ∷ ms)))) tables tables' k new puts
      (subst (λ (es : List SignalEntry). CountsSignalPhases new.counts.items es) (sym (numbered-cells k x ms yes))
      (takes (cells_beside (filter (is_numbered k) ms)) (subst (λ (t : List PhaseCount). CountsSignalPhases t (cells_beside (filter (is_numbered k) ms))) (sym before) (all k))))
      (λ n other has. subst (λ (es : List SignalEntry). CountsSignalPhases (table_of_phases (get nat_cmp tables n)) es)
      (sym (other-cells n x ms (ne_eqb (number_of x) n (λ same. other (sym same ∙ sym is))))) has)
      all

tables-bare : (tables : BTreeMap ℕ PhaseTable) (m : AnyMessage) (ms : List AnyMessage) → cells_beside_gps m ≡ [] → HasPhaseTables tables ms → HasPhaseTables tables (m ∷ ms)
tables-bare tables m ms none has = λ n.
    subst (λ (es : List SignalEntry). CountsSignalPhases (table_of_phases (get nat_cmp tables n)) es) (sym (same-cells n m ms none)) (has n)

no-tables : (tables : BTreeMap ℕ PhaseTable) → tables.entries ≡ [] → HasPhaseTables tables []
no-tables tables empty = λ n.
    subst (λ (entries : List (ℕ × PhaseTable)). CountsSignalPhases (table_of_phases (lookup (is_at (nat_cmp n)) entries)) (cells_beside (filter (is_numbered n) []))) (sym empty) (λ place. refl)

-- ---- the station that is known

no-phases-yet-of : (tables : BTreeMap ℕ PhaseTable) (station : Option ℕ) → tables.entries ≡ [] → HasPhasesOf tables station []
no-phases-yet-of tables None empty = λ n. no-tables tables empty
no-phases-yet-of tables (Some n) empty = no-tables tables empty

pub no-phases-yet : (p : SystemPhases) (named : Option ℕ) → p.station ≡ named → p.tables.entries ≡ [] → HasSystemPhases named [] p
no-phases-yet p named station empty = record { station = station; tables = no-phases-yet-of p.tables p.station empty }

-- one message of a station more without a cell
bare-of : (tables : BTreeMap ℕ PhaseTable) (n : ℕ) (m : AnyMessage) (ms : List AnyMessage) → cells_beside_gps m ≡ [] → HasPhaseTables tables (messages_from n ms) → HasPhaseTables tables (messages_from n (m ∷ ms))
bare-of tables n m ms none has = elim (cases_eq n (station_of m)) [
  | inl same ↦ subst (λ (xs : List AnyMessage). HasPhaseTables tables xs) (sym (own-message n m ms same)) (tables-bare tables m (messages_from n ms) none has)
  | inr other ↦ subst (λ (xs : List AnyMessage). HasPhaseTables tables xs) (sym (other-message n m ms other)) has
]

bare-of-known : (tables : BTreeMap ℕ PhaseTable) (station : Option ℕ) (m : AnyMessage) (ms : List AnyMessage) → cells_beside_gps m ≡ [] → HasPhasesOf tables station ms → HasPhasesOf tables station (m ∷ ms)
bare-of-known tables None m ms none has = λ n. bare-of tables n m ms none (has n)
bare-of-known tables (Some n) m ms none has = bare-of tables n m ms none has

nil-of : (es : List SignalEntry) → (length es == 0) ≡ true → es ≡ []
nil-of [] none = refl
nil-of (e ∷ es) none = absurd (omega (arith, eqb-true (length (e ∷ es)) 0 none))

-- a message without a cell
pub phases-bare : (p : SystemPhases) (named : Option ℕ) (m : AnyMessage) (ms : List AnyMessage) → (length (cells_beside_gps m) == 0) ≡ true → HasSystemPhases named ms p → HasSystemPhases named (m ∷ ms) p
phases-bare p named m ms none is = record {
  station = is.station ∙ sym (ap (λ (b : Bool). cond b (cells_station named ms) (Some (unwrap_or (cells_station named ms) (station_of m)))) none);
  tables = bare-of-known p.tables p.station m ms (nil-of (cells_beside_gps m) none) is.tables;
}

-- the tables before a message are those of the station that is known after it
of-known : (tables : BTreeMap ℕ PhaseTable) (before : Option ℕ) (m : AnyMessage) (ms : List AnyMessage) → HasPhasesOf tables before ms
    → HasPhaseTables tables (messages_from (unwrap_or before (station_of m)) ms)
of-known tables None m ms has = has (station_of m)
of-known tables (Some n) m ms has = has

-- the station that is known after a message with a cell
known-after : (p : SystemPhases) (named : Option ℕ) (m : AnyMessage) (ms : List AnyMessage) → (length (cells_beside_gps m) == 0) ≡ false → p.station ≡ cells_station named ms
    → Some (unwrap_or p.station (station_of m)) ≡ cells_station named (m ∷ ms)
known-after p named m ms some is =
    ap (λ (o : Option ℕ). Some (unwrap_or o (station_of m))) is
    ∙ sym (ap (λ (b : Bool). cond b (cells_station named ms) (Some (unwrap_or (cells_station named ms) (station_of m)))) some)

abbrev pub with_tables : ℕ → BTreeMap ℕ PhaseTable → SystemPhases
with_tables station tables = record { station = Some station; tables = tables }

-- a message with a cell, of the station that is known
pub phases-own : (p : SystemPhases) (tables : BTreeMap ℕ PhaseTable) (named : Option ℕ) (m : AnyMessage) (ms : List AnyMessage) (known : ℕ) → (length (cells_beside_gps m) == 0) ≡ false
    → known ≡ unwrap_or p.station (station_of m) → known ≡ station_of m → ((xs : List AnyMessage) → HasPhaseTables p.tables xs → HasPhaseTables tables (m ∷ xs))
    → HasSystemPhases named ms p → HasSystemPhases named (m ∷ ms) (with_tables known tables)
phases-own p tables named m ms known some is same takes has = record {
  station = ap Some is ∙ known-after p named m ms some has.station;
  tables = subst (λ (xs : List AnyMessage). HasPhaseTables tables xs) (sym (own-message known m ms same))
      (takes (messages_from known ms) (subst (λ (n : ℕ). HasPhaseTables p.tables (messages_from n ms)) (sym is) (of-known p.tables p.station m ms has.tables)));
}

-- and of another one
pub phases-other : (p : SystemPhases) (named : Option ℕ) (m : AnyMessage) (ms : List AnyMessage) (known : ℕ) → (length (cells_beside_gps m) == 0) ≡ false
    → known ≡ unwrap_or p.station (station_of m) → known ≢ station_of m → HasSystemPhases named ms p → HasSystemPhases named (m ∷ ms) (with_tables known p.tables)
phases-other p named m ms known some is other has = record {
  station = ap Some is ∙ known-after p named m ms some has.station;
  tables = subst (λ (xs : List AnyMessage). HasPhaseTables p.tables xs) (sym (other-message known m ms other))
      (subst (λ (n : ℕ). HasPhaseTables p.tables (messages_from n ms)) (sym is) (of-known p.tables p.station m ms has.tables));
}

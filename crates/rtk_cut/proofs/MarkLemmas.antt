-- Marks, code by code and row by row.
use Rattle.std.proofs.Common.{◌≡◌, ◌<◌, ◌≤◌, ◌+◌, ◌*◌, ℕ, Bool, true, false, not, ◌&&◌, ◌||◌, eqb, ltb, inl, inr, List, [], ◌∷◌, ◌++◌, map, length, get_or, take, replicate, refl, sym, ap, ◌∙◌, arith}
use Rattle.std.specs.Prelude.{All, is_some}
use Rattle.std.specs.List.{range_with_len, list_any}
use Rattle.std.proofs.lemmas.Bool.{cases_eq, eq-eqb, ne_eqb, eqb-true, eqb-false, lt-ltb, le-ltb, ltb-false, and_from, and_left, and_right}
use Rattle.std.proofs.lemmas.Bool.Decides.{nat_tests}
use Rattle.std.proofs.lemmas.List.{take_more, map-append, get_or-replicate, get_or-take, get_or_default, length-take-le, length-replicate, ext_get_or}
use Rattle.std.proofs.lemmas.List.Elements.{All-map, All-same}
use Rattle.std.proofs.lemmas.List.Folds.{list_any_more}
use Rattle.std.proofs.lemmas.List.FromFn.{fill_by_all, length-map-range_with_len}
use Rattle.rtk_rinex.specs.declared.epoch_table.Observed.{Observed}
use Rattle.rtk_rinex.specs.declared.epoch_table.SatelliteRow.{SatelliteRow}
use Rattle.rtk_rinex.specs.Record.{IsSatelliteRow, HasWidth, no_observation}
use Rattle.rtk_cut.specs.Cut.{code_at, with_slip}
use Rattle.rtk_cut.specs.Steps.Pending.{mark_of, HasMarks, MarksBecome, StandsForNone, row_has_slip, row_has_phase, codes_with_marks, row_with_marks}
use Rattle.rtk_cut.proofs.TestLemmas.{or-moved, and-nothing, map-agree_below}
use Rattle.rtk_cut.proofs.CodeLemmas.{HasStrength, codes-strong, code-past, with_slip-strength}
use Rattle.rtk_cut.proofs.RowLemmas.{Rise, none-before}

-- each place is of one satellite and one code
pub place-same : (a b c d : ℕ) → b < 16 → d < 16 → eqb (16 * a + b) (16 * c + d) ≡ (eqb a c && eqb b d)
place-same a b c d lt lt' = elim (cases_eq a c) [
  | inl same ↦ elim (cases_eq b d) [
    | inl also ↦ eq-eqb (16 * a + b) (16 * c + d) (omega (arith, same, also)) ∙ sym (and_from (eqb a c) (eqb b d) (eq-eqb a c same) (eq-eqb b d also))
    | inr differ ↦ ne_eqb (16 * a + b) (16 * c + d) (λ e. differ (omega (arith, e, same))) ∙ sym (and_right (eqb a c) (eqb b d) (ne_eqb b d differ))
  ]
  | inr differ ↦ ne_eqb (16 * a + b) (16 * c + d) (λ e. differ (omega (arith, e, lt, lt'))) ∙ sym (and_left (eqb a c) (eqb b d) (ne_eqb a c differ))
]

-- ---- a row off the step

one-noted : (a slip old : Bool) → ((slip && (a && true)) || ((a && (false && slip)) || old)) ≡ ((a && (true && slip)) || old)
one-noted true true old = refl
one-noted true false old = refl
one-noted false true old = refl
one-noted false false old = refl

other-noted : (a slip rest : Bool) → ((slip && (a && false)) || rest) ≡ rest
other-noted true true rest = refl
other-noted true false rest = refl
other-noted false true rest = refl
other-noted false false rest = refl

note-at : (is a slip slip' l l' old : Bool) → (is ≡ true → (slip ≡ slip') × (l ≡ false) × (l' ≡ true)) → (is ≡ false → l' ≡ l)
    → ((slip && (a && is)) || ((a && (l && slip')) || old)) ≡ ((a && (l' && slip')) || old)
note-at true a slip slip' l l' old same other =
    let h = same refl in rw (h.0, h.1, h.2) (one-noted a slip' old)
note-at false a slip slip' l l' old same other =
    rw (other refl) (other-noted a slip ((a && (l && slip')) || old))

below-same : (i c : ℕ) → eqb i c ≡ true → (ltb c i ≡ false) × (ltb c (i + 1) ≡ true)
below-same i c is = let same = eqb-true i c is in (le-ltb c i (omega (arith, same)), lt-ltb c (i + 1) (omega (arith, same)))

below-other : (i c : ℕ) → eqb i c ≡ false → ltb c (i + 1) ≡ ltb c i
below-other i c is = let differ = eqb-false i c is in grind (arith, nat_tests)

pub note-none : (r : SatelliteRow) (marks : List Bool) → MarksBecome marks (λ s c. (eqb r.satellite s && (ltb c 0 && (code_at c r).slip)) || mark_of marks s c)
note-none r marks = λ s c satellite code.
    sym (ap (λ b. (eqb r.satellite s && (b && (code_at c r).slip)) || mark_of marks s c) (le-ltb c 0 (omega arith))
    ∙ ap (λ b. b || mark_of marks s c) (and-nothing (eqb r.satellite s)))

pub note-more : (r : SatelliteRow) (old marks marks' : List Bool) (i : ℕ) → i < 16 → length marks' ≡ length marks
    → MarksBecome marks (λ s c. (eqb r.satellite s && (ltb c i && (code_at c r).slip)) || mark_of old s c)
    → ((n : ℕ) → n < length marks → get_or marks' n false ≡ (((code_at i r).slip && eqb (16 * r.satellite + i) n) || get_or marks n false))
    → MarksBecome marks' (λ s c. (eqb r.satellite s && (ltb c (i + 1) && (code_at c r).slip)) || mark_of old s c)
note-more r old marks marks' i small size so_far marked = λ s c satellite code.
    let has : HasMarks marks s = omega (arith, size, satellite) in
    let within : 16 * s + c < length marks = omega (arith, has, code) in
    marked (16 * s + c) within
    ∙ ap (λ b. ((code_at i r).slip && b) || mark_of marks s c) (place-same r.satellite i s c small code)
    ∙ ap (λ b. ((code_at i r).slip && (eqb r.satellite s && eqb i c)) || b) (so_far s c has code)
    ∙ note-at (eqb i c) (eqb r.satellite s) (code_at i r).slip (code_at c r).slip (ltb c i) (ltb c (i + 1)) (mark_of old s c)
    (λ is. let below = below-same i c is in (ap (λ (k : ℕ). (code_at k r).slip) (eqb-true i c is), below.0, below.1)) (below-other i c)

all-below : (i c : ℕ) (r : SatelliteRow) (b : Bool) → ltb c i ≡ b → length r.observed.items ≤ i → (b && (code_at c r).slip) ≡ (code_at c r).slip
all-below i c r true is past = refl
all-below i c r false is past =
    let beyond : length r.observed.items ≤ c = omega (arith, past, ltb-false c i is) in
    ap (λ (o : Observed). o.slip) (sym (code-past c r beyond))

pub note-all : (r : SatelliteRow) (old marks : List Bool) (i : ℕ) → length r.observed.items ≤ i
    → MarksBecome marks (λ s c. (eqb r.satellite s && (ltb c i && (code_at c r).slip)) || mark_of old s c)
    → MarksBecome marks (λ s c. row_has_slip s c r || mark_of old s c)
note-all r old marks i past so_far = λ s c satellite code.
    so_far s c satellite code ∙ ap (λ b. (eqb r.satellite s && b) || mark_of old s c) (all-below i c r (ltb c i) refl past)

pub rows-noted : (rows : List SatelliteRow) (i : ℕ) (d : SatelliteRow) (old marks marks' : List Bool) → i < length rows → length marks' ≡ length marks
    → MarksBecome marks (λ s c. list_any (row_has_slip s c) (take i rows) || mark_of old s c) → MarksBecome marks' (λ s c. row_has_slip s c (get_or rows i d) || mark_of marks s c)
    → MarksBecome marks' (λ s c. list_any (row_has_slip s c) (take (i + 1) rows) || mark_of old s c)
rows-noted rows i d old marks marks' lt size so_far marked = λ s c satellite code.
    let has : HasMarks marks s = omega (arith, size, satellite) in
    marked s c satellite code ∙ ap (λ b. row_has_slip s c (get_or rows i d) || b) (so_far s c has code)
    ∙ sym (or-moved (list_any (row_has_slip s c) (take i rows)) (row_has_slip s c (get_or rows i d)) (mark_of old s c))
    ∙ ap (λ b. b || mark_of old s c) (sym (list_any_more (row_has_slip s c) rows i d lt))

-- ---- a row on the step

one-cleared : (a phase old : Bool) → (not (phase && (a && true)) && (not ((a && phase) && false) && old)) ≡ (not ((a && phase) && true) && old)
one-cleared true true old = refl
one-cleared true false old = refl
one-cleared false true old = refl
one-cleared false false old = refl

other-cleared : (a phase rest : Bool) → (not (phase && (a && false)) && rest) ≡ rest
other-cleared true true rest = refl
other-cleared true false rest = refl
other-cleared false true rest = refl
other-cleared false false rest = refl

clear-at : (is a phase phase' l l' old : Bool) → (is ≡ true → (phase ≡ phase') × (l ≡ false) × (l' ≡ true)) → (is ≡ false → l' ≡ l)
    → (not (phase && (a && is)) && (not ((a && phase') && l) && old)) ≡ (not ((a && phase') && l') && old)
clear-at true a phase phase' l l' old same other =
    let h = same refl in rw (h.0, h.1, h.2) (one-cleared a phase' old)
clear-at false a phase phase' l l' old same other =
    rw (other refl) (other-cleared a phase (not ((a && phase') && l) && old))

pub clear-none : (r : SatelliteRow) (marks : List Bool) → MarksBecome marks (λ s c. not (row_has_phase s c r && ltb c 0) && mark_of marks s c)
clear-none r marks = λ s c satellite code.
    sym (ap (λ b. not (row_has_phase s c r && b) && mark_of marks s c) (le-ltb c 0 (omega arith))
    ∙ ap (λ b. not b && mark_of marks s c) (and-nothing (row_has_phase s c r)))

pub clear-more : (r : SatelliteRow) (old marks marks' : List Bool) (i : ℕ) → i < 16 → length marks' ≡ length marks
    → MarksBecome marks (λ s c. not (row_has_phase s c r && ltb c i) && mark_of old s c)
    → ((n : ℕ) → n < length marks → get_or marks' n false ≡ (not (is_some (code_at i r).phase_millicycles && eqb (16 * r.satellite + i) n) && get_or marks n false))
    → MarksBecome marks' (λ s c. not (row_has_phase s c r && ltb c (i + 1)) && mark_of old s c)
clear-more r old marks marks' i small size so_far marked = λ s c satellite code.
    let has : HasMarks marks s = omega (arith, size, satellite) in
    let within : 16 * s + c < length marks = omega (arith, has, code) in
    marked (16 * s + c) within
    ∙ ap (λ b. not (is_some (code_at i r).phase_millicycles && b) && mark_of marks s c) (place-same r.satellite i s c small code)
    ∙ ap (λ b. not (is_some (code_at i r).phase_millicycles && (eqb r.satellite s && eqb i c)) && b) (so_far s c has code)
    ∙ clear-at (eqb i c) (eqb r.satellite s) (is_some (code_at i r).phase_millicycles) (is_some (code_at c r).phase_millicycles) (ltb c i) (ltb c (i + 1)) (mark_of old s c)
    (λ is. let below = below-same i c is in (ap (λ (k : ℕ). is_some (code_at k r).phase_millicycles) (eqb-true i c is), below.0, below.1)) (below-other i c)

-- the mark of a code that is not reached yet
pub not-reached : (r : SatelliteRow) (old marks : List Bool) (i : ℕ) → HasMarks marks r.satellite → i < 16
    → MarksBecome marks (λ s c. not (row_has_phase s c r && ltb c i) && mark_of old s c) → mark_of marks r.satellite i ≡ mark_of old r.satellite i
not-reached r old marks i low small so_far =
    so_far r.satellite i low small ∙ ap (λ b. not (row_has_phase r.satellite i r && b) && mark_of old r.satellite i) (le-ltb i i (omega arith))
    ∙ ap (λ b. not b && mark_of old r.satellite i) (and-nothing (row_has_phase r.satellite i r))

pub codes-all : (marks : List Bool) (r : SatelliteRow) (shown : List Observed)
    → ((k : ℕ) → k < length shown → get_or shown k no_observation ≡ with_slip ((code_at k r).slip || mark_of marks r.satellite k) (code_at k r))
    → shown ≡ codes_with_marks marks (length shown) r
codes-all marks r shown each =
    fill_by_all (λ c. with_slip ((code_at c r).slip || mark_of marks r.satellite c) (code_at c r)) shown (length shown) no_observation refl each

-- ---- all rows on the step

-- a row is a row of a file with any slips
pub marks-good : (marks : List Bool) (n : ℕ) (r : SatelliteRow) → IsSatelliteRow r → IsSatelliteRow (row_with_marks marks n r)
marks-good marks n r good = record {
  satellite = good.satellite;
  strengths = All-map HasStrength (λ c. with_slip ((code_at c r).slip || mark_of marks r.satellite c) (code_at c r)) (range_with_len 0 n)
      (λ k d lt. let c = get_or (range_with_len 0 n) k d in
      with_slip-strength ((code_at c r).slip || mark_of marks r.satellite c) (code_at c r) (codes-strong r.observed.items c good.strengths));
}

pub marks-width : (marks : List Bool) (n : ℕ) (rows : List SatelliteRow) → HasWidth n (map (row_with_marks marks n) rows)
marks-width marks n rows = All-map (λ (r : SatelliteRow). length r.observed.items ≡ n) (row_with_marks marks n) rows
    (λ k d lt. let r = get_or rows k d in length-map-range_with_len (λ c. with_slip ((code_at c r).slip || mark_of marks r.satellite c) (code_at c r)) 0 n)

-- the codes of a row show the same by the same marks
pub codes-same : (marks old : List Bool) (n : ℕ) (r : SatelliteRow) → ((c : ℕ) → c < n → mark_of marks r.satellite c ≡ mark_of old r.satellite c) → codes_with_marks marks n r ≡ codes_with_marks old n r
codes-same marks old n r same =
    map-agree_below (λ c. with_slip ((code_at c r).slip || mark_of marks r.satellite c) (code_at c r)) (λ c. with_slip ((code_at c r).slip || mark_of old r.satellite c) (code_at c r)) 0 n
    (λ c inside. let within : c < n = omega arith in ap (λ b. with_slip ((code_at c r).slip || b) (code_at c r)) (same c within))

-- so they do by the marks that rows before it left
pub codes-before : (old marks : List Bool) (n : ℕ) (rows : List SatelliteRow) (k : ℕ) (d : SatelliteRow) → n ≤ 16 → Rise rows → k < length rows → HasMarks marks (get_or rows k d).satellite
    → MarksBecome marks (λ s c. not (list_any (row_has_phase s c) (take k rows) && ltb c n) && mark_of old s c)
    → codes_with_marks marks n (get_or rows k d) ≡ codes_with_marks old n (get_or rows k d)
codes-before old marks n rows k d few rise lt low so_far =
    let r : SatelliteRow = get_or rows k d in
    codes-same marks old n r (λ c inside.
    let code : c < 16 = omega arith in
    so_far r.satellite c low code
    ∙ ap (λ b. not (b && ltb c n) && mark_of old r.satellite c) (none-before (λ x. is_some (code_at c x).phase_millicycles) rows k d rise lt))

or-cleared : (x y n old : Bool) → (not (y && n) && (not (x && n) && old)) ≡ (not ((x || y) && n) && old)
or-cleared true true true old = refl
or-cleared true true false old = refl
or-cleared true false true old = refl
or-cleared true false false old = refl
or-cleared false true true old = refl
or-cleared false true false old = refl
or-cleared false false true old = refl
or-cleared false false false old = refl

pub rows-cleared : (n : ℕ) (rows : List SatelliteRow) (i : ℕ) (d : SatelliteRow) (old marks marks' : List Bool) → i < length rows → length marks' ≡ length marks
    → MarksBecome marks (λ s c. not (list_any (row_has_phase s c) (take i rows) && ltb c n) && mark_of old s c)
    → MarksBecome marks' (λ s c. not (row_has_phase s c (get_or rows i d) && ltb c n) && mark_of marks s c)
    → MarksBecome marks' (λ s c. not (list_any (row_has_phase s c) (take (i + 1) rows) && ltb c n) && mark_of old s c)
rows-cleared n rows i d old marks marks' lt size so_far marked = λ s c satellite code.
    let has : HasMarks marks s = omega (arith, size, satellite) in
    marked s c satellite code ∙ ap (λ b. not (row_has_phase s c (get_or rows i d) && ltb c n) && b) (so_far s c has code)
    ∙ or-cleared (list_any (row_has_phase s c) (take i rows)) (row_has_phase s c (get_or rows i d)) (ltb c n) (mark_of old s c)
    ∙ ap (λ b. not (b && ltb c n) && mark_of old s c) (sym (list_any_more (row_has_phase s c) rows i d lt))

pub map-more : (f : SatelliteRow → SatelliteRow) (rows : List SatelliteRow) (i : ℕ) (d : SatelliteRow) → i < length rows → map f (take (i + 1) rows) ≡ map f (take i rows) ++ f (get_or rows i d) ∷ []
map-more f rows i d lt = ap (λ xs. map f xs) (take_more rows i d lt) ∙ map-append f (take i rows) (get_or rows i d ∷ [])

-- the rows that are made are below the next one
pub mapped-below : (marks : List Bool) (n : ℕ) (rows : List SatelliteRow) (k : ℕ) (r : SatelliteRow) (made : List SatelliteRow) → Rise rows → k < length rows → r ≡ get_or rows k r
    → made ≡ map (row_with_marks marks n) (take k rows) → All (λ x. x.satellite < r.satellite) made
mapped-below marks n rows k r made rise lt is are =
    All-same (λ x. x.satellite < r.satellite) made (map (row_with_marks marks n) (take k rows)) are
    (All-map (λ x. x.satellite < r.satellite) (row_with_marks marks n) (take k rows) (λ i d within.
    let long : length (take k rows) ≡ k = length-take-le k rows (omega arith) in
    let low : i < k = omega arith in
    let below : (get_or rows i r).satellite < (get_or rows k r).satellite = rise i k r low lt in
    let here : (get_or (take k rows) i d).satellite ≡ (get_or rows i r).satellite = ap (λ (x : SatelliteRow). x.satellite) (get_or-take k rows i d low ∙ get_or_default rows i d r (omega (arith, low, lt))) in
    let there : r.satellite ≡ (get_or rows k r).satellite = ap (λ (x : SatelliteRow). x.satellite) is in
    omega (arith, below, here, there)))

-- a row as it is made by the marks that rows before it left
pub row-made : (old marks : List Bool) (n : ℕ) (rows : List SatelliteRow) (k : ℕ) (r : SatelliteRow) (shown : List Observed) → n ≤ 16 → Rise rows → k < length rows → HasMarks marks r.satellite
    → r ≡ get_or rows k r → MarksBecome marks (λ s c. not (list_any (row_has_phase s c) (take k rows) && ltb c n) && mark_of old s c) → shown ≡ codes_with_marks marks n r
    → record { satellite = r.satellite; observed = record { items = shown } } ≡ row_with_marks old n (get_or rows k r)
row-made old marks n rows k r shown few rise lt low is so_far made =
    let there : (get_or rows k r).satellite ≡ r.satellite = ap (λ (x : SatelliteRow). x.satellite) (sym is) in
    let within : HasMarks marks (get_or rows k r).satellite = omega (arith, there, low) in
    ap (λ (xs : List Observed). record { satellite = r.satellite; observed = record { items = xs } }) (made ∙ ap (λ (x : SatelliteRow). codes_with_marks marks n x) is ∙ codes-before old marks n rows k r few rise lt within so_far)
    ∙ ap (λ (s : ℕ). record { satellite = s; observed = record { items = codes_with_marks old n (get_or rows k r) } }) (sym there)

-- a row of as many codes that shows its own is the row
pub row-kept : (n : ℕ) (r : SatelliteRow) (shown : List Observed) → length shown ≡ n → length r.observed.items ≡ n → ((c : ℕ) → c < n → get_or shown c no_observation ≡ code_at c r)
    → record { satellite = r.satellite; observed = record { items = shown } } ≡ r
row-kept n r shown long wide same =
    ap (λ (xs : List Observed). record { satellite = r.satellite; observed = record { items = xs } })
    (ext_get_or no_observation shown r.observed.items (long ∙ sym wide) (λ i lt. let within : i < n = omega (arith, lt, long) in same i within))

-- so are all rows
pub rows-kept : (rows : List SatelliteRow) (k : ℕ) (r row : SatelliteRow) (before after : List SatelliteRow) → k < length rows → r ≡ get_or rows k r → before ≡ take k rows → after ≡ before ++ row ∷ []
    → row ≡ r → after ≡ take (k + 1) rows
rows-kept rows k r row before after lt is so_far pushed same =
    pushed ∙ ap (λ xs. xs ++ row ∷ []) so_far ∙ ap (λ x. take k rows ++ x ∷ []) (same ∙ is) ∙ sym (take_more rows k r lt)

-- ---- at the start

pub fresh : (n : ℕ) (marks : List Bool) → marks ≡ replicate n false → StandsForNone marks
fresh n marks are = λ step s c satellite code.
    let size : length marks ≡ n = ap (λ xs. length xs) are ∙ length-replicate n false in
    let within : 16 * s + c < n = omega (arith, satellite, code, size) in
    ap (λ xs. get_or xs (16 * s + c) false) are ∙ get_or-replicate n (16 * s + c) false false within

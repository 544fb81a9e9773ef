-- The satellites of an epoch: each stands once, and a slip stands only with its phase.
use Rattle.std.proofs.Common.{◌≡◌, ◌≢◌, ◌<◌, ◌≤◌, ℕ, zero, suc, Bool, true, false, ◌&&◌, ◌||◌, eqb, ltb, List, [], ◌∷◌, length, get_or, take, refl, sym, ap, ◌∙◌, arith}
use Rattle.std.specs.Prelude.{All, AllPairs, is_some}
use Rattle.std.specs.List.{list_any}
use Rattle.std.proofs.lemmas.Bool.{ltb-false}
use Rattle.std.proofs.lemmas.List.{get_or-take, get_or_default, length-take-le}
use Rattle.std.proofs.lemmas.List.Elements.{All-head, All-tail}
use Rattle.std.proofs.lemmas.List.Folds.{list_any_none}
use Rattle.rtk_rinex.specs.declared.epoch_table.Observed.{Observed}
use Rattle.rtk_rinex.specs.declared.epoch_table.SatelliteRow.{SatelliteRow}
use Rattle.rtk_rinex.specs.Record.{HasWidth}
use Rattle.rtk_rinex.specs.Table.{IsObservedWithDoppler}
use Rattle.rtk_cut.specs.Cut.{code_at}
use Rattle.rtk_cut.specs.Steps.Pending.{row_has_slip, row_has_phase}
use Rattle.rtk_cut.proofs.TestLemmas.{differ-and, same-and, or-nothing, and-nothing, and-all, pairs-head, pairs-tail}
use Rattle.rtk_cut.proofs.CodeLemmas.{row-no_slip, code-past}

abbrev pub Rise : List SatelliteRow → Type 0
Rise rows = AllPairs (λ a b. a.satellite < b.satellite) rows

-- no satellite of the list has this number
pub none-of : (p : SatelliteRow → Bool) (s : ℕ) (rows : List SatelliteRow) → All (λ r. r.satellite ≢ s) rows → list_any (λ r. eqb r.satellite s && p r) rows ≡ false
none-of p s rows others =
    list_any_none (λ r. eqb r.satellite s && p r) rows (λ k d lt. differ-and (get_or rows k d).satellite s (p (get_or rows k d)) (others k d lt))

-- a satellite stands once
pub only-row : (p : SatelliteRow → Bool) (rows : List SatelliteRow) (k : ℕ) (d : SatelliteRow) → Rise rows → k < length rows
    → list_any (λ r. eqb r.satellite (get_or rows k d).satellite && p r) rows ≡ p (get_or rows k d)
only-row p [] k d rise lt = absurd (omega arith)
only-row p (r ∷ rows) zero d rise lt =
    let above = pairs-head (λ (a : SatelliteRow) (b : SatelliteRow). a.satellite < b.satellite) r rows rise in
    let rest : list_any (λ x. eqb x.satellite r.satellite && p x) rows ≡ false =
    none-of p r.satellite rows (λ i e within. let higher : r.satellite < (get_or rows i e).satellite = above i e within in λ same. omega (arith, higher, same)) in
    ap (λ b. (eqb r.satellite r.satellite && p r) || b) rest ∙ or-nothing (eqb r.satellite r.satellite && p r) ∙ same-and r.satellite r.satellite (p r) refl
only-row p (r ∷ rows) (suc k) d rise lt =
    let within : k < length rows = omega arith in
    let s : ℕ = (get_or rows k d).satellite in
    let higher : r.satellite < s = pairs-head (λ (a : SatelliteRow) (b : SatelliteRow). a.satellite < b.satellite) r rows rise k d within in
    let other : (eqb r.satellite s && p r) ≡ false = differ-and r.satellite s (p r) (λ same. omega (arith, higher, same)) in
    ap (λ b. b || list_any (λ x. eqb x.satellite s && p x) rows) other
    ∙ only-row p rows k d (pairs-tail (λ (a : SatelliteRow) (b : SatelliteRow). a.satellite < b.satellite) r rows rise) within

-- none of the rows before a row has its satellite
pub none-before : (p : SatelliteRow → Bool) (rows : List SatelliteRow) (k : ℕ) (d : SatelliteRow) → Rise rows → k < length rows
    → list_any (λ r. eqb r.satellite (get_or rows k d).satellite && p r) (take k rows) ≡ false
none-before p rows k d rise lt =
    let s : ℕ = (get_or rows k d).satellite in
    none-of p s (take k rows) (λ i e within.
    let long : length (take k rows) ≡ k = length-take-le k rows (omega arith) in
    let low : i < k = omega arith in
    let below : (get_or rows i e).satellite < (get_or rows k e).satellite = rise i k e low lt in
    let here : (get_or (take k rows) i e).satellite ≡ (get_or rows i e).satellite = ap (λ (r : SatelliteRow). r.satellite) (get_or-take k rows i e low) in
    let there : (get_or rows k e).satellite ≡ s = ap (λ (r : SatelliteRow). r.satellite) (get_or_default rows k e d lt) in
    λ same. omega (arith, below, here, there, same))

slip-needs-phase : (a phase slip x y : Bool) → (phase ≡ false → slip ≡ false) → (x ≡ false → y ≡ false) → ((a && phase) || x) ≡ false → ((a && slip) || y) ≡ false
slip-needs-phase true true slip x y here rest none = cc
slip-needs-phase true false slip x y here rest none = rw (here refl, rest none) refl
slip-needs-phase false phase slip x y here rest none = rest none

-- what each code of each row shows can be shown by a file
abbrev pub ShowObserved : List SatelliteRow → Type 0
ShowObserved rows = All (λ r. All IsObservedWithDoppler r.observed.items) rows

-- where no row has this phase, none has its slip
pub rows-no_slip : (s c : ℕ) (rows : List SatelliteRow) → ShowObserved rows → list_any (row_has_phase s c) rows ≡ false → list_any (row_has_slip s c) rows ≡ false
rows-no_slip s c [] good none = refl
rows-no_slip s c (r ∷ rows) good none =
    let P : SatelliteRow → Type 0 = λ x. All IsObservedWithDoppler x.observed.items in
    slip-needs-phase (eqb r.satellite s) (is_some (code_at c r).phase_millicycles) (code_at c r).slip (list_any (row_has_phase s c) rows) (list_any (row_has_slip s c) rows)
    (row-no_slip c r (All-head P r rows good)) (rows-no_slip s c rows (All-tail P r rows good)) none

-- past the last code no row has a phase
pub rows-past : (n s c : ℕ) (rows : List SatelliteRow) → HasWidth n rows → n ≤ c → list_any (row_has_phase s c) rows ≡ false
rows-past n s c rows wide past = list_any_none (row_has_phase s c) rows (λ k d lt.
    let r = get_or rows k d in
    let own : length r.observed.items ≡ n = wide k d lt in
    let beyond : length r.observed.items ≤ c = omega arith in
    ap (λ (o : Observed). eqb r.satellite s && is_some o.phase_millicycles) (code-past c r beyond) ∙ and-nothing (eqb r.satellite s))

within-if : (n s c : ℕ) (rows : List SatelliteRow) → HasWidth n rows → (b : Bool) → ltb c n ≡ b → (list_any (row_has_phase s c) rows && b) ≡ list_any (row_has_phase s c) rows
within-if n s c rows wide true is = and-all (list_any (row_has_phase s c) rows)
within-if n s c rows wide false is = and-nothing (list_any (row_has_phase s c) rows) ∙ sym (rows-past n s c rows wide (ltb-false c n is))

-- no phase stands past the last code
pub rows-within : (n s c : ℕ) (rows : List SatelliteRow) → HasWidth n rows → (list_any (row_has_phase s c) rows && ltb c n) ≡ list_any (row_has_phase s c) rows
rows-within n s c rows wide = within-if n s c rows wide (ltb c n) refl

-- What an epoch shows of a satellite and a code, and what the part shows of it.
use Rattle.std.proofs.Common.{◌≡◌, ◌<◌, ℕ, Bool, true, false, ◌&&◌, eqb, Some, inl, inr, List, [], ◌∷◌, map, length, slice_get, refl, sym, ap, subst, ◌∙◌, arith}
use Rattle.std.specs.Prelude.{All, is_some}
use Rattle.std.specs.List.{range_with_len, list_any}
use Rattle.std.proofs.lemmas.Bool.{eqb-true, eq-eqb, and_parts, and_from, both_ways, cases_lt}
use Rattle.std.proofs.lemmas.List.Folds.{Any-from_list_any, list_any-from_Any}
use Rattle.std.proofs.lemmas.List.FromFn.{length-map-range_with_len, get_or-map-range_with_len}
use Rattle.std.proofs.lemmas.Option.{slice_get_within, slice_get-get_or, get_or_from_slice_get}
use Rattle.rtk_rinex.specs.declared.epoch_table.Observed.{Observed}
use Rattle.rtk_rinex.specs.declared.epoch_table.SatelliteRow.{SatelliteRow}
use Rattle.rtk_rinex.specs.Record.{EpochTableView, no_observation}
use Rattle.rtk_rinex.specs.Table.{IsObservedWithDoppler}
use Rattle.rtk_cut.specs.Cut.{Step, code_at, has_phase_of, has_slip_of, has_slipped_since, with_slip, row_with_slips, cut_epoch}
use Rattle.rtk_cut.specs.CutLaws.{IsFileEpoch, Observes, ShowsPhase, ShowsSlip, without_slip, row_without_slips, without_slips}
use Rattle.rtk_cut.proofs.AnyLemmas.{any-weaker, any-where, any-map, any-unmap}
use Rattle.rtk_cut.proofs.CodeLemmas.{codes-good, codes-own, code-past}

-- ---- what an epoch shows, by a test that no absent observation passes

seen-row : (test : Observed → Bool) (c : ℕ) (r : SatelliteRow) → test no_observation ≡ false → test (code_at c r) ≡ true → slice_get r.observed.items c ≡ Some (code_at c r)
seen-row test c r none passed = elim (cases_lt c (length r.observed.items)) [
  | inl within ↦ slice_get-get_or r.observed.items c no_observation within
  | inr past ↦ absurd (both_ways (test (code_at c r)) (ap test (code-past c r past) ∙ none) passed)
]

seen-any : (test : Observed → Bool) (s c : ℕ) (e : EpochTableView) → test no_observation ≡ false → list_any (λ r. eqb r.satellite s && test (code_at c r)) e.rows ≡ true
    → (o : Observed) × Observes s c o e × (test o ≡ true)
seen-any test s c e none passed =
    let a = Any-from_list_any (λ (r : SatelliteRow). eqb r.satellite s && test (code_at c r)) e.rows passed in
    let r : SatelliteRow = a.1 in
    let both = and_parts (eqb r.satellite s) (test (code_at c r)) a.4 in
    (code_at c r, (a.0, r, a.2, a.3, (eqb-true r.satellite s both.0, seen-row test c r none both.1)), both.1)

any-seen : (test : Observed → Bool) (s c : ℕ) (o : Observed) (e : EpochTableView) → Observes s c o e → test o ≡ true → list_any (λ r. eqb r.satellite s && test (code_at c r)) e.rows ≡ true
any-seen test s c o e a passed =
    let r : SatelliteRow = a.1 in
    list_any-from_Any (λ (r : SatelliteRow). eqb r.satellite s && test (code_at c r)) e.rows
    (a.0, r, a.2, a.3, and_from (eqb r.satellite s) (test (code_at c r)) (eq-eqb r.satellite s a.4.0) (ap test (get_or_from_slice_get r.observed.items c o no_observation a.4.1) ∙ passed))

pub shows-phase : (s c : ℕ) (e : EpochTableView) → has_phase_of s c e ≡ true → ShowsPhase s c e
shows-phase s c e passed = seen-any (λ o. is_some o.phase_millicycles) s c e refl passed

pub phase-shown : (s c : ℕ) (e : EpochTableView) → ShowsPhase s c e → has_phase_of s c e ≡ true
phase-shown s c e shows = any-seen (λ o. is_some o.phase_millicycles) s c shows.0 e shows.1 shows.2

pub shows-slip : (s c : ℕ) (e : EpochTableView) → has_slip_of s c e ≡ true → ShowsSlip s c e
shows-slip s c e passed = seen-any (λ o. o.slip) s c e refl passed

pub slip-shown : (s c : ℕ) (e : EpochTableView) → ShowsSlip s c e → has_slip_of s c e ≡ true
slip-shown s c e shows = any-seen (λ o. o.slip) s c shows.0 e shows.1 shows.2

-- an observation of a file is good
pub observes-good : (s c : ℕ) (o : Observed) (e : EpochTableView) → IsFileEpoch e → Observes s c o e → IsObservedWithDoppler o
observes-good s c o e good a =
    let w = any-where (λ r. All IsObservedWithDoppler r.observed.items) (λ r. (r.satellite ≡ s) × (slice_get r.observed.items c ≡ Some o)) e.rows good.observed a in
    subst IsObservedWithDoppler (get_or_from_slice_get w.0.observed.items c o no_observation w.2.1) (codes-good true w.0.observed.items c w.1)

-- ---- what the part shows of it

row-shows : (slips : ℕ → Bool) (c : ℕ) (r : SatelliteRow) (o : Observed) → slice_get r.observed.items c ≡ Some o → slice_get (row_with_slips slips r).observed.items c ≡ Some (with_slip (slips c) o)
row-shows slips c r o got =
    let n : ℕ = length r.observed.items in
    let f : ℕ → Observed = λ k. with_slip (slips k) (code_at k r) in
    let within : c < n = slice_get_within r.observed.items c o got in
    let long : length (map f (range_with_len 0 n)) ≡ n = length-map-range_with_len f 0 n in
    let inside : c < length (map f (range_with_len 0 n)) = omega arith in
    slice_get-get_or (map f (range_with_len 0 n)) c no_observation inside
    ∙ ap (λ (x : Observed). Some x) (get_or-map-range_with_len f 0 n c c no_observation within (omega arith))
    ∙ ap (λ (x : Observed). Some (with_slip (slips c) x)) (get_or_from_slice_get r.observed.items c o no_observation got)

pub cut-shows : (step : Step) (s c : ℕ) (earlier : List EpochTableView) (o : Observed) (e : EpochTableView) → Observes s c o e → Observes s c (with_slip (has_slipped_since step s c e earlier) o) (cut_epoch step earlier e)
cut-shows step s c earlier o e a =
    let slipped : ℕ → ℕ → Bool = λ s c. has_slipped_since step s c e earlier in
    any-map (λ r. (r.satellite ≡ s) × (slice_get r.observed.items c ≡ Some (with_slip (slipped s c) o))) (λ (r : SatelliteRow). row_with_slips (slipped r.satellite) r) e.rows
    (any-weaker (λ r. (r.satellite ≡ s) × (slice_get r.observed.items c ≡ Some o))
    (λ r. (r.satellite ≡ s) × (slice_get (row_with_slips (slipped r.satellite) r).observed.items c ≡ Some (with_slip (slipped s c) o))) e.rows
    (λ r is. (is.0, row-shows (slipped r.satellite) c r o is.1 ∙ ap (λ (n : ℕ). Some (with_slip (slipped n c) o)) is.0)) a)

pub cut-shown : (step : Step) (s c : ℕ) (earlier : List EpochTableView) (g : Observed) (e : EpochTableView) → Observes s c g (cut_epoch step earlier e)
    → (o : Observed) × Observes s c o e × (g ≡ with_slip (has_slipped_since step s c e earlier) o)
cut-shown step s c earlier g e a =
    let slipped : ℕ → ℕ → Bool = λ s c. has_slipped_since step s c e earlier in
    let b = any-unmap (λ r. (r.satellite ≡ s) × (slice_get r.observed.items c ≡ Some g)) (λ (r : SatelliteRow). row_with_slips (slipped r.satellite) r) e.rows a in
    let r : SatelliteRow = b.1 in
    let n : ℕ = length r.observed.items in
    let f : ℕ → Observed = λ k. with_slip (slipped r.satellite k) (code_at k r) in
    let inside : c < length (map f (range_with_len 0 n)) = slice_get_within (map f (range_with_len 0 n)) c g b.4.1 in
    let long : length (map f (range_with_len 0 n)) ≡ n = length-map-range_with_len f 0 n in
    let within : c < n = omega arith in (
      code_at c r,
      (b.0, r, b.2, b.3, (b.4.0, slice_get-get_or r.observed.items c no_observation within)),
      sym (get_or_from_slice_get (map f (range_with_len 0 n)) c g no_observation b.4.1) ∙ get_or-map-range_with_len f 0 n c c no_observation within (omega arith)
          ∙ ap (λ (k : ℕ). with_slip (slipped k c) (code_at c r)) b.4.0,
    )

pub slip-with_phase : (slip : Bool) (o : Observed) → is_some o.phase_millicycles ≡ true → (with_slip slip o).slip ≡ slip
slip-with_phase slip o is = rw is refl

pub slip-without_phase : (slip : Bool) (o : Observed) → is_some o.phase_millicycles ≡ false → (with_slip slip o).slip ≡ o.slip
slip-without_phase slip o is = rw is refl

-- ---- and without slips

others-kept : (b slip : Bool) (o : Observed) → is_some o.phase_millicycles ≡ b → without_slip (with_slip slip o) ≡ without_slip o
others-kept true slip o is = rw is refl
others-kept false slip o is = rw is refl

codes-kept : (slips : ℕ → Bool) (code : ℕ → Observed) (cs : List ℕ) → map without_slip (map (λ c. with_slip (slips c) (code c)) cs) ≡ map without_slip (map code cs)
codes-kept slips code [] = refl
codes-kept slips code (c ∷ cs) =
    let here : without_slip (with_slip (slips c) (code c)) ≡ without_slip (code c) = others-kept (is_some (code c).phase_millicycles) (slips c) (code c) refl in
    ap (λ o. o ∷ map without_slip (map (λ c. with_slip (slips c) (code c)) cs)) here ∙ ap (λ os. without_slip (code c) ∷ os) (codes-kept slips code cs)

row-kept : (slips : ℕ → Bool) (r : SatelliteRow) → row_without_slips (row_with_slips slips r) ≡ row_without_slips r
row-kept slips r =
    ap (λ (os : List Observed). record { satellite = r.satellite; observed = record { items = os } })
    (codes-kept slips (λ c. code_at c r) (range_with_len 0 (length r.observed.items)) ∙ ap (λ (os : List Observed). map without_slip os) (codes-own r.observed.items))

map-kept : {X : Type 0} (w f : X → X) (xs : List X) → ((x : X) → w (f x) ≡ w x) → map w (map f xs) ≡ map w xs
map-kept w f [] same = refl
map-kept w f (x ∷ xs) same = ap (λ y. y ∷ map w (map f xs)) (same x) ∙ ap (λ ys. w x ∷ ys) (map-kept w f xs same)

-- all but the slips stays
pub cut-kept : (step : Step) (earlier : List EpochTableView) (e : EpochTableView) → without_slips (cut_epoch step earlier e) ≡ without_slips e
cut-kept step earlier e =
    let slipped : ℕ → ℕ → Bool = λ s c. has_slipped_since step s c e earlier in
    ap (λ (rows : List SatelliteRow). record { time = e.time; rows = rows })
    (map-kept row_without_slips (λ (r : SatelliteRow). row_with_slips (slipped r.satellite) r) e.rows (λ r. row-kept (slipped r.satellite) r))

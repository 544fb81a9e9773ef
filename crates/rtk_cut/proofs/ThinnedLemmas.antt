-- The epochs on a step, with their slips.
use Rattle.std.proofs.Common.{◌≡◌, ◌<◌, ℕ, Bool, true, false, not, ◌&&◌, ◌||◌, cond, List, [], ◌∷◌, map, length, get_or, refl, ap, ◌∙◌, arith}
use Rattle.std.specs.Prelude.{All}
use Rattle.std.specs.List.{list_any}
use Rattle.std.proofs.lemmas.List.{length-map, get_or-map}
use Rattle.std.proofs.lemmas.List.Elements.{All-nil, All-cons, All-head, All-tail, All-map}
use Rattle.std.proofs.lemmas.List.Folds.{map_fixed}
use Rattle.std.proofs.lemmas.List.Kept.{AllPairs-cons}
use Rattle.rtk_rinex.specs.declared.epoch_table.SatelliteRow.{SatelliteRow}
use Rattle.rtk_rinex.specs.Record.{EpochTableView}
use Rattle.rtk_rinex.specs.Table.{IsTableRow, IsTableEpoch}
use Rattle.rtk_rinex.specs.MixedForm.{FormView}
use Rattle.rtk_rinex.specs.MixedTable.{IsMixedRow, IsMixedEpoch}
use Rattle.rtk_cut.specs.Cut.{Step, is_on_step, code_at, has_phase_of, has_slip_of, since_phase, has_slipped_since, row_with_slips, cut_epoch, thinned_after}
use Rattle.rtk_cut.proofs.TestLemmas.{or-nothing, pairs-head, pairs-tail}
use Rattle.rtk_cut.specs.CutLaws.{IsFileEpoch}
use Rattle.rtk_cut.proofs.CodeLemmas.{row-good, row-good_mixed, row-own}
use Rattle.rtk_cut.proofs.RowLemmas.{Rise, only-row}
use Rattle.rtk_cut.proofs.SpanLemmas.{TimesRise}
use Rattle.rtk_cut.proofs.PendingLemmas.{since-on}

-- ---- an epoch of the part is an epoch of a file

cut-rise : (step : Step) (earlier : List EpochTableView) (e : EpochTableView) → Rise e.rows → Rise (cut_epoch step earlier e).rows
cut-rise step earlier e rise i j d low high =
    let f : SatelliteRow → SatelliteRow = λ r. row_with_slips (λ c. has_slipped_since step r.satellite c e earlier) r in
    let long : length (map f e.rows) ≡ length e.rows = length-map e.rows f in
    let below : j < length e.rows = omega arith in
    let first = get_or-map f e.rows i d d (omega arith) in
    let second = get_or-map f e.rows j d d below in
    rw (first, second) (rise i j d low below)

some-mapped : (f : SatelliteRow → SatelliteRow) (rows : List SatelliteRow) → (rows ≡ [] → ⊥) → map f rows ≡ [] → ⊥
some-mapped f [] some none = some refl
some-mapped f (r ∷ rows) some none = cc

pub cut-good : (n : ℕ) (step : Step) (earlier : List EpochTableView) (e : EpochTableView) → IsTableEpoch n e → IsTableEpoch n (cut_epoch step earlier e)
cut-good n step earlier e good =
    let f : SatelliteRow → SatelliteRow = λ r. row_with_slips (λ c. has_slipped_since step r.satellite c e earlier) r in
    record {
      time = good.time;
      some = some-mapped f e.rows good.some;
      rows = All-map (IsTableRow n) f e.rows (λ k d lt. let r : SatelliteRow = get_or e.rows k d in row-good (λ c. has_slipped_since step r.satellite c e earlier) n r (good.rows k d lt));
      rise = cut-rise step earlier e good.rise;
    }

pub cut-good_mixed : (form : FormView) (step : Step) (earlier : List EpochTableView) (e : EpochTableView) → IsMixedEpoch form e → IsMixedEpoch form (cut_epoch step earlier e)
cut-good_mixed form step earlier e good =
    let f : SatelliteRow → SatelliteRow = λ r. row_with_slips (λ c. has_slipped_since step r.satellite c e earlier) r in
    record {
      time = good.time;
      some = some-mapped f e.rows good.some;
      rows = All-map (IsMixedRow form) f e.rows (λ k d lt. let r : SatelliteRow = get_or e.rows k d in row-good_mixed (λ c. has_slipped_since step r.satellite c e earlier) form r (good.rows k d lt));
      rise = cut-rise step earlier e good.rise;
    }

-- ---- the epochs on the step

pub thinned-on : (step : Step) (earlier : List EpochTableView) (e : EpochTableView) (es : List EpochTableView) → is_on_step step e ≡ true
    → thinned_after step earlier (e ∷ es) ≡ cut_epoch step earlier e ∷ thinned_after step (e ∷ earlier) es
thinned-on step earlier e es on = ap (λ b. cond b (cut_epoch step earlier e ∷ thinned_after step (e ∷ earlier) es) (thinned_after step (e ∷ earlier) es)) on

pub thinned-off : (step : Step) (earlier : List EpochTableView) (e : EpochTableView) (es : List EpochTableView) → is_on_step step e ≡ false
    → thinned_after step earlier (e ∷ es) ≡ thinned_after step (e ∷ earlier) es
thinned-off step earlier e es off = ap (λ b. cond b (cut_epoch step earlier e ∷ thinned_after step (e ∷ earlier) es) (thinned_after step (e ∷ earlier) es)) off

all-if : (P : EpochTableView → Type 0) (b : Bool) (e : EpochTableView) (es : List EpochTableView) → P e → All P es → All P (cond b (e ∷ es) es)
all-if P true e es here rest = All-cons P e es here rest
all-if P false e es here rest = rest

-- what no slip changes stays true of them
pub thinned-all : (P Q : EpochTableView → Type 0) (step : Step) → ((earlier : List EpochTableView) (e : EpochTableView) → P e → Q (cut_epoch step earlier e))
    → (earlier es : List EpochTableView) → All P es → All Q (thinned_after step earlier es)
thinned-all P Q step kept earlier [] all = All-nil Q
thinned-all P Q step kept earlier (e ∷ es) all =
    all-if Q (is_on_step step e) (cut_epoch step earlier e) (thinned_after step (e ∷ earlier) es) (kept earlier e (All-head P e es all)) (thinned-all P Q step kept (e ∷ earlier) es (All-tail P e es all))

rise-if : (b : Bool) (e : EpochTableView) (es : List EpochTableView) → All (λ x. e.time < x.time) es → TimesRise es → TimesRise (cond b (e ∷ es) es)
rise-if true e es above rest = AllPairs-cons (λ (a : EpochTableView) (b : EpochTableView). a.time < b.time) e es above rest
rise-if false e es above rest = rest

pub thinned-rise : (step : Step) (earlier es : List EpochTableView) → TimesRise es → TimesRise (thinned_after step earlier es)
thinned-rise step earlier [] rise = rise
thinned-rise step earlier (e ∷ es) rise =
    let R = λ (a : EpochTableView) (b : EpochTableView). a.time < b.time in
    rise-if (is_on_step step e) (cut_epoch step earlier e) (thinned_after step (e ∷ earlier) es)
    (thinned-all (λ x. e.time < x.time) (λ x. e.time < x.time) step (λ before x above. above) (e ∷ earlier) es (pairs-head R e es rise))
    (thinned-rise step (e ∷ earlier) es (pairs-tail R e es rise))

-- ---- a step on which all epochs are

abbrev pub IsOn : Step → EpochTableView → Type 0
IsOn step e = is_on_step step e ≡ true

none-and : (a b : Bool) → b ≡ false → (not a && b) ≡ false
none-and true b none = refl
none-and false b none = none

-- no slip is left of epochs that are all on the step
pub none-since : (step : Step) (s c : ℕ) (earlier : List EpochTableView) → All IsFileEpoch earlier → All (IsOn step) earlier → list_any (has_slip_of s c) (since_phase step s c earlier) ≡ false
none-since step s c [] good on = refl
none-since step s c (e ∷ earlier) good on =
    since-on step s c e earlier (All-head IsFileEpoch e earlier good).observed (All-head (IsOn step) e earlier on)
    ∙ none-and (has_phase_of s c e) (list_any (has_slip_of s c) (since_phase step s c earlier))
    (none-since step s c earlier (All-tail IsFileEpoch e earlier good) (All-tail (IsOn step) e earlier on))

-- so each epoch shows its own slips
pub cut-own : (step : Step) (earlier : List EpochTableView) (e : EpochTableView) → IsFileEpoch e → All IsFileEpoch earlier → All (IsOn step) earlier → cut_epoch step earlier e ≡ e
cut-own step earlier e good before on =
    ap (λ (rows : List SatelliteRow). record { time = e.time; rows = rows })
    (map_fixed (λ r. row_with_slips (λ c. has_slipped_since step r.satellite c e earlier) r) e.rows (λ k d lt.
    let r : SatelliteRow = get_or e.rows k d in
    row-own (λ c. has_slipped_since step r.satellite c e earlier) r (λ c inside has.
    ap (λ b. has_slip_of r.satellite c e || b) (none-since step r.satellite c earlier before on)
    ∙ or-nothing (has_slip_of r.satellite c e) ∙ only-row (λ x. (code_at c x).slip) e.rows k d good.rise lt)))

pub thinned-own : (step : Step) (earlier es : List EpochTableView) → All IsFileEpoch es → All (IsOn step) es → All IsFileEpoch earlier → All (IsOn step) earlier → thinned_after step earlier es ≡ es
thinned-own step earlier [] good on before on_before = refl
thinned-own step earlier (e ∷ es) good on before on_before =
    let here = All-head IsFileEpoch e es good in
    let is_on = All-head (IsOn step) e es on in
    thinned-on step earlier e es is_on
    ∙ ap (λ (x : EpochTableView). x ∷ thinned_after step (e ∷ earlier) es) (cut-own step earlier e here before on_before)
    ∙ ap (λ xs. e ∷ xs)
    (thinned-own step (e ∷ earlier) es (All-tail IsFileEpoch e es good) (All-tail (IsOn step) e es on)
    (All-cons IsFileEpoch e earlier here before) (All-cons (IsOn step) e earlier is_on on_before))

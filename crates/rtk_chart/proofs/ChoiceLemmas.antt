-- Rows of chosen satellites.
use Rattle.std.proofs.Common.{◌≡◌, ◌<◌, ◌≤◌, ◌+◌, ◌++◌, ◌||◌, ℕ, Bool, true, false, cond, List, [], ◌∷◌, length, map, get_or, take, Some, refl, sym, ap, ◌∙◌, arith}
use Rattle.std.proofs.Math.Bool.{or-true}
use Rattle.std.specs.Prelude.{All, AllPairs}
use Rattle.std.specs.List.{filter, list_any}
use Rattle.std.proofs.lemmas.List.{get_or-take, get_or_default, length-take-le, map-id, append-nil}
use Rattle.std.proofs.lemmas.List.Elements.{All-filter, filter_more}
use Rattle.std.proofs.lemmas.List.Sums.{length-filter, count_by-le-length}
use Rattle.rtk_rinex.specs.declared.epoch_table.SatelliteRow.{SatelliteRow}
use Rattle.rtk_rinex.specs.Record.{EpochTableView}
use Rattle.rtk_tracking.specs.Epochs.{epochs_onto, newest_moment}
use Rattle.rtk_chart.specs.Choice.{narrowed}
use Rattle.rtk_chart.specs.declared.choice.Choice.{Choice}
use Rattle.rtk_chart.specs.declared.choice.Choice.TheVariants.{All as EachOne, These}

-- the rows that were chosen are of satellites before the next one
pub chosen-below : (p : SatelliteRow → Bool) (rows : List SatelliteRow) (k : ℕ) (r : SatelliteRow) → AllPairs (λ a b. a.satellite < b.satellite) rows → k < length rows
    → r ≡ get_or rows k r → All (λ x. x.satellite < r.satellite) (filter p (take k rows))
chosen-below p rows k r rise lt is =
    All-filter p (λ x. x.satellite < r.satellite) (take k rows) (λ i d within.
    let long : length (take k rows) ≡ k = length-take-le k rows (omega arith) in
    let low : i < k = omega arith in
    let below : (get_or rows i r).satellite < (get_or rows k r).satellite = rise i k r low lt in
    let here : (get_or (take k rows) i d).satellite ≡ (get_or rows i r).satellite = ap (λ (x : SatelliteRow). x.satellite) (get_or-take k rows i d low ∙ get_or_default rows i d r (omega (arith, low, lt))) in
    let there : r.satellite ≡ (get_or rows k r).satellite = ap (λ (x : SatelliteRow). x.satellite) is in
    omega (arith, below, here, there))

-- they are fewer than all
pub chosen-few : (p : SatelliteRow → Bool) (rows : List SatelliteRow) (k : ℕ) → k < length rows → length (filter p (take k rows)) ≤ k
chosen-few p rows k lt =
    let long : length (take k rows) ≡ k = length-take-le k rows (omega arith) in
    let same = length-filter p (take k rows) in
    let most = count_by-le-length p (take k rows) in
    omega (arith, long, same, most)

-- one row more that is chosen
pub chosen-more : (p : SatelliteRow → Bool) (rows : List SatelliteRow) (k : ℕ) (r : SatelliteRow) → k < length rows → r ≡ get_or rows k r → p r ≡ true
    → filter p (take (k + 1) rows) ≡ filter p (take k rows) ++ r ∷ []
chosen-more p rows k r lt is chosen =
    filter_more p rows k r lt ∙ ap (λ (x : SatelliteRow). filter p (take k rows) ++ cond (p x) (x ∷ []) []) (sym is)
    ∙ ap (λ (b : Bool). filter p (take k rows) ++ cond b (r ∷ []) []) chosen

-- one that is not
pub chosen-same : (p : SatelliteRow → Bool) (rows : List SatelliteRow) (k : ℕ) (r : SatelliteRow) → k < length rows → r ≡ get_or rows k r → p r ≡ false
    → filter p (take (k + 1) rows) ≡ filter p (take k rows)
chosen-same p rows k r lt is not =
    filter_more p rows k r lt ∙ ap (λ (x : SatelliteRow). filter p (take k rows) ++ cond (p x) (x ∷ []) []) (sym is)
    ∙ ap (λ (b : Bool). filter p (take k rows) ++ cond b (r ∷ []) []) not ∙ append-nil (filter p (take k rows))

-- the choice of all changes no epoch
pub all-chosen : (es : List EpochTableView) → map (narrowed EachOne) es ≡ es
all-chosen es = map-id es

-- a narrowed epoch keeps its time
time-narrowed : (choice : Choice) (e : EpochTableView) → (narrowed choice e).time ≡ e.time
time-narrowed EachOne e = refl
time-narrowed (These chosen) e = refl

pub newest-narrowed : (choice : Choice) (es : List EpochTableView) → newest_moment (map (narrowed choice) es) ≡ newest_moment es
newest-narrowed choice [] = refl
newest-narrowed choice (e ∷ es) = ap (λ (t : ℕ). Some t) (time-narrowed choice e)

-- an epoch that has a row of a chosen satellite stays among the epochs
pub found-stays : (p : EpochTableView → Bool) (rest before : List EpochTableView) → list_any p before ≡ true → list_any p (epochs_onto rest before) ≡ true
found-stays p [] before found = found
found-stays p (e ∷ rest) before found = found-stays p rest (e ∷ before) (ap (λ (b : Bool). p e || b) found ∙ or-true (p e))

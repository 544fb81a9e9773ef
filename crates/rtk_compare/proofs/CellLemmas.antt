-- The differences of a cell.
use Rattle.std.proofs.Common.{◌≡◌, ℕ, Bool, true, false, not, ◌&&◌, Option, Some, None, List, ◌∷◌, ℤ, refl, sym, ap, ◌∙◌}
use Rattle.rtk_rinex.specs.declared.epoch_table.Observed.{Observed}
use Rattle.rtk_compare.specs.declared.difference.Place.{Place}
use Rattle.rtk_compare.specs.declared.distances.Distances.{Distances}
use Rattle.rtk_compare.specs.declared.findings.Findings.{Findings}
use Rattle.rtk_compare.specs.declared.track.Track.{Track}
use Rattle.rtk_compare.specs.Pairs.{Pair}
use Rattle.rtk_compare.specs.Phases.{had_phase, fills_gap, rolls_of, rolls_held}
use Rattle.rtk_compare.specs.Distances.{strength_value, ranges_apart, phases_apart, strengths_apart, are_due, distances_of}
use Rattle.rtk_compare.specs.Cells.{is_gone, have_phases, mark_is_gone, cell_lines}
use Rattle.rtk_compare.specs.Differences.{Adds}
use Rattle.rtk_compare.specs.Steps.Tracks.{IsTrackOf, lines_if_told}
use Rattle.rtk_compare.proofs.FindingLemmas.{adds_none, adds-as}

-- ---- distances

made : ℕ → ℕ → ℕ → Option ℤ → Bool → Distances
made range phase strength rolls due = record { range = range; phase = phase; strength = strength; rolls = rolls; are_due = due }

pub distances-are : (earlier : List (Pair Observed)) (p : Pair Observed) (range phase strength : ℕ) (rolls : Option ℤ) (due : Bool) (held held' : ℤ) → range ≡ ranges_apart p → phase ≡ phases_apart p
    → strength ≡ strengths_apart p → rolls ≡ rolls_of p → held ≡ rolls_held (p ∷ earlier) → due ≡ are_due rolls held' → held' ≡ held
    → record { range = range; phase = phase; strength = strength; rolls = rolls; are_due = due } ≡ distances_of earlier p
unfolding made
distances-are earlier p range phase strength rolls due held held' range_is phase_is strength_is rolls_are held_are due_is same =
    let r = ranges_apart p in
    let f = phases_apart p in
    let s = strengths_apart p in
    ap (λ (n : ℕ). made n phase strength rolls due) range_is ∙ ap (λ (n : ℕ). made r n strength rolls due) phase_is ∙ ap (λ (n : ℕ). made r f n rolls due) strength_is
    ∙ ap (λ (k : Option ℤ). made r f s k due) rolls_are
    ∙ ap (λ (b : Bool). made r f s (rolls_of p) b) (due_is ∙ ap (λ (h : ℤ). are_due rolls h) (same ∙ held_are) ∙ ap (λ (k : Option ℤ). are_due k (rolls_held (p ∷ earlier))) rolls_are)

-- ---- values and marks

pub strength-gone : (a b : Option ℕ) → is_gone (strength_value a) (strength_value b) ≡ is_gone a b
strength-gone None None = refl
strength-gone None (Some b) = refl
strength-gone (Some a) None = refl
strength-gone (Some a) (Some b) = refl

pub mark-gone : (p : Pair Observed) (both old new result : Bool) → both ≡ have_phases p → result ≡ (both && old && not new) → result ≡ mark_is_gone p old new
mark-gone p both old new result have is = is ∙ ap (λ (b : Bool). b && old && not new) have

pub lost-slip : (gone : Bool) (t : Track) (earlier : List (Pair Observed)) → IsTrackOf t earlier → ((gone && t.had_phase) && not t.fills_gap) ≡ (gone && had_phase earlier && not (fills_gap earlier))
lost-slip true t earlier is = ap (λ (b : Bool). b && not t.fills_gap) is.had_phase ∙ ap (λ (b : Bool). had_phase earlier && not b) is.fills_gap
lost-slip false t earlier is = refl

pub filled-slip : (gone : Bool) (t : Track) (earlier : List (Pair Observed)) → IsTrackOf t earlier → ((gone && t.had_phase) && t.fills_gap) ≡ (gone && had_phase earlier && fills_gap earlier)
filled-slip true t earlier is = ap (λ (b : Bool). b && t.fills_gap) is.had_phase ∙ ap (λ (b : Bool). had_phase earlier && b) is.fills_gap
filled-slip false t earlier is = refl

pub first-slip : (gone : Bool) (t : Track) (earlier : List (Pair Observed)) → IsTrackOf t earlier → (gone && not t.had_phase) ≡ (gone && not (had_phase earlier))
first-slip gone t earlier is = ap (λ (b : Bool). gone && not b) is.had_phase

-- ---- the place

pub told-some : {a b : Findings} (shifts : Bool) (place : Option Place) (q : Place) (earlier : List (Pair Observed)) (p : Pair Observed) → place ≡ Some q → Adds a b (cell_lines shifts earlier p q)
    → Adds a b (lines_if_told shifts place earlier p)
told-some shifts place q earlier p is adds = adds-as (sym (ap (λ (o : Option Place). lines_if_told shifts o earlier p) is)) adds

pub told-none : (f : Findings) (shifts : Bool) (place : Option Place) (earlier : List (Pair Observed)) (p : Pair Observed) → place ≡ None → Adds f f (lines_if_told shifts place earlier p)
told-none f shifts place earlier p is = adds-as (sym (ap (λ (o : Option Place). lines_if_told shifts o earlier p) is)) (adds_none f)

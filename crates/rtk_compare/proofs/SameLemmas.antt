-- A cell of which both files show the same, after phases that do not differ by rolls: nothing is told of it.
use Rattle.std.proofs.Common.{◌≡◌, ℕ, Bool, true, false, not, ◌&&◌, cond, Option, Some, None, List, [], ◌∷◌, ◌++◌, ℤ, pos, neg_ℤ, refl, sym, ap, ◌∙◌, arith}
use Rattle.std.specs.Prelude.{◌-ℤ◌, unsigned_abs, int_lt}
use Rattle.std.specs.Ordering.{int_eq}
use Rattle.std.proofs.lemmas.Int.{ints}
use Rattle.std.proofs.lemmas.Bool.Decides.{Decides-int_eq}
use Rattle.rtk_rinex.specs.declared.epoch_table.Observed.{Observed}
use Rattle.rtk_compare.specs.declared.difference.Place.{Place}
use Rattle.rtk_compare.specs.declared.difference.Difference.{Difference}
use Rattle.rtk_compare.specs.declared.distances.Distances.{Distances}
use Rattle.rtk_compare.specs.Pairs.{Pair}
use Rattle.rtk_compare.specs.Phases.{nearest_rolls, beside_rolls, rolls_from, rolls_of_phases, rolls_of, rolls_or_none, rolls_kept, begins_anew, rolls_held}
use Rattle.rtk_compare.specs.Distances.{apart, strength_value, are_due, are_some, distances_of}
use Rattle.rtk_compare.specs.Cells.{is_gone, is_other_number, gone_lines, value_lines, have_phases, slip_lines, half_lines, shift_lines, cell_lines}
use Rattle.rtk_compare.specs.Steps.Tracks.{pair, lines_if_told}

none-apart : (a : ℤ) → unsigned_abs (a -ℤ a) ≡ 0
none-apart a = omega (arith, ints)

apart-none : (a : Option ℤ) → apart a a ≡ 0
apart-none None = refl
apart-none (Some a) = none-apart a

-- ---- rolls

cond-none : (b : Bool) → cond b (pos 0) (pos 0) ≡ pos 0
cond-none true = refl
cond-none false = refl

from-none : (a : ℤ) → rolls_from a a ≡ pos 0
from-none a =
    ap (λ (d : ℕ). cond (int_lt a a) (neg_ℤ (pos (nearest_rolls d))) (pos (nearest_rolls d))) (none-apart a) ∙ cond-none (int_lt a a)

rolls-none : (a : Option ℤ) → rolls_or_none (rolls_of_phases a a) ≡ pos 0
rolls-none None = refl
rolls-none (Some a) = from-none a

some-none : (a : Option ℤ) → are_some (rolls_of_phases a a) ≡ false
some-none None = refl
some-none (Some a) = ap (λ (r : ℤ). not (int_eq r (pos 0))) (from-none a)

due-none : (a : Option ℤ) → are_due (rolls_of_phases a a) (pos 0) ≡ true
due-none None = refl
due-none (Some a) = ap (λ (r : ℤ). int_eq r (pos 0)) (from-none a)

-- no rolls are held then
pub held-none : (earlier : List (Pair Observed)) (o : Observed) → rolls_held earlier ≡ pos 0 → rolls_held (pair o o ∷ earlier) ≡ pos 0
held-none earlier o none =
    let before : cond (begins_anew earlier (pair o o)) (pos 0) (rolls_held earlier) ≡ pos 0 =
    ap (λ (r : ℤ). cond (begins_anew earlier (pair o o)) (pos 0) r) none ∙ cond-none (begins_anew earlier (pair o o)) in
    ap (λ (r : ℤ). rolls_kept r (rolls_or_none (rolls_of (pair o o)))) before ∙ rolls-none o.phase_millicycles

-- ---- distances

abbrev distance_none : Option ℤ → Distances
distance_none rolls = record { range = 0; phase = 0; strength = 0; rolls = rolls; are_due = true }

abbrev distances_with : ℕ → ℕ → ℕ → Option ℤ → Bool → Distances
distances_with range phase strength rolls due = record { range = range; phase = phase; strength = strength; rolls = rolls; are_due = due }

distances-none : (earlier : List (Pair Observed)) (o : Observed) → rolls_held earlier ≡ pos 0 → distances_of earlier (pair o o) ≡ distance_none (rolls_of (pair o o))
distances-none earlier o none =
    let rolls = rolls_of (pair o o) in
    let held = rolls_held (pair o o ∷ earlier) in
    let phases = apart o.phase_millicycles o.phase_millicycles in
    let strengths = apart (strength_value o.strength_millidbhz) (strength_value o.strength_millidbhz) in
    ap (λ (n : ℕ). distances_with n (beside_rolls phases) strengths rolls (are_due rolls held)) (apart-none o.range_mm)
    ∙ ap (λ (n : ℕ). distances_with 0 (beside_rolls n) strengths rolls (are_due rolls held)) (apart-none o.phase_millicycles)
    ∙ ap (λ (n : ℕ). distances_with 0 0 n rolls (are_due rolls held)) (apart-none (strength_value o.strength_millidbhz))
    ∙ ap (λ (r : ℤ). distances_with 0 0 0 rolls (are_due rolls r)) (held-none earlier o none)
    ∙ ap (λ (b : Bool). distances_with 0 0 0 rolls b) (due-none o.phase_millicycles)

-- ---- what is told

gone-none : {A : Type 0} (a : Option A) → is_gone a a ≡ false
gone-none None = refl
gone-none (Some a) = refl

mark-none : (have mark : Bool) → ((have && mark) && not mark) ≡ false
mark-none true true = refl
mark-none true false = refl
mark-none false true = refl
mark-none false false = refl

number-none : (a : Option ℤ) → is_other_number a a ≡ false
number-none None = refl
number-none (Some a) = ap not ((Decides-int_eq a a).1 refl)

and-none : (b : Bool) → (b && false) ≡ false
and-none true = refl
and-none false = refl

values-none : (o : Observed) (place : Place) → gone_lines (pair o o) place ≡ []
values-none o place = rw (gone-none o.range_mm, gone-none o.phase_millicycles, gone-none o.strength_millidbhz) refl

told-none : (rolls : Option ℤ) (place : Place) → are_some rolls ≡ false → value_lines (distance_none rolls) place ≡ []
told-none rolls place none = rw none refl

slips-none : (earlier : List (Pair Observed)) (o : Observed) (place : Place) → slip_lines earlier (pair o o) place ≡ []
slips-none earlier o place = rw (mark-none (have_phases (pair o o)) o.slip) refl

halves-none : (d : Distances) (o : Observed) (place : Place) → half_lines d (pair o o) place ≡ []
halves-none d o place = rw (mark-none (have_phases (pair o o)) o.half) refl

shifts-none : (shifts : Bool) (o : Observed) (place : Place) → shift_lines shifts (pair o o) place ≡ []
shifts-none shifts o place = rw (gone-none o.doppler_millihertz, and-none shifts, number-none o.doppler_millihertz) refl

nothing : (a b c d e : List Difference) → a ≡ [] → b ≡ [] → c ≡ [] → d ≡ [] → e ≡ [] → (((a ++ b) ++ c) ++ d) ++ e ≡ []
nothing a b c d e p q r s t = rw (p, q, r, s, t) refl

lines-none : (shifts : Bool) (earlier : List (Pair Observed)) (o : Observed) (place : Place) → rolls_held earlier ≡ pos 0 → cell_lines shifts earlier (pair o o) place ≡ []
unfolding cell_lines
lines-none shifts earlier o place none =
    let d = distances_of earlier (pair o o) in
    nothing (gone_lines (pair o o) place) (value_lines d place) (slip_lines earlier (pair o o) place) (half_lines d (pair o o) place) (shift_lines shifts (pair o o) place) (values-none o place)
    (ap (λ (x : Distances). value_lines x place) (distances-none earlier o none) ∙ told-none (rolls_of (pair o o)) place (some-none o.phase_millicycles))
    (slips-none earlier o place) (halves-none d o place) (shifts-none shifts o place)

pub nothing-told : (shifts : Bool) (earlier : List (Pair Observed)) (old new : Observed) (place : Option Place) → old ≡ new → rolls_held earlier ≡ pos 0
    → lines_if_told shifts place earlier (pair old new) ≡ []
nothing-told shifts earlier old new None same none = refl
nothing-told shifts earlier old new (Some place) same none =
    ap (λ (o : Observed). cell_lines shifts earlier (pair old o) place) (sym same) ∙ lines-none shifts earlier old place none

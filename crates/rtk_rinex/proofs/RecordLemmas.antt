-- Lists without the blanks at their end.
use Rattle.std.proofs.Common.{◌≡◌, ◌≢◌, ℕ, ◌+◌, ◌-◌, ◌<◌, ◌≤◌, [], ◌∷◌, ◌++◌, List, length, take, get_or, ap, arith, refl, ◌∙◌}
use Rattle.std.proofs.lemmas.Bool.Decides.{nat_tests}
use Rattle.std.proofs.lemmas.Grind.{take_at_read}
use Rattle.std.specs.List.{flat_map}
use Rattle.rtk_obs.specs.declared.time.Civil.{Civil}
use Rattle.rtk_rinex.specs.declared.epoch_table.SatelliteRow.{SatelliteRow}
use Rattle.rtk_rinex.specs.Record.{trim_end, before_trimmed, satellite_line, epoch_line, lines_of}

pub trim_end-blank : (xs : List ℕ) → trim_end (xs ++ 32 ∷ []) ≡ trim_end xs
unfolding trim_end
trim_end-blank [] = refl
trim_end-blank (x ∷ xs) = rw (trim_end-blank xs) refl

before_trimmed-solid : (g : ℕ) (ys : List ℕ) → g ≢ 32 → before_trimmed g ys ≡ g ∷ ys
before_trimmed-solid g [] h = grind (arith, nat_tests)
before_trimmed-solid g (y ∷ ys) h = refl

pub trim_end-one : (g : ℕ) (ys : List ℕ) → g ≢ 32 → trim_end (g ∷ ys) ≡ g ∷ trim_end ys
unfolding trim_end
trim_end-one g ys h = before_trimmed-solid g (trim_end ys) h

more_front : (x : ℕ) (t xs : List ℕ) (g : ℕ) (ys : List ℕ) → trim_end t ≡ xs ++ g ∷ ys → trim_end (x ∷ t) ≡ x ∷ trim_end t
unfolding trim_end
more_front x t [] g ys e = rw e refl
more_front x t (y ∷ xs) g ys e = rw e refl

pub trim_end-front : (xs : List ℕ) (g : ℕ) (ys : List ℕ) → g ≢ 32 → trim_end (xs ++ g ∷ ys) ≡ xs ++ g ∷ trim_end ys
trim_end-front [] g ys h = trim_end-one g ys h
trim_end-front (x ∷ xs) g ys h = let e = trim_end-front xs g ys h in more_front x (xs ++ g ∷ ys) xs g (trim_end ys) e ∙ ap (λ t. x ∷ t) e

-- one blank less
pub trim_end-step : (xs : List ℕ) (n : ℕ) → 0 < n → n ≤ length xs → get_or xs (n - 1) 0 ≡ 32 → trim_end (take n xs) ≡ trim_end (take (n - 1) xs)
trim_end-step xs n low high e =
    let back : n - 1 + 1 ≡ n = omega arith in
    let inside : n - 1 < length xs = omega arith in
    let t = (take_at_read xs (n - 1) 0 inside).1 in
    rw (rw (back, e) at t) (trim_end-blank (take (n - 1) xs))

-- no blank at the end
pub trim_end-done : (xs : List ℕ) (n : ℕ) → 0 < n → n ≤ length xs → get_or xs (n - 1) 0 ≢ 32 → trim_end (take n xs) ≡ take n xs
unfolding trim_end
trim_end-done xs n low high ne =
    let back : n - 1 + 1 ≡ n = omega arith in
    let inside : n - 1 < length xs = omega arith in
    let t = rw back at ((take_at_read xs (n - 1) 0 inside).1) in
    rw t (trim_end-front (take (n - 1) xs) (get_or xs (n - 1) 0) [] ne)

-- a record without a line is empty, and any other has its epoch line
pub lines_of-none : (c : Civil) (rows : List SatelliteRow) → length rows ≡ 0 → lines_of c rows ≡ []
lines_of-none c [] e = refl
lines_of-none c (r ∷ rows) e = absurd (omega arith)

pub lines_of-some : (c : Civil) (rows : List SatelliteRow) → length rows ≢ 0 → lines_of c rows ≡ epoch_line c (length rows) ++ flat_map satellite_line rows
lines_of-some c [] h = absurd (h refl)
lines_of-some c (r ∷ rows) h = refl

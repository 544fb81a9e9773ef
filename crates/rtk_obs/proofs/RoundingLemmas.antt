-- A rounded value is the one whole number that is nearest; rounding of a product in two parts.
use Rattle.std.proofs.Common.{◌≡◌, ℕ, suc, zero, ◌+◌, ◌-◌, ◌*◌, ◌/◌, ◌%◌, ◌<◌, ◌≤◌, ◌↔◌, refl, sym, ap, subst, arith, ℤ, pos, negsuc, neg_ℤ, unsigned_abs, inl, inr}
use Rattle.std.specs.Prelude.{◌*ℤ◌, ◌-ℤ◌, int_lt, false}
use Rattle.std.proofs.lemmas.Bool.{cases_order}
use Rattle.std.proofs.lemmas.Int.{ints}
use Rattle.std.proofs.lemmas.Nat.{div-add-mod', mod_below}
use Rattle.std.proofs.Math.Nat.{div-eq_of_lt-le}
use Rattle.jiff_core.proofs.SignedLemmas.{signed_arith}
use borrow.Author.Differences.{up, down}
use Rattle.rtk_obs.specs.Rounding.{IsRounded, rounded_magnitude, rounded}

-- the same of magnitudes: n is at most half a unit below v * d and under half a unit above it
abbrev pub IsNearest : ℕ → ℕ → ℕ → Type 0
IsNearest n d v = (2 * (v * d) ≤ 2 * n + d) × (2 * n < 2 * (v * d) + d)

pub magnitude-unique : (n d v : ℕ) → IsNearest n d v → v ≡ rounded_magnitude n d
magnitude-unique n d v h = sym (div-eq_of_lt-le (2 * d) (omega (arith, h.0)) (omega (arith, h.1)))

magnitude_nearest : (n d : ℕ) → 0 < d → IsNearest n d (rounded_magnitude n d)
magnitude_nearest n d h = (
  omega (arith, div-add-mod' (2 * n + d) (2 * d), mod_below (2 * n + d) (2 * d) (omega arith)),
  omega (arith, div-add-mod' (2 * n + d) (2 * d), mod_below (2 * n + d) (2 * d) (omega arith)),
)

-- ---- signs

not_negative : (n : ℕ) → int_lt (pos n) (pos 0) ≡ false
not_negative n = grind (arith, ints)

from_pos : (n d v : ℕ) → IsRounded (pos n) d (pos v) → IsNearest n d v
from_pos n d v r = (
  omega (arith, signed_arith, r.0),
  elim (cases_order (2 * n) (2 * (v * d) + d)) [
    | inl e ↦ (let tie : 2 * unsigned_abs (pos v *ℤ pos d -ℤ pos n) ≡ d = omega (arith, signed_arith, r.0) in absurd (omega (arith, r.1 tie)))
    | inr (inl lt) ↦ lt
    | inr (inr gt) ↦ absurd (omega (arith, signed_arith, r.0))
  ],
)

-- the distance of two magnitudes
distance : (z : ℤ) (a b : ℕ) → up z + b ≡ down z + a → unsigned_abs z ≡ (a - b) + (b - a)
distance (pos n) a b e = omega (arith, signed_arith)
distance (negsuc n) a b e = omega (arith, signed_arith)

to_pos : (n d v : ℕ) → IsNearest n d v → IsRounded (pos n) d (pos v)
to_pos n d v h =
    let is = distance (pos v *ℤ pos d -ℤ pos n) (v * d) n (omega (arith, signed_arith)) in
    (omega (arith, is, h), λ tie. omega (arith, is, h, tie))

-- a nearest number has the sign of the fraction
not_below : (n d v : ℕ) → 0 < d → ¬ (IsRounded (pos n) d (negsuc v))
not_below n d v h r = omega (arith, signed_arith, r.0)

not_above : (n d v : ℕ) → 0 < d → ¬ (IsRounded (negsuc n) d (pos (suc v)))
not_above n d v h r = omega (arith, signed_arith, r.0)

from_zero : (n d : ℕ) → IsRounded (negsuc n) d (pos zero) → IsNearest (suc n) d 0
from_zero n d r = (
  omega arith,
  elim (cases_order (2 * suc n) d) [
    | inl e ↦ (let tie : 2 * unsigned_abs (pos 0 *ℤ pos d -ℤ negsuc n) ≡ d = omega (arith, signed_arith, r.0) in absurd (omega (arith, r.1 tie)))
    | inr (inl lt) ↦ omega (arith, lt)
    | inr (inr gt) ↦ absurd (omega (arith, signed_arith, r.0))
  ],
)

from_negative : (n d v : ℕ) → IsRounded (negsuc n) d (negsuc v) → IsNearest (suc n) d (suc v)
from_negative n d v r = (
  omega (arith, signed_arith, r.0),
  elim (cases_order (2 * suc n) (2 * (suc v * d) + d)) [
    | inl e ↦ (let tie : 2 * unsigned_abs (negsuc v *ℤ pos d -ℤ negsuc n) ≡ d = omega (arith, signed_arith, r.0) in absurd (omega (arith, r.1 tie)))
    | inr (inl lt) ↦ lt
    | inr (inr gt) ↦ absurd (omega (arith, signed_arith, r.0))
  ],
)

to_zero : (n d : ℕ) → IsNearest (suc n) d 0 → IsRounded (negsuc n) d (pos 0)
to_zero n d h =
    let is = distance (pos 0 *ℤ pos d -ℤ negsuc n) (suc n) 0 (omega (arith, signed_arith)) in
    (omega (arith, is, h), λ tie. absurd (omega (arith, is, h, tie)))

to_negsuc : (n d v : ℕ) → IsNearest (suc n) d (suc v) → IsRounded (negsuc n) d (negsuc v)
to_negsuc n d v h =
    let is = distance (negsuc v *ℤ pos d -ℤ negsuc n) (suc n) (suc v * d) (omega (arith, signed_arith)) in
    (omega (arith, is, h), λ tie. omega (arith, is, h, tie))

to_negative : (n d v : ℕ) → IsNearest (suc n) d v → IsRounded (negsuc n) d (neg_ℤ (pos v))
to_negative n d zero h = to_zero n d h
to_negative n d (suc v) h = to_negsuc n d v h

-- ---- the law

pub rounded-unique : (n : ℤ) (d : ℕ) (v : ℤ) → 0 < d → IsRounded n d v → v ≡ rounded n d
rounded-unique (pos n) d (pos v) h r = rw (not_negative n) (ap pos (magnitude-unique n d v (from_pos n d v r)))
rounded-unique (pos n) d (negsuc v) h r = absurd (not_below n d v h r)
rounded-unique (negsuc n) d (pos zero) h r = rw (← magnitude-unique (suc n) d 0 (from_zero n d r)) refl
rounded-unique (negsuc n) d (pos (suc v)) h r = absurd (not_above n d v h r)
rounded-unique (negsuc n) d (negsuc v) h r = ap (λ (k : ℕ). neg_ℤ (pos k)) (magnitude-unique (suc n) d (suc v) (from_negative n d v r))

pub rounded_nearest : (n : ℤ) (d : ℕ) → 0 < d → IsRounded n d (rounded n d)
rounded_nearest (pos n) d h = rw (not_negative n) (to_pos n d (rounded_magnitude n d) (magnitude_nearest n d h))
rounded_nearest (negsuc n) d h = to_negative n d (rounded_magnitude (suc n) d) (magnitude_nearest (suc n) d h)

pub rounded_law : (n : ℤ) (d : ℕ) (v : ℤ) → 0 < d → IsRounded n d v ↔ (v ≡ rounded n d)
rounded_law n d v h = (rounded-unique n d v h, λ e. subst (λ (w : ℤ). IsRounded n d w) (sym e) (rounded_nearest n d h))

-- ---- a product, rounded in two parts: the whole quotient times the factor, and the rest

parts : (q s k d h t : ℕ) → 2 * h ≤ d → d ≤ 2 * h + 1 → t * d ≤ s * k + h → s * k + h < t * d + d
    → ((q * k + t) * (2 * d) ≤ 2 * ((q * d + s) * k) + d) × (2 * ((q * d + s) * k) + d < (q * k + t + 1) * (2 * d))
parts q s k d h t a b e f = (omega arith, omega arith)

pub rounded-parts : (n k d : ℕ) → 0 < d → rounded_magnitude (n * k) d ≡ n / d * k + (n % d * k + d / 2) / d
rounded-parts n k d h =
    let q = n / d in
    let s = n % d in
    let t = (s * k + d / 2) / d in
    let p = parts q s k d (d / 2) t (omega arith) (omega arith)
    (omega (arith, div-add-mod' (s * k + d / 2) d)) (omega (arith, div-add-mod' (s * k + d / 2) d, mod_below (s * k + d / 2) d h)) in
    let whole : q * d + s ≡ n = div-add-mod' n d in
    div-eq_of_lt-le (2 * d)
    (subst (λ (x : ℕ). (q * k + t) * (2 * d) ≤ 2 * (x * k) + d) whole p.0)
    (subst (λ (x : ℕ). 2 * (x * k) + d < (q * k + t + 1) * (2 * d)) whole p.1)

pub four-times : (n q : ℕ) → n * (4 * q) ≡ 4 * (n * q)
four-times n q = omega arith

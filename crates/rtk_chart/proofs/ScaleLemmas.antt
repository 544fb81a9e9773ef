-- The bins of a picture, in numbers.
use Rattle.std.proofs.Common.{◌≡◌, ◌≤◌, ◌<◌, ◌+◌, ◌*◌, ◌/◌, ℕ, arith}
use Rattle.std.proofs.Math.Nat.{div-mul-le_self, add-mul, mul_left_comm}
use Rattle.std.proofs.lemmas.Nat.{mul-le, mul-lt, div-add-mod', mod_below, div_below}

pub mul-pos : (a b : ℕ) → 0 < a → 0 < b → 0 < a * b
mul-pos a b some more = let h = mul-lt 0 0 a b some more in omega (arith, h)

-- a bin within the span begins within it
pub begins-within : (span length c n : ℕ) → n ≡ span / length + 1 → c < n → c * length ≤ span
begins-within span length c n bins within =
    let few : c ≤ span / length = omega arith in
    let same : length ≤ length = omega arith in
    let a = mul-le c length (span / length) length few same in
    let b = div-mul-le_self span length in
    omega (arith, a, b)

-- the bins are at most one interval longer than the span
pub bin-bound : (span unit allowed : ℕ) → 0 < allowed → (span / (allowed * unit) + 1) * unit ≤ span + unit
bin-bound span unit allowed some =
    let q = span / (allowed * unit) in
    let one : unit ≤ allowed * unit = grind arith in
    let same : q ≤ q = omega arith in
    let a = mul-le q unit q (allowed * unit) same one in
    let b = div-mul-le_self span (allowed * unit) in
    let c : (q + 1) * unit ≡ q * unit + unit = grind arith in
    omega (arith, a, b, c)

-- the bins are as many as allowed at most
pub bins-few : (span unit allowed : ℕ) → 0 < allowed → 0 < unit → span / ((span / (allowed * unit) + 1) * unit) + 1 ≤ allowed
bins-few span unit allowed some long =
    let q = span / (allowed * unit) in
    let whole : 0 < allowed * unit = mul-pos allowed unit some long in
    let split = div-add-mod' span (allowed * unit) in
    let rest = mod_below span (allowed * unit) whole in
    let next = add-mul q 1 (allowed * unit) in
    let one : 1 * (allowed * unit) ≡ allowed * unit = omega arith in
    let below : span < (q + 1) * (allowed * unit) = omega (arith, split, rest, next, one) in
    let moved = mul_left_comm allowed (q + 1) unit in
    let enough : span < allowed * ((q + 1) * unit) = omega (arith, below, moved) in
    let length : 0 < (q + 1) * unit = mul-pos (q + 1) unit (omega arith) long in
    let few = div_below span ((q + 1) * unit) allowed length enough in
    omega (arith, few)

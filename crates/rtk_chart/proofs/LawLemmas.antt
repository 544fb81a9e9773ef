-- Bins that are as short as they can be, and missing epochs bin by bin.
use Rattle.std.proofs.Common.{◌≡◌, ◌≤◌, ◌<◌, ◌+◌, ◌-◌, ◌*◌, ◌/◌, ℕ, zero, suc, true, ltb, leb, lit<, lit≤, ◌&&◌, Some, inl, inr, sym, ap, subst, ◌∙◌, arith}
use Rattle.std.proofs.Math.Nat.{div-mul-le_self, add-div_right, add-mul, mul_left_comm}
use Rattle.std.proofs.lemmas.Bool.{cases_eq, and_parts, and_from, ltb-true, leb-true, lt-ltb, le-leb}
use Rattle.std.proofs.lemmas.Nat.{mul-le, le-div}
use Rattle.rtk_tracking.specs.Interval.{missing_before}
use Rattle.rtk_chart.specs.Scale.{half_of, bin_at, intervals_of}
use Rattle.rtk_chart.specs.Grid.{has_missing_before}
use Rattle.rtk_chart.specs.Laws.{SomeMissingEpoch}
use Rattle.rtk_chart.specs.declared.scale.Scale.{Scale}
use Rattle.rtk_chart.proofs.ScaleLemmas.{mul-pos}

pub shorter-too-many : (span unit allowed k : ℕ) → 0 < unit → 0 < k → k < intervals_of span unit allowed → allowed < span / (k * unit) + 1
shorter-too-many span unit allowed k some any short =
    let a = allowed * unit in
    let few : k ≤ span / a = omega (arith, short) in
    let same : a ≤ a = omega arith in
    let whole = mul-le k a (span / a) a few same in
    let most = div-mul-le_self span a in
    let moved = mul_left_comm allowed k unit in
    let fits : allowed * (k * unit) ≤ span = omega (arith, whole, most, moved) in
    let many = le-div allowed span (k * unit) (mul-pos k unit any some) fits in
    omega (arith, many)

pub div-mono : (a b l : ℕ) → 0 < l → a ≤ b → a / l ≤ b / l
div-mono a b l some le =
    let h = div-mul-le_self a l in
    let fits : a / l * l ≤ b = omega (arith, h, le) in
    le-div (a / l) b l some fits

-- an interval more is a bin more at most
one-on : (a u l : ℕ) → 0 < l → u ≤ l → (a + u) / l ≤ a / l + 1
one-on a u l some few =
    let next : a + u ≤ a + l = omega (arith, few) in
    let h = div-mono (a + u) (a + l) l some next in
    let e = add-div_right a some in
    omega (arith, h, e)

next-epoch : (b n u : ℕ) → b + (suc n + 1) * u ≡ (b + (n + 1) * u) + u
next-epoch b n u =
    let e : suc n + 1 ≡ (n + 1) + 1 = omega arith in
    let m = add-mul (n + 1) 1 u in
    let one : 1 * u ≡ u = omega arith in
    ap (λ k. b + k * u) e ∙ omega (arith, m, one)

-- each bin between the first and the last missing epoch has one
between : (b u l c n : ℕ) → 0 < l → u ≤ l → (b + 1 * u) / l ≤ c → c ≤ (b + (n + 1) * u) / l
    → (i : ℕ) × (0 < i) × (i ≤ n + 1) × ((b + i * u) / l ≡ c)
between b u l c zero some few from to = (1, lit< tt, lit≤ tt, omega (arith, from, to))
between b u l c (suc n) some few from to =
    elim (cases_eq ((b + (suc n + 1) * u) / l) c) [
      | inl same ↦ (suc n + 1, omega arith, omega arith, same)
      | inr other ↦
          let step = one-on (b + (n + 1) * u) u l some few in
          let last = ap (λ k. k / l) (next-epoch b n u) in
          let sooner : c ≤ (b + (n + 1) * u) / l = omega (arith, to, other, step, last) in
          let rest = between b u l c n some few from sooner in
          let bound = rest.2 in
          (rest.0, rest.1, omega (arith, bound), rest.3)
    ]

-- the bin of an epoch, from the begin of the picture on
bin-of-epoch : (s : Scale) (before i : ℕ) → s.first ≤ before → bin_at s (before + i * s.unit) ≡ ((before - s.first + half_of s.unit) + i * s.unit) / s.bin_ms
bin-of-epoch s before i after =
    let e : before + i * s.unit - s.first + half_of s.unit ≡ (before - s.first + half_of s.unit) + i * s.unit = omega (arith, after) in
    ap (λ n. n / s.bin_ms) e

bin-of-first : (s : Scale) (before : ℕ) → s.first ≤ before → bin_at s (before + s.unit) ≡ ((before - s.first + half_of s.unit) + 1 * s.unit) / s.bin_ms
bin-of-first s before after =
    let e : before + s.unit - s.first + half_of s.unit ≡ (before - s.first + half_of s.unit) + 1 * s.unit = omega (arith, after) in
    ap (λ n. n / s.bin_ms) e

unit-more : (n u : ℕ) → (n + 1) * u ≡ n * u + u
unit-more n u = let m = add-mul n 1 u in let one : 1 * u ≡ u = omega arith in omega (arith, m, one)

twice-more : (i u : ℕ) → (2 * i + 1) * u ≡ 2 * (i * u) + u
twice-more i u = grind arith

pub mark-has-epoch : (s : Scale) (before t c : ℕ) → 0 < s.unit → s.unit ≤ s.bin_ms → s.first ≤ before
    → has_missing_before s (Some before) t c ≡ true → SomeMissingEpoch s before t c
mark-has-epoch s before t c some few after marked =
    let n = missing_before s.unit (Some before) t in
    let first = leb (bin_at s (before + s.unit)) c in
    let last = leb c (bin_at s (before + n * s.unit)) in
    let p = and_parts (ltb 0 n && first) last marked in
    let q = and_parts (ltb 0 n) first p.0 in
    let many : 0 < n = ltb-true 0 n q.0 in
    let from = leb-true (bin_at s (before + s.unit)) c q.1 in
    let to = leb-true c (bin_at s (before + n * s.unit)) p.1 in
    let b = before - s.first + half_of s.unit in
    let size : 0 < s.bin_ms = omega (arith, some, few) in
    let whole : n ≡ (n - 1) + 1 = omega (arith, many) in
    let begin : (b + 1 * s.unit) / s.bin_ms ≤ c = subst (λ (k : ℕ). k ≤ c) (bin-of-first s before after) from in
    let end : c ≤ (b + ((n - 1) + 1) * s.unit) / s.bin_ms =
    subst (λ (k : ℕ). c ≤ (b + k * s.unit) / s.bin_ms) whole (subst (λ (k : ℕ). c ≤ k) (bin-of-epoch s before n after) to) in
    let found = between b s.unit s.bin_ms c (n - 1) size few begin end in
    let bound = found.2 in
    let i = found.0 in
    let fits : i ≤ n = omega (arith, bound, whole) in
    let same : s.unit ≤ s.unit = omega arith in
    let nearer = mul-le i s.unit n s.unit fits same in
    let reach : ℕ = t - before + (s.unit - 1) / 2 in
    let held : reach / s.unit * s.unit ≤ reach = div-mul-le_self reach s.unit in
    let more : reach / s.unit ≡ n + 1 = omega (arith, many) in
    let next : reach / s.unit * s.unit ≡ n * s.unit + s.unit = ap (λ k. k * s.unit) more ∙ unit-more n s.unit in
    let twice : (2 * i + 1) * s.unit ≡ 2 * (i * s.unit) + s.unit = twice-more i s.unit in
    let sooner : (2 * i + 1) * s.unit < 2 * (t - before) = omega (arith, nearer, held, next, twice, some) in
    (i, found.1, sooner, bin-of-epoch s before i after ∙ found.3)

pub epoch-has-mark : (s : Scale) (before t c : ℕ) → 0 < s.unit → s.unit ≤ s.bin_ms → s.first ≤ before
    → SomeMissingEpoch s before t c → has_missing_before s (Some before) t c ≡ true
epoch-has-mark s before t c some few after found =
    let n = missing_before s.unit (Some before) t in
    let i = found.0 in
    let any = found.1 in
    let sooner = found.2 in
    let reach : ℕ = t - before + (s.unit - 1) / 2 in
    let next : (i + 1) * s.unit ≡ i * s.unit + s.unit = unit-more i s.unit in
    let twice : (2 * i + 1) * s.unit ≡ 2 * (i * s.unit) + s.unit = twice-more i s.unit in
    let fits : (i + 1) * s.unit ≤ reach = omega (arith, sooner, next, twice) in
    let enough : i + 1 ≤ reach / s.unit = le-div (i + 1) reach s.unit some fits in
    let most : i ≤ n = omega (arith, enough) in
    let b = before - s.first + half_of s.unit in
    let size : 0 < s.bin_ms = omega (arith, some, few) in
    let here : (b + i * s.unit) / s.bin_ms ≡ c = sym (bin-of-epoch s before i after) ∙ found.3 in
    let same : s.unit ≤ s.unit = omega arith in
    let low = mul-le 1 s.unit i s.unit any same in
    let high = mul-le i s.unit n s.unit most same in
    let lower : b + 1 * s.unit ≤ b + i * s.unit = omega (arith, low) in
    let higher : b + i * s.unit ≤ b + n * s.unit = omega (arith, high) in
    let from = div-mono (b + 1 * s.unit) (b + i * s.unit) s.bin_ms size lower in
    let to = div-mono (b + i * s.unit) (b + n * s.unit) s.bin_ms size higher in
    let first = bin-of-first s before after in
    let last = bin-of-epoch s before n after in
    let many : 0 < n = omega (arith, any, most) in
    let begins : bin_at s (before + s.unit) ≤ c = omega (arith, from, first, here) in
    let ends : c ≤ bin_at s (before + n * s.unit) = omega (arith, to, last, here) in
    and_from (ltb 0 n && leb (bin_at s (before + s.unit)) c) (leb c (bin_at s (before + n * s.unit)))
    (and_from (ltb 0 n) (leb (bin_at s (before + s.unit)) c) (lt-ltb 0 n many) (le-leb (bin_at s (before + s.unit)) c begins))
    (le-leb c (bin_at s (before + n * s.unit)) ends)

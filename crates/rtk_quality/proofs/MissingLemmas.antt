-- The epochs that are missing in an hour.
use Rattle.std.proofs.Common.{◌≡◌, ◌<◌, ◌≤◌, ◌+◌, ◌-◌, ◌*◌, ◌/◌, ℕ, zero, suc, arith, Option, None, Some, refl, ap, ◌∙◌}
use Rattle.std.specs.Prelude.{sum_by}
use Rattle.std.specs.List.{range_with_len}
use Rattle.std.proofs.Math.Nat.{zero-mul, suc-mul, div-mul-le_self, zero-div}
use Rattle.std.proofs.lemmas.Nat.{le-div}
use Rattle.std.proofs.lemmas.List.Sums.{sum_by-cons}
use Rattle.rtk_tracking.specs.Interval.{nearest_intervals, missing_before, nearness_of}
use Rattle.rtk_quality.specs.Hours.{hour_at, begin_of, missing_until, missing_within}
use Rattle.rtk_quality.specs.Laws.{HoursHaveAllMissing}
use Rattle.rtk_quality.specs.Steps.Noted as noted

-- ---- quotients

div-le : (a b u : ℕ) → 0 < u → a ≤ b → a / u ≤ b / u
div-le a b u some le =
    let below = div-mul-le_self a u in
    le-div (a / u) b u some (omega (arith, le, below))

one-less : (q u x : ℕ) → q * u ≤ x + u → (q - 1) * u ≤ x
one-less zero u x le =
    let none : 0 * u ≡ 0 = zero-mul u in
    let less : (zero - 1) * u ≡ 0 * u = ap (λ (k : ℕ). k * u) refl in
    omega (arith, none, less)
one-less (suc p) u x le =
    let more = suc-mul p u in
    let less : suc p - 1 ≡ p = omega arith in
    let is : (suc p - 1) * u ≡ p * u = ap (λ (k : ℕ). k * u) less in
    omega (arith, le, more, is)

-- as many epochs are missing as fit into the step, at most
missing-fit : (unit last t : ℕ) → 0 < unit → missing_before unit (Some last) t ≤ (t - last) / unit
missing-fit unit last t some =
    let step : ℕ = t - last in
    let q : ℕ = nearest_intervals unit step in
    let below = div-mul-le_self (step + (unit - 1) / 2) unit in
    le-div (q - 1) step unit some (one-less q unit step (omega (arith, below)))

-- ---- the missing epochs before a moment

all-until : (unit last t moment : ℕ) → 0 < unit → t < moment → missing_until unit last t moment ≡ missing_before unit (Some last) t
all-until unit last t moment some later =
    let fit = missing-fit unit last t some in
    let more = div-le (t - last) (moment - 1 - last) unit some (omega (arith, later)) in
    omega (arith, fit, more)

none-until : (unit last t moment : ℕ) → moment ≤ last + 1 → missing_until unit last t moment ≡ 0
none-until unit last t moment sooner =
    let nothing : moment - 1 - last ≡ 0 = omega (arith, sooner) in
    let none : (moment - 1 - last) / unit ≡ 0 = ap (λ (n : ℕ). n / unit) nothing ∙ zero-div unit in
    omega (arith, none)

until-rises : (unit last t one other : ℕ) → 0 < unit → one ≤ other → missing_until unit last t one ≤ missing_until unit last t other
until-rises unit last t one other some le =
    let more = div-le (one - 1 - last) (other - 1 - last) unit some (omega (arith, le)) in
    omega (arith, more)

-- ---- hours

near : (interval : Option ℕ) → nearness_of interval ≤ 25
near None = omega arith
near (Some interval) = omega arith

pub hour-rises : (interval : Option ℕ) (last t : ℕ) → last < t → hour_at interval last ≤ hour_at interval t
hour-rises interval last t lt = omega (arith, lt)

-- a moment lies before the next hour, and not before its own
before-next : (interval : Option ℕ) (t hour : ℕ) → hour_at interval t ≤ hour → t < begin_of interval (hour + 1)
before-next interval t hour le =
    let few = near interval in
    omega (arith, few, le)

not-before : (interval : Option ℕ) (t hour : ℕ) → hour ≤ hour_at interval t → begin_of interval hour ≤ t
not-before interval t hour le =
    let few = near interval in
    omega (arith, few, le)

pub none-later : (interval : Option ℕ) (unit hour last t : ℕ) → 0 < unit → last < t → hour_at interval t < hour → missing_within interval unit hour (Some last) t ≡ 0
none-later interval unit hour last t some lt later =
    let begin : t < begin_of interval hour = let few = near interval in omega (arith, few, later) in
    let one = all-until unit last t (begin_of interval hour) some begin in
    let other = all-until unit last t (begin_of interval (hour + 1)) some (before-next interval t hour (omega (arith, later))) in
    omega (arith, one, other)

pub none-earlier : (interval : Option ℕ) (unit hour last t : ℕ) → hour < hour_at interval last → missing_within interval unit hour (Some last) t ≡ 0
none-earlier interval unit hour last t earlier =
    let at = not-before interval last (hour + 1) (omega (arith, earlier)) in
    let one = none-until unit last t (begin_of interval (hour + 1)) (omega (arith, at)) in
    omega (arith, one)

-- in the hour of the second record
pub within-second : (interval : Option ℕ) (unit last t : ℕ) → 0 < unit → last < t
    → missing_within interval unit (hour_at interval t) (Some last) t ≡ noted.missing_since interval unit (Some last) t
within-second interval unit last t some lt =
    let all = all-until unit last t (begin_of interval (hour_at interval t + 1)) some (before-next interval t (hour_at interval t) (omega arith)) in
    let same : begin_of interval (hour_at interval t) ≡ t - noted.since_hour interval t = omega arith in
    let is : (begin_of interval (hour_at interval t) - 1 - last) / unit ≡ (t - noted.since_hour interval t - 1 - last) / unit = ap (λ (n : ℕ). (n - 1 - last) / unit) same in
    omega (arith, all, is)

-- in the hour of the first record
pub within-first : (interval : Option ℕ) (unit last t : ℕ) → 0 < unit → missing_within interval unit (hour_at interval last) (Some last) t ≡ noted.missing_until interval unit (Some last) t
within-first interval unit last t some =
    let few = near interval in
    let at = not-before interval last (hour_at interval last) (omega arith) in
    let none = none-until unit last t (begin_of interval (hour_at interval last)) (omega (arith, at)) in
    let same : begin_of interval (hour_at interval last + 1) - 1 - last ≡ 3_599_999 - noted.since_hour interval last = omega (arith, few) in
    let is : (begin_of interval (hour_at interval last + 1) - 1 - last) / unit ≡ (3_599_999 - noted.since_hour interval last) / unit = ap (λ (n : ℕ). n / unit) same in
    omega (arith, none, is)

-- ---- all hours together

steps-sum : (f : ℕ → ℕ) → ((k : ℕ) → f k ≤ f (k + 1)) → (a n : ℕ) → sum_by (λ k. f (k + 1) - f k) (range_with_len a n) + f a ≡ f (a + n)
steps-sum f rises a zero =
    let end : a + 0 ≡ a = omega arith in
    let same = ap f end in
    omega (arith, same)
steps-sum f rises a (suc n) =
    let more = sum_by-cons (λ k. f (k + 1) - f k) a (range_with_len (a + 1) n) in
    let rest = steps-sum f rises (a + 1) n in
    let step = rises a in
    let end : a + 1 + n ≡ a + suc n = omega arith in
    let same = ap f end in
    omega (arith, more, rest, step, same)

pub hours-have-missing : HoursHaveAllMissing
hours-have-missing interval unit last t some lt =
    let f : ℕ → ℕ = λ hour. missing_until unit last t (begin_of interval hour) in
    let first : ℕ = hour_at interval last in
    let count : ℕ = hour_at interval t - first + 1 in
    let rise = hour-rises interval last t lt in
    let sum = steps-sum f (λ k. until-rises unit last t (begin_of interval k) (begin_of interval (k + 1)) some (omega arith)) first count in
    let at = not-before interval last first (omega arith) in
    let none : f first ≡ 0 = none-until unit last t (begin_of interval first) (omega (arith, at)) in
    let end : first + count ≡ hour_at interval t + 1 = omega (arith, rise) in
    let all : f (first + count) ≡ missing_before unit (Some last) t =
    ap f end ∙ all-until unit last t (begin_of interval (hour_at interval t + 1)) some (before-next interval t (hour_at interval t) (omega arith)) in
    omega (arith, sum, none, all)

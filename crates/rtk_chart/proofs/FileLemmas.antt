-- A file has its numbers at the scale of its picture.
use Rattle.std.proofs.Common.{◌≡◌, ◌≤◌, ◌<◌, ◌+◌, ◌-◌, ◌*◌, ◌/◌, ◌==◌, ◌^◌, ℕ, suc, Bool, false, cond, count_by, Option, None, Some, List, [], ◌∷◌, length, inl, inr, refl, ap, subst, ◌∙◌, arith}
use Rattle.std.specs.Prelude.{All, AllPairs}
use Rattle.std.specs.Int.{IsInRange}
use Rattle.std.proofs.lemmas.Bool.{cases_lt, ne_eqb}
use Rattle.std.proofs.lemmas.List.Elements.{All-nil, All-cons, All-head, All-tail, All-weaker}
use Rattle.std.proofs.lemmas.List.Sums.{sum_by-cons}
use Rattle.rtk_obs.specs.Reading.{IsMoment}
use Rattle.rtk_rinex.specs.Record.{EpochTableView}
use Rattle.rtk_rinex.specs.Table.{WellFormedTable, IsWellFormedTable, IsTableEpoch}
use Rattle.rtk_tracking.specs.Epochs.{epochs_onto, newest_first}
use Rattle.rtk_chart.specs.Epochs.{slips_in, returns_in, rises_in}
use Rattle.rtk_tracking.specs.Interval.{steps_in, IsInterval, missing_in}
use Rattle.rtk_chart.specs.Scale.{IsScale, unit_of, half_of, scale_of, bin_at, bin_length}
use Rattle.rtk_chart.specs.HeadingLaws.{HasNumbers}
use Rattle.rtk_chart.proofs.ScaleLemmas.{mul-pos, bin-bound, bins-few}
use Rattle.rtk_chart.proofs.WidthLemmas.{unit-some, within}

-- ---- the scale

unit-bound : (interval : Option ℕ) → unit_of interval ≤ 3_818_015_999_999
unit-bound None = omega arith
unit-bound (Some interval) = omega arith

is-scale : (first last allowed : ℕ) (interval : Option ℕ) → IsMoment first → IsMoment last → IsInRange 1 1440 allowed → IsScale (scale_of first last interval allowed)
is-scale first last allowed interval from to room =
    let unit = unit_of interval in
    let span = last - first + half_of unit in
    let positive = unit-some interval in
    let bound = unit-bound interval in
    let low = room.0 in
    let high = room.1 in
    let some : 0 < allowed = omega (arith, low) in
    let any : 0 < span / (allowed * unit) + 1 = omega arith in
    let most = bin-bound span unit allowed some in
    let few = bins-few span unit allowed some positive in
    record {
      first = from;
      last = to;
      unit = positive;
      unit_bound = bound;
      bin = mul-pos (span / (allowed * unit) + 1) unit any positive;
      bin_bound = omega (arith, most, bound, to);
      bins = refl;
      few = omega (arith, few, high);
    }

-- ---- the newest epoch is the last one

abbrev Sooner : EpochTableView → EpochTableView → Type 0
Sooner a b = a.time < b.time

-- the epoch is at this moment or before it
abbrev NoLater : ℕ → EpochTableView → Type 0
NoLater t e = e.time ≤ t

-- the first of these epochs, if there is one, is the last in time
abbrev HasLast : List EpochTableView → Type 0
HasLast [] = Unit {0}
HasLast (e ∷ es) = All (NoLater e.time) (e ∷ es)

-- the first of these epochs, if there is one, comes after the others
abbrev ComesAfter : List EpochTableView → List EpochTableView → Type 0
ComesAfter [] before = Unit {0}
ComesAfter (e ∷ es) before = All (NoLater e.time) before

pairs-head : (x : EpochTableView) (xs : List EpochTableView) → AllPairs Sooner (x ∷ xs) → All (Sooner x) xs
pairs-head x xs h = λ k d lt. h 0 (suc k) d (omega arith) (omega (arith, lt))

pairs-tail : (x : EpochTableView) (xs : List EpochTableView) → AllPairs Sooner (x ∷ xs) → AllPairs Sooner xs
pairs-tail x xs h = λ i j d lt inside. h (suc i) (suc j) d (omega (arith, lt)) (omega (arith, inside))

with-first : (e : EpochTableView) (before : List EpochTableView) → All (NoLater e.time) before → All (NoLater e.time) (e ∷ before)
with-first e before h = All-cons (NoLater e.time) e before (omega arith) h

comes-after : (e : EpochTableView) (es before : List EpochTableView) → AllPairs Sooner (e ∷ es) → All (NoLater e.time) before → ComesAfter es (e ∷ before)
comes-after e [] before rise h = tt
comes-after e (f ∷ es) before rise h =
    let next : e.time < f.time = All-head (Sooner e) f es (pairs-head e (f ∷ es) rise) in
    let here : e.time ≤ f.time = omega (arith, next) in
    All-cons (NoLater f.time) e before here
    (All-weaker (NoLater e.time) (NoLater f.time) (λ x sooner. omega (arith, sooner, next)) before h)

has-last : (es before : List EpochTableView) → AllPairs Sooner es → HasLast before → ComesAfter es before → HasLast (epochs_onto es before)
has-last [] before rise last after = last
has-last (e ∷ es) before rise last after =
    has-last es (e ∷ before) (pairs-tail e es rise) (with-first e before after) (comes-after e es before rise after)

none-before : (es : List EpochTableView) → ComesAfter es []
none-before [] = tt
none-before (e ∷ es) = All-nil (NoLater e.time)

all-onto : (P : EpochTableView → Type 0) (es before : List EpochTableView) → All P es → All P before → All P (epochs_onto es before)
all-onto P [] before h g = g
all-onto P (e ∷ es) before h g = all-onto P es (e ∷ before) (All-tail P e es h) (All-cons P e before (All-head P e es h) g)

-- ---- the interval is no longer than a file

abbrev Short : ℕ → Type 0
Short step = step ≤ 3_818_015_999_999

abbrev AtMoment : EpochTableView → Type 0
AtMoment e = IsMoment e.time

short-steps : (es : List EpochTableView) → All AtMoment es → All Short (steps_in es)
short-steps [] h = All-nil Short
short-steps (e ∷ []) h = All-nil Short
short-steps (e ∷ f ∷ es) h =
    let at : e.time ≤ 3_818_015_999_999 = All-head AtMoment e (f ∷ es) h in
    All-cons Short (e.time - f.time) (steps_in (f ∷ es)) (omega (arith, at)) (short-steps (f ∷ es) (All-tail AtMoment e (f ∷ es) h))

none-so-long : (step : ℕ) (steps : List ℕ) → 3_818_015_999_999 < step → All Short steps → count_by (λ s. s == step) steps ≡ 0
none-so-long step [] long h = refl
none-so-long step (s ∷ steps) long h =
    let short : s ≤ 3_818_015_999_999 = All-head Short s steps h in
    let no : (s == step) ≡ false = ne_eqb s step (λ same. omega (arith, same, short, long)) in
    sum_by-cons (λ (x : ℕ). cond (x == step) 1 0) s steps
    ∙ ap (λ (b : Bool). cond b 1 0 + count_by (λ x. x == step) steps) no
    ∙ ap (λ (n : ℕ). 0 + n) (none-so-long step steps long (All-tail Short s steps h))

interval-fits : (steps : List ℕ) (interval : Option ℕ) → IsInterval steps interval → All Short steps → (ms : ℕ) → interval ≡ Some ms → ms < 2 ^ 64
interval-fits steps None is h ms same = absurd (cc)
interval-fits steps (Some step) is h ms same =
    let at : step ≡ ms = cc in
    elim (cases_lt 3_818_015_999_999 step) [
      | inl long ↦
          let none = none-so-long step steps long h in
          let there = is.there in
          absurd (omega (arith, none, there))
      | inr short ↦ omega (arith, at, short)
    ]

-- ---- a file

on-bins : (first last allowed : ℕ) (interval : Option ℕ) (es : List EpochTableView) → IsInRange 1 1440 allowed → All (NoLater last) es
    → All (λ e. bin_at (scale_of first last interval allowed) e.time < (scale_of first last interval allowed).bins) es
on-bins first last allowed interval es room sooner =
    let unit = unit_of interval in
    let span = last - first + half_of unit in
    let any : 0 < span / (allowed * unit) + 1 = omega arith in
    let size = mul-pos (span / (allowed * unit) + 1) unit any (unit-some interval) in
    All-weaker (NoLater last) (λ (e : EpochTableView). bin_at (scale_of first last interval allowed) e.time < (scale_of first last interval allowed).bins)
    (λ e to. within first last (half_of unit) (bin_length span unit allowed) e.time size to) es sooner

at-moments : (n : ℕ) (es : List EpochTableView) → All (IsTableEpoch n) es → All AtMoment es
at-moments n es h = All-weaker (IsTableEpoch n) AtMoment (λ e is. is.time) es h

pub tables-have-numbers : (t : WellFormedTable) (interval : Option ℕ) (allowed : ℕ) (e : EpochTableView) (before : List EpochTableView)
    → IsWellFormedTable t → newest_first t.epochs ≡ e ∷ before → IsInterval (steps_in (e ∷ before)) interval → IsInRange 1 1440 allowed
    → length (e ∷ before) < 2 ^ 64 → slips_in interval (e ∷ before) < 2 ^ 64 → returns_in interval (e ∷ before) < 2 ^ 64
    → rises_in interval (e ∷ before) < 2 ^ 64 → missing_in (unit_of interval) (e ∷ before) < 2 ^ 64
    → HasNumbers (scale_of t.first e.time interval allowed) (e ∷ before)
tables-have-numbers t interval allowed e before is newest steps room records slips returns rises missing =
    let moments : All AtMoment (e ∷ before) =
    subst (λ (es : List EpochTableView). All AtMoment es) newest
    (all-onto AtMoment t.epochs [] (at-moments _ t.epochs is.epochs) (All-nil AtMoment)) in
    let last : All (NoLater e.time) (e ∷ before) =
    subst (λ (es : List EpochTableView). HasLast es) newest (has-last t.epochs [] is.rise tt (none-before t.epochs)) in
    let end : IsMoment e.time = All-head AtMoment e before moments in
    record {
      scale = is-scale t.first e.time allowed interval is.first end room;
      bins = on-bins t.first e.time allowed interval (e ∷ before) room last;
      interval = interval-fits (steps_in (e ∷ before)) interval steps (short-steps (e ∷ before) moments);
      records = records;
      slips = slips;
      returns = returns;
      rises = rises;
      missing = missing;
    }

-- Each record is in one hour.
use Rattle.std.proofs.Common.{◌≡◌, ◌<◌, ◌+◌, ◌^◌, ◌==◌, ◌||◌, ℕ, Bool, true, false, cond, arith, length, map, List, [], ◌∷◌, ◌++◌, Option, None, Some, inl, inr, refl, sym, ap, subst, ◌∙◌}
use Rattle.std.specs.Prelude.{sum, count_by, sum_by}
use Rattle.std.specs.List.{list_any, AllByRecursion}
use Rattle.std.proofs.lemmas.Bool.{cases_Bool, cases_eq, eq-eqb, ne_eqb}
use Rattle.std.proofs.lemmas.List.Sums.{sum_by-cons}
use Rattle.rtk_obs.specs.declared.any_code.AnyCode.{AnyCode}
use Rattle.rtk_rinex.specs.Record.{EpochTableView}
use Rattle.rtk_rinex.specs.declared.epoch_table.SatelliteRow.{SatelliteRow}
use Rattle.rtk_tracking.specs.Epochs.{newest_moment}
use Rattle.rtk_quality.specs.Counts.{mean_hundredths}
use Rattle.rtk_quality.specs.Hours.{hour_at, with_hour, hours_in, sum_in_hour, strengths_in_hour, counts_of_hour}
use Rattle.rtk_quality.specs.Laws.{EachHourHasOneLine, HoursHaveAllRecords, MeanOfHourIsOfAll}
use Rattle.rtk_quality.specs.Records.{unit_of}
use Rattle.rtk_quality.specs.Steps.Noted.{missing_since, missing_until, no_locks, locks_onto, without_records, with_record, ended_hour, hour_onto, ended_by, newest_hour, older_hours, noted_hours}
use Rattle.rtk_quality.specs.Strengths.{strengths_of_rows}
use Rattle.rtk_quality.specs.declared.hours.Locks.{Locks}
use Rattle.rtk_quality.specs.declared.hours.HourCounts.{HourCounts}
use Rattle.rtk_quality.proofs.HourCountLemmas.{Hours, hours-fall, noted-are}
use Rattle.rtk_quality.proofs.LawLemmas.{shown-mean}
use Rattle.rtk_quality.proofs.OrderLemmas.{AreFalling, falling}

-- ---- one line for each hour

abbrev one : Bool → ℕ
one b = cond b 1 0

-- how many of these hours are this one
abbrev times : ℕ → List ℕ → ℕ
times hour hours = count_by (λ h. h == hour) hours

times-more : (hour h : ℕ) (hours : List ℕ) → times hour (h ∷ hours) ≡ one (h == hour) + times hour hours
times-more hour h hours = sum_by-cons (λ x. one (x == hour)) h hours

none-earlier : (hour : ℕ) (hours : List ℕ) → AllByRecursion (λ h. h < hour) hours → times hour hours ≡ 0
none-earlier hour [] earlier = refl
none-earlier hour (h ∷ hours) earlier =
    let first = earlier.0 in
    let other : one (h == hour) ≡ 0 = ap one (ne_eqb h hour (λ same. absurd (omega (arith, same, first)))) in
    let rest = none-earlier hour hours earlier.1 in
    let more = times-more hour h hours in
    omega (arith, other, rest, more)

-- some record lies in the hour
abbrev has : Option ℕ → ℕ → List EpochTableView → Bool
has interval hour es = list_any (λ e. hour_at interval e.time == hour) es

times-in : (interval : Option ℕ) (hour : ℕ) (es : List EpochTableView) → AreFalling es → times hour (hours_in interval es) ≡ one (has interval hour es)
times-in interval hour [] fall = refl
times-in interval hour (e ∷ []) fall =
    let more = times-more hour (hour_at interval e.time) [] in
    let last : one (has interval hour (e ∷ [])) ≡ one (hour_at interval e.time == hour) = either (hour_at interval e.time == hour) in
    omega (arith, more, last)
  where
    either : (b : Bool) → one (b || false) ≡ one b
    either true = refl
    either false = refl
times-in interval hour (e ∷ f ∷ es) fall =
    let h : ℕ = hour_at interval e.time in
    let newest : ℕ = hour_at interval f.time in
    let hours : Hours interval f es = hours-fall interval f es fall.1 in
    let all : Hours interval e (f ∷ es) = hours-fall interval e (f ∷ es) fall in
    let was = times-in interval hour (f ∷ es) fall.1 in
    elim (cases_eq h hour) [
      | inl own ↦
          -- the newest hour is this one, and all others are earlier
          let this : one (h == hour) ≡ 1 = ap one (eq-eqb h hour own) in
          let found : one (has interval hour (e ∷ f ∷ es)) ≡ 1 = ap (λ (b : Bool). one (b || has interval hour (f ∷ es))) (eq-eqb h hour own) in
          let none = none-earlier hour all.older (earlier-than hour h all.older own all.earlier) in
          let is : times hour (hours_in interval (e ∷ f ∷ es)) ≡ times hour (h ∷ all.older) = ap (λ (hs : List ℕ). times hour hs) all.are in
          let more = times-more hour h all.older in
          omega (arith, this, found, none, is, more)
      | inr other ↦
          let found : one (has interval hour (e ∷ f ∷ es)) ≡ one (has interval hour (f ∷ es)) = ap (λ (b : Bool). one (b || has interval hour (f ∷ es))) (ne_eqb h hour other) in
          let not_this : one (h == hour) ≡ 0 = ap one (ne_eqb h hour other) in
          let is : times hour (hours_in interval (e ∷ f ∷ es)) ≡ times hour (cond (newest == h) (newest ∷ hours.older) (h ∷ newest ∷ hours.older)) =
          ap (λ (hs : List ℕ). times hour (with_hour h hs)) hours.are in
          let before : times hour (hours_in interval (f ∷ es)) ≡ times hour (newest ∷ hours.older) = ap (λ (hs : List ℕ). times hour hs) hours.are in
          let more = times-more hour h (newest ∷ hours.older) in
          let either = chosen hour (newest == h) h (newest ∷ hours.older) not_this in
          omega (arith, found, is, before, either, was)
    ]
  where
    earlier-than : (one other : ℕ) (hours : List ℕ) → other ≡ one → AllByRecursion (λ h. h < other) hours → AllByRecursion (λ h. h < one) hours
    earlier-than one other hours same earlier = subst (λ (n : ℕ). AllByRecursion (λ h. h < n) hours) same earlier

    chosen : (hour : ℕ) (b : Bool) (h : ℕ) (hours : List ℕ) → one (h == hour) ≡ 0 → times hour (cond b hours (h ∷ hours)) ≡ times hour hours
    chosen hour true h hours other = refl
    chosen hour false h hours other =
        let more = times-more hour h hours in
        omega (arith, other, more)

lines-are : (interval : Option ℕ) (unit : ℕ) (listed : List AnyCode) (es : List EpochTableView) (hour : ℕ) (hours : List ℕ)
    → count_by (λ h. h.hour == hour) (map (counts_of_hour interval unit listed es) hours) ≡ times hour hours
lines-are interval unit listed es hour [] = refl
lines-are interval unit listed es hour (h ∷ hours) =
    let first = sum_by-cons (λ x. one (x.hour == hour)) (counts_of_hour interval unit listed es h) (map (counts_of_hour interval unit listed es) hours) in
    let more = times-more hour h hours in
    let rest = lines-are interval unit listed es hour hours in
    omega (arith, first, more, rest)

pub each-has-one-line : EachHourHasOneLine
each-has-one-line interval unit listed es hour fall = lines-are interval unit listed es hour (hours_in interval es) ∙ times-in interval hour es (falling es fall)

-- ---- the records of hours

abbrev in-hours : List HourCounts → ℕ
in-hours hs = sum_by (λ h. h.records) hs

-- one record more
record-more : (missing hour after : ℕ) (listed : List AnyCode) (rows : List SatelliteRow) (locks : Locks) (hs : List HourCounts) → in-hours hs + 1 < 2 ^ 64
    → in-hours (with_record missing listed rows locks (hour_onto hour (newest_hour hs)) ∷ ended_by hour after (newest_hour hs) ++ older_hours hs) ≡ in-hours hs + 1
record-more missing hour after listed rows locks [] few =
    let more = sum_by-cons (λ x. x.records) (with_record missing listed rows locks (without_records hour)) [] in
    omega (arith, more)
record-more missing hour after listed rows locks (h ∷ hs) few =
    let all = sum_by-cons (λ x. x.records) h hs in
    elim (cases_Bool (h.hour == hour)) [
      | inl same ↦
          let with : HourCounts = with_record missing listed rows locks h in
          let is : in-hours (with_record missing listed rows locks (hour_onto hour (Some h)) ∷ ended_by hour after (Some h) ++ hs) ≡ in-hours (with ∷ hs) =
          ap (λ (b : Bool). in-hours (with_record missing listed rows locks (cond b h (without_records hour)) ∷ cond b [] (ended_hour after h ∷ []) ++ hs)) same in
          let more = sum_by-cons (λ x. x.records) with hs in
          omega (arith, is, all, more, few)
      | inr other ↦
          let with : HourCounts = with_record missing listed rows locks (without_records hour) in
          let is : in-hours (with_record missing listed rows locks (hour_onto hour (Some h)) ∷ ended_by hour after (Some h) ++ hs) ≡ in-hours (with ∷ ended_hour after h ∷ hs) =
          ap (λ (b : Bool). in-hours (with_record missing listed rows locks (cond b h (without_records hour)) ∷ cond b [] (ended_hour after h ∷ []) ++ hs)) other in
          let more = sum_by-cons (λ x. x.records) with (ended_hour after h ∷ hs) in
          let ended = sum_by-cons (λ x. x.records) (ended_hour after h) hs in
          omega (arith, is, all, more, ended, few)
    ]

noted-have-all : (interval : Option ℕ) (unit : ℕ) (listed : List AnyCode) (es : List EpochTableView) → length es < 2 ^ 64 → in-hours (noted_hours interval unit listed es) ≡ length es
noted-have-all interval unit listed [] few = refl
noted-have-all interval unit listed (e ∷ es) few =
    let was = noted-have-all interval unit listed es (omega (arith, few)) in
    let more = record-more (missing_since interval unit (newest_moment es) e.time) (hour_at interval e.time) (missing_until interval unit (newest_moment es) e.time)
    listed e.rows (locks_onto interval es e.time no_locks e.rows) (noted_hours interval unit listed es) (omega (arith, few, was)) in
    omega (arith, more, was)

pub some-unit : (interval : Option ℕ) → 0 < unit_of interval
some-unit None = omega arith
some-unit (Some interval) = omega arith

pub hours-have-all : HoursHaveAllRecords
hours-have-all interval listed es fall few =
    ap (λ (hs : List HourCounts). in-hours hs) (sym (noted-are interval (unit_of interval) listed es (some-unit interval) (falling es fall)))
    ∙ noted-have-all interval (unit_of interval) listed es few

-- ---- the means of hours

pub hour-mean-of-all : MeanOfHourIsOfAll
hour-mean-of-all interval hour listed es band few fits =
    let there : ℕ = sum_in_hour interval hour (λ before e. length (strengths_of_rows band listed e.rows)) es in
    let total : ℕ = sum_in_hour interval hour (λ before e. sum (strengths_of_rows band listed e.rows)) es in
    let count : (strengths_in_hour interval hour listed es band).count ≡ there = omega (arith, few) in
    let all : (strengths_in_hour interval hour listed es band).sum ≡ total = omega (arith, fits) in
    ap (λ (n : ℕ). mean_hundredths (strengths_in_hour interval hour listed es band).sum n) count ∙ ap (λ (n : ℕ). mean_hundredths n there) all ∙ shown-mean total there fits

-- Dates that are told, by station and by week.
use Rattle.std.proofs.Common.{◌≡◌, ◌≢◌, ◌+◌, ◌==◌, ◌&&◌, ℕ, Bool, true, false, cond, List, ◌∷◌, Option, None, Some, refl, sym, ap, ◌∙◌, ne_eqb, arith}
use Rattle.std.proofs.lemmas.Bool.{eq-eqb}
use Rattle.std.proofs.lemmas.List.Sums.{sum_by-cons}
use Rattle.std.specs.List.{count_by}
use Rattle.std.specs.BTreeMap.{BTreeMap}
use Rattle.rtk_survey.specs.Contents.{one_if, count_at, CountsWeeks}
use Rattle.rtk_survey.specs.Counting.{shown_count, count_of}
use Rattle.rtk_survey.specs.FrameDates.{dates_as, utc_if, earlier_or, first_date, date_count, station_dates, is_of_week}
use Rattle.rtk_survey.specs.Telling.{is_date}
use Rattle.rtk_survey.specs.declared.date_message.DateMessage.{DateMessage}
use Rattle.rtk_survey.specs.declared.date_message.DateMessage.TheVariants.{Utc, Ephemeris, OtherEphemeris}
use Rattle.rtk_survey.specs.declared.date_message.EphemerisDate.{EphemerisDate}
use Rattle.rtk_survey.specs.declared.date_message.UtcDate.{UtcDate}
use Rattle.rtk_survey.specs.declared.station_dates.DateCount.{DateCount}
use Rattle.rtk_survey.specs.declared.station_dates.StationDates.{StationDates}
use Rattle.rtk_survey.specs.declared.system_message.SystemWeek.{SystemWeek}
use Rattle.rtk_survey.proofs.TallyLemmas.{tally-more}

-- ---- counts

count-more : (test : DateMessage → Bool) (m : DateMessage) (ds : List DateMessage) (old new : ℕ) → old ≡ count_of test ds
    → new ≡ shown_count (old + one_if (test m)) → new ≡ count_of test (m ∷ ds)
count-more test m ds old new was is =
    let n : ℕ = cond (test m) 1 0 in
    let k : ℕ = count_by test ds in
    let shown : shown_count (shown_count k + n) ≡ shown_count (n + k) = omega arith in
    is ∙ ap (λ (a : ℕ). shown_count (a + n)) was ∙ shown ∙ ap shown_count (sym (sum_by-cons (λ (x : DateMessage). cond (test x) 1 0) m ds))

count-other : (test : DateMessage → Bool) (m : DateMessage) (ds : List DateMessage) → test m ≡ false → count_of test (m ∷ ds) ≡ count_of test ds
count-other test m ds fails =
    let k : ℕ = count_by test ds in
    let none : shown_count (cond false 1 0 + k) ≡ shown_count k = omega arith in
    ap shown_count (sum_by-cons (λ (x : DateMessage). cond (test x) 1 0) m ds) ∙ ap (λ (b : Bool). shown_count (cond b 1 0 + k)) fails ∙ none

-- ---- a station

and-true : (b : Bool) → (b && true) ≡ b
and-true true = refl
and-true false = refl

and-false : (b : Bool) → (b && false) ≡ false
and-false true = refl
and-false false = refl

-- a message of the station
own-date : (number station : ℕ) (d : UtcDate) → station ≡ d.station → dates_as number station (Utc d) ≡ (is_date d && (d.number == number))
own-date number station d same =
    ap (λ (b : Bool). is_date d && ((d.number == number) && b)) (eq-eqb d.station station (sym same))
    ∙ ap (λ (b : Bool). is_date d && b) (and-true (d.number == number))

-- and one of another
other-date : (number station : ℕ) (d : UtcDate) → station ≢ d.station → dates_as number station (Utc d) ≡ false
other-date number station d other =
    let no : (d.station == station) ≡ false = ne_eqb d.station station (λ same. other (sym same)) in
    ap (λ (b : Bool). is_date d && ((d.number == number) && b)) no
    ∙ ap (λ (b : Bool). is_date d && b) (and-false (d.number == number)) ∙ and-false (is_date d)

abbrev pub count_with : Option UtcDate → ℕ → DateCount
count_with first count = record { first = first; count = count }

pub date-more : (number station : ℕ) (d : UtcDate) (ds : List DateMessage) (counts : Bool) (old : DateCount) (first : Option UtcDate) (count : ℕ) → station ≡ d.station
    → counts ≡ (is_date d && (d.number == number)) → old ≡ date_count number station ds
    → first ≡ earlier_or old.first (utc_if counts (Utc d)) → count ≡ shown_count (old.count + one_if counts)
    → count_with first count ≡ date_count number station (Utc d ∷ ds)
date-more number station d ds counts old first count same is stands firsts more =
    let test : Bool = dates_as number station (Utc d) in
    let tests : counts ≡ test = is ∙ sym (own-date number station d same) in
    let a : first ≡ first_date number station (Utc d ∷ ds) = firsts ∙ ap (λ (b : Bool). earlier_or old.first (utc_if b (Utc d))) tests
    ∙ ap (λ (o : DateCount). earlier_or o.first (utc_if test (Utc d))) stands in
    let b : count ≡ count_of (dates_as number station) (Utc d ∷ ds) =
    count-more (dates_as number station) (Utc d) ds old.count count (ap (λ (o : DateCount). o.count) stands) (more ∙ ap (λ (t : Bool). shown_count (old.count + one_if t)) tests) in
    ap (λ (o : Option UtcDate). count_with o count) a ∙ ap (λ (n : ℕ). count_with (first_date number station (Utc d ∷ ds)) n) b

abbrev pub dates_with : DateCount → DateCount → StationDates
dates_with a b = record { of_1013 = a; of_1029 = b }

pub both-dates : (a b : DateCount) (station : ℕ) (ds : List DateMessage) → a ≡ date_count 1013 station ds → b ≡ date_count 1029 station ds → dates_with a b ≡ station_dates station ds
both-dates a b station ds first second = ap (λ (x : DateCount). dates_with x b) first ∙ ap (λ (y : DateCount). dates_with (date_count 1013 station ds) y) second

earlier-none : (o : Option UtcDate) → earlier_or o None ≡ o
earlier-none None = refl
earlier-none (Some d) = refl

-- a message that does not count
same-count : (number station : ℕ) (m : DateMessage) (ds : List DateMessage) → dates_as number station m ≡ false → date_count number station (m ∷ ds) ≡ date_count number station ds
same-count number station m ds fails =
    let o : Option UtcDate = first_date number station ds in
    let a : first_date number station (m ∷ ds) ≡ o = ap (λ (b : Bool). earlier_or o (utc_if b m)) fails ∙ earlier-none o in
    let b : count_of (dates_as number station) (m ∷ ds) ≡ count_of (dates_as number station) ds = count-other (dates_as number station) m ds fails in
    ap (λ (x : Option UtcDate). count_with x (count_of (dates_as number station) (m ∷ ds))) a ∙ ap (λ (n : ℕ). count_with o n) b

same-dates : (station : ℕ) (m : DateMessage) (ds : List DateMessage) → dates_as 1013 station m ≡ false → dates_as 1029 station m ≡ false → station_dates station (m ∷ ds) ≡ station_dates station ds
same-dates station m ds first second = both-dates (date_count 1013 station (m ∷ ds)) (date_count 1029 station (m ∷ ds)) station ds (same-count 1013 station m ds first) (same-count 1029 station m ds second)

-- a message of another station
pub same-dates-of : (station : ℕ) (d : UtcDate) (ds : List DateMessage) → station ≢ d.station → station_dates station (Utc d ∷ ds) ≡ station_dates station ds
same-dates-of station d ds other = same-dates station (Utc d) ds (other-date 1013 station d other) (other-date 1029 station d other)

-- a message without a station
pub same-dates-without : (station : ℕ) (e : EphemerisDate) (ds : List DateMessage) → station_dates station (Ephemeris e ∷ ds) ≡ station_dates station ds
same-dates-without station e ds = same-dates station (Ephemeris e) ds refl refl

pub same-dates-beside : (station : ℕ) (w : SystemWeek) (ds : List DateMessage) → station_dates station (OtherEphemeris w ∷ ds) ≡ station_dates station ds
same-dates-beside station w ds = same-dates station (OtherEphemeris w) ds refl refl

-- ---- weeks

pub weeks-more : (old new : BTreeMap ℕ ℕ) (e : EphemerisDate) (ds : List DateMessage) → count_at new e.week ≡ shown_count (count_at old e.week + 1)
    → ((n : ℕ) → n ≢ e.week → count_at new n ≡ count_at old n) → CountsWeeks old ds → CountsWeeks new (Ephemeris e ∷ ds)
weeks-more old new e ds own others counts = tally-more (λ n d. is_of_week n d) (Ephemeris e) ds old new e.week (λ n. refl) own others counts

pub weeks-same : (weeks : BTreeMap ℕ ℕ) (d : UtcDate) (ds : List DateMessage) → CountsWeeks weeks ds → CountsWeeks weeks (Utc d ∷ ds)
weeks-same weeks d ds stand = λ n. stand n ∙ sym (count-other (is_of_week n) (Utc d) ds refl)

pub weeks-same-beside : (weeks : BTreeMap ℕ ℕ) (w : SystemWeek) (ds : List DateMessage) → CountsWeeks weeks ds → CountsWeeks weeks (OtherEphemeris w ∷ ds)
weeks-same-beside weeks w ds stand = λ n. stand n ∙ sym (count-other (is_of_week n) (OtherEphemeris w) ds refl)

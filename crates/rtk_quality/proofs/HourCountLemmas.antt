-- The hours of records that were noted one after another are the hours of the file.
use Rattle.std.proofs.Common.{◌≡◌, ◌≢◌, ◌<◌, ◌≤◌, ◌+◌, ◌==◌, ℕ, Bool, true, false, cond, arith, length, map, List, [], ◌∷◌, ◌++◌, Option, None, Some, inl, inr, refl, sym, ap, subst, ◌∙◌}
use Rattle.std.specs.Prelude.{sum, sum_by}
use Rattle.std.specs.List.{AllByRecursion}
use Rattle.std.proofs.lemmas.Bool.{cases_eq, eq-eqb, ne_eqb}
use Rattle.std.proofs.lemmas.List.{length-append}
use Rattle.std.proofs.lemmas.List.Sums.{sum_by-cons, sum_by-append}
use Rattle.rtk_quality.specs.Strengths.{band_in_name}
use Rattle.rtk_quality.specs.declared.strengths.CodeBand.{CodeBand}
use Rattle.rtk_quality.specs.declared.strengths.CodeBand.TheVariants.{B1, B2, B5, B6, B7, B8}
use Rattle.rtk_obs.specs.declared.any_code.AnyCode.{AnyCode}
use Rattle.rtk_rinex.specs.Record.{EpochTableView}
use Rattle.rtk_rinex.specs.declared.epoch_table.Observed.{Observed}
use Rattle.rtk_rinex.specs.declared.epoch_table.SatelliteRow.{SatelliteRow}
use Rattle.rtk_tracking.specs.Epochs.{capped, newest_moment}
use Rattle.rtk_tracking.specs.Passes.{Sighting, sightings_of, has_phase}
use Rattle.rtk_quality.specs.Hours.{hour_at, with_hour, hours_in, sum_in_hour, slips_of, returns_of, returns_at, sum_of_rows, missing_within, missing_in_hour, counts_of_hour, hours_of}
use Rattle.rtk_quality.specs.Records.{rows_of}
use Rattle.rtk_quality.specs.SatellitePasses.{slips_at}
use Rattle.rtk_quality.specs.Strengths.{number_of, is_of_band, list_of_strength, strengths_of_row, strengths_of_rows, of_band}
use Rattle.rtk_quality.specs.Steps.Noted.{missing_since, missing_until, no_locks, locks_plus, locks_at, locks_onto, with_one, with_strength, with_row, with_rows, without_records, with_record, ended_hour, hours_with, noted_hours}
use Rattle.rtk_quality.specs.declared.hours.Locks.{Locks}
use Rattle.rtk_quality.specs.declared.hours.HourCounts.{HourCounts}
use Rattle.rtk_quality.specs.declared.strengths.BandStrengths.{BandStrengths}
use Rattle.rtk_quality.specs.declared.strengths.Strengths.{Strengths}
use Rattle.rtk_quality.proofs.OrderLemmas.{AreFalling}
use Rattle.rtk_quality.proofs.MissingLemmas.{hour-rises, none-later, none-earlier, within-second, within-first}

-- ---- sums of an hour, a record more

sum-own : (interval : Option ℕ) (hour : ℕ) (number : List EpochTableView → EpochTableView → ℕ) (e : EpochTableView) (es : List EpochTableView)
    → hour_at interval e.time ≡ hour → sum_in_hour interval hour number (e ∷ es) ≡ sum_in_hour interval hour number es + number es e
sum-own interval hour number e es own = ap (λ (b : Bool). sum_in_hour interval hour number es + cond b (number es e) 0) (eq-eqb (hour_at interval e.time) hour own)

sum-other : (interval : Option ℕ) (hour : ℕ) (number : List EpochTableView → EpochTableView → ℕ) (e : EpochTableView) (es : List EpochTableView)
    → hour_at interval e.time ≢ hour → sum_in_hour interval hour number (e ∷ es) ≡ sum_in_hour interval hour number es
sum-other interval hour number e es other =
    let none : sum_in_hour interval hour number es + 0 ≡ sum_in_hour interval hour number es = omega arith in
    ap (λ (b : Bool). sum_in_hour interval hour number es + cond b (number es e) 0) (ne_eqb (hour_at interval e.time) hour other) ∙ none

-- an hour that is later than the record at this moment, if there is one
abbrev IsLater : Option ℕ → ℕ → Option ℕ → Type 0
IsLater interval hour None = Unit {0}
IsLater interval hour (Some last) = hour_at interval last < hour

still-later : (interval : Option ℕ) (hour : ℕ) (e : EpochTableView) (es : List EpochTableView) → AreFalling (e ∷ es) → hour_at interval e.time < hour → IsLater interval hour (newest_moment es)
still-later interval hour e [] fall later = tt
still-later interval hour e (f ∷ es) fall later =
    let rise = hour-rises interval f.time e.time fall.0 in
    omega (arith, rise, later)

sum-later : (interval : Option ℕ) (hour : ℕ) (number : List EpochTableView → EpochTableView → ℕ) (es : List EpochTableView)
    → AreFalling es → IsLater interval hour (newest_moment es) → sum_in_hour interval hour number es ≡ 0
sum-later interval hour number [] fall later = refl
sum-later interval hour number (e ∷ es) fall later =
    sum-other interval hour number e es (λ same. absurd (omega (arith, same, later)))
    ∙ sum-later interval hour number es fall.1 (still-later interval hour e es fall later)

within-later : (interval : Option ℕ) (unit hour : ℕ) (e : EpochTableView) (es : List EpochTableView) → 0 < unit → AreFalling (e ∷ es) → hour_at interval e.time < hour
    → missing_within interval unit hour (newest_moment es) e.time ≡ 0
within-later interval unit hour e [] some fall later = refl
within-later interval unit hour e (f ∷ es) some fall later = none-later interval unit hour f.time e.time some fall.0 later

missing-later : (interval : Option ℕ) (unit hour : ℕ) (es : List EpochTableView) → 0 < unit → AreFalling es → IsLater interval hour (newest_moment es) → missing_in_hour interval unit hour es ≡ 0
missing-later interval unit hour [] some fall later = refl
missing-later interval unit hour (e ∷ es) some fall later =
    let rest = missing-later interval unit hour es some fall.1 (still-later interval hour e es fall later) in
    let here = within-later interval unit hour e es some fall later in
    omega (arith, rest, here)

-- ---- slips and returns

slips-are : (interval : Option ℕ) (before : List Sighting) (s : Sighting) → (locks_at interval before s).slips ≡ slips_of interval before s
slips-are interval before s = chosen (has_phase s.observed) (slips_at interval before s) (returns_at interval before s)
  where
    chosen : (b : Bool) (slips returns : ℕ) → (cond b (record { slips = slips; returns = returns }) no_locks).slips ≡ cond b slips 0
    chosen true slips returns = refl
    chosen false slips returns = refl

returns-are : (interval : Option ℕ) (before : List Sighting) (s : Sighting) → (locks_at interval before s).returns ≡ returns_of interval before s
returns-are interval before s = chosen (has_phase s.observed) (slips_at interval before s) (returns_at interval before s)
  where
    chosen : (b : Bool) (slips returns : ℕ) → (cond b (record { slips = slips; returns = returns }) no_locks).returns ≡ cond b returns 0
    chosen true slips returns = refl
    chosen false slips returns = refl

-- a satellite in an epoch at this moment
abbrev seen : ℕ → SatelliteRow → Sighting
seen t r = record { time = t; observed = r.observed.items }

slips-summed : (interval : Option ℕ) (es : List EpochTableView) (t n : ℕ) (locks : Locks) (rows : List SatelliteRow) → locks.slips ≡ capped n
    → (locks_onto interval es t locks rows).slips ≡ capped (n + sum_by (λ r. slips_of interval (sightings_of r.satellite es) (seen t r)) rows)
slips-summed interval es t n locks [] was = omega (arith, was)
slips-summed interval es t n locks (r ∷ rows) was =
    let own : ℕ = slips_of interval (sightings_of r.satellite es) (seen t r) in
    let all = sum_by-cons (λ x. slips_of interval (sightings_of x.satellite es) (seen t x)) r rows in
    let here = slips-are interval (sightings_of r.satellite es) (seen t r) in
    let rest = slips-summed interval es t (n + own) (locks_plus locks (locks_at interval (sightings_of r.satellite es) (seen t r))) rows (omega (arith, was, here)) in
    omega (arith, all, rest)

returns-summed : (interval : Option ℕ) (es : List EpochTableView) (t n : ℕ) (locks : Locks) (rows : List SatelliteRow) → locks.returns ≡ capped n
    → (locks_onto interval es t locks rows).returns ≡ capped (n + sum_by (λ r. returns_of interval (sightings_of r.satellite es) (seen t r)) rows)
returns-summed interval es t n locks [] was = omega (arith, was)
returns-summed interval es t n locks (r ∷ rows) was =
    let own : ℕ = returns_of interval (sightings_of r.satellite es) (seen t r) in
    let all = sum_by-cons (λ x. returns_of interval (sightings_of x.satellite es) (seen t x)) r rows in
    let here = returns-are interval (sightings_of r.satellite es) (seen t r) in
    let rest = returns-summed interval es t (n + own) (locks_plus locks (locks_at interval (sightings_of r.satellite es) (seen t r))) rows (omega (arith, was, here)) in
    omega (arith, all, rest)

-- ---- strengths

-- so many strengths, with this sum
abbrev Has : BandStrengths → ℕ → ℕ → Type 0
Has b count sum = (b.count ≡ capped count) × (b.sum ≡ capped sum)

one-had : (b : BandStrengths) (strength : Option ℕ) (n m : ℕ) → Has b n m → Has (with_one b strength) (n + length (list_of_strength strength)) (m + sum (list_of_strength strength))
one-had b None n m has =
    let count = has.0 in
    let total = has.1 in
    (omega (arith, count), omega (arith, total))
one-had b (Some strength) n m has =
    let count = has.0 in
    let total = has.1 in
    (omega (arith, count), omega (arith, total))

of-other : (band other : CodeBand) (strength : Option ℕ) (s : Strengths) → of_band band (with_strength other strength s) ≡ cond (number_of other == number_of band) (with_one (of_band band s) strength) (of_band band s)
of-other B1 B1 strength s = refl
of-other B1 B2 strength s = refl
of-other B1 B5 strength s = refl
of-other B1 B6 strength s = refl
of-other B1 B7 strength s = refl
of-other B1 B8 strength s = refl
of-other B2 B1 strength s = refl
of-other B2 B2 strength s = refl
of-other B2 B5 strength s = refl
of-other B2 B6 strength s = refl
of-other B2 B7 strength s = refl
of-other B2 B8 strength s = refl
of-other B5 B1 strength s = refl
of-other B5 B2 strength s = refl
of-other B5 B5 strength s = refl
of-other B5 B6 strength s = refl
of-other B5 B7 strength s = refl
of-other B5 B8 strength s = refl
of-other B6 B1 strength s = refl
of-other B6 B2 strength s = refl
of-other B6 B5 strength s = refl
of-other B6 B6 strength s = refl
of-other B6 B7 strength s = refl
of-other B6 B8 strength s = refl
of-other B7 B1 strength s = refl
of-other B7 B2 strength s = refl
of-other B7 B5 strength s = refl
of-other B7 B6 strength s = refl
of-other B7 B7 strength s = refl
of-other B7 B8 strength s = refl
of-other B8 B1 strength s = refl
of-other B8 B2 strength s = refl
of-other B8 B5 strength s = refl
of-other B8 B6 strength s = refl
of-other B8 B7 strength s = refl
of-other B8 B8 strength s = refl

-- one code of a row
code-had : (b : Bool) (own : BandStrengths) (strength : Option ℕ) (n m : ℕ) → Has own n m
    → Has (cond b (with_one own strength) own) (n + length (cond b (list_of_strength strength) [])) (m + sum (cond b (list_of_strength strength) []))
code-had true own strength n m has = one-had own strength n m has
code-had false own strength n m has =
    let count = has.0 in
    let total = has.1 in
    (omega (arith, count), omega (arith, total))

-- more strengths at the end
had-more : (b : BandStrengths) (n m : ℕ) (xs ys : List ℕ) → Has b (n + length xs + length ys) (m + sum xs + sum ys) → Has b (n + length (xs ++ ys)) (m + sum (xs ++ ys))
had-more b n m xs ys has =
    let size = length-append xs ys in
    let all = sum_by-append (λ x. x) xs ys in
    let count = has.0 in
    let total = has.1 in
    (omega (arith, size, count), omega (arith, all, total))

had-none : (b : BandStrengths) (n m : ℕ) → Has b n m → Has b (n + 0) (m + 0)
had-none b n m has =
    let count = has.0 in
    let total = has.1 in
    (omega (arith, count), omega (arith, total))

row-had : (band : CodeBand) (cs : List AnyCode) (os : List Observed) (s : Strengths) (n m : ℕ) → Has (of_band band s) n m
    → Has (of_band band (with_row cs os s)) (n + length (strengths_of_row band cs os)) (m + sum (strengths_of_row band cs os))
row-had band [] os s n m has = had-none (of_band band s) n m has
row-had band (c ∷ cs) [] s n m has = had-none (of_band band s) n m has
row-had band (c ∷ cs) (o ∷ os) s n m has =
    let own : List ℕ = cond (is_of_band band c) (list_of_strength o.strength_millidbhz) [] in
    let rest : List ℕ = strengths_of_row band cs os in
    let with : Strengths = with_strength (band_in_name c) o.strength_millidbhz s in
    let here : Has (of_band band with) (n + length own) (m + sum own) =
    subst (λ (b : BandStrengths). Has b (n + length own) (m + sum own)) (sym (of-other band (band_in_name c) o.strength_millidbhz s))
    (code-had (is_of_band band c) (of_band band s) o.strength_millidbhz n m has) in
    had-more (of_band band (with_row cs os with)) n m own rest (row-had band cs os with (n + length own) (m + sum own) here)

rows-had : (band : CodeBand) (listed : List AnyCode) (rows : List SatelliteRow) (s : Strengths) (n m : ℕ) → Has (of_band band s) n m
    → Has (of_band band (with_rows listed rows s)) (n + length (strengths_of_rows band listed rows)) (m + sum (strengths_of_rows band listed rows))
rows-had band listed [] s n m has = had-none (of_band band s) n m has
rows-had band listed (r ∷ rows) s n m has =
    let own : List ℕ = strengths_of_row band listed r.observed.items in
    let rest : List ℕ = strengths_of_rows band listed rows in
    let with : Strengths = with_row listed r.observed.items s in
    had-more (of_band band (with_rows listed rows with)) n m own rest
    (rows-had band listed rows with (n + length own) (m + sum own) (row-had band listed r.observed.items s n m has))

-- ---- the counts of an hour

strengths-from : (a b : BandStrengths) → a.count ≡ b.count → a.sum ≡ b.sum → a ≡ b
strengths-from a b count sum = ap (λ (n : ℕ). record { count = n; sum = a.sum }) count ∙ ap (λ (n : ℕ). record { count = b.count; sum = n }) sum

locks-from : (a b : Locks) → a.slips ≡ b.slips → a.returns ≡ b.returns → a ≡ b
locks-from a b slips returns = ap (λ (n : ℕ). record { slips = n; returns = a.returns }) slips ∙ ap (λ (n : ℕ). record { slips = b.slips; returns = n }) returns

hour-from : (a b : HourCounts) → a.hour ≡ b.hour → a.records ≡ b.records → a.missing ≡ b.missing → a.rows ≡ b.rows → a.locks ≡ b.locks
    → a.strengths.b1 ≡ b.strengths.b1 → a.strengths.b2 ≡ b.strengths.b2 → a.strengths.b5 ≡ b.strengths.b5 → a.strengths.b6 ≡ b.strengths.b6 → a.strengths.b7 ≡ b.strengths.b7 → a.strengths.b8 ≡ b.strengths.b8 → a ≡ b
hour-from a b ehour erecords emissing erows elocks eb1 eb2 eb5 eb6 eb7 eb8 =
    ap (λ (n : ℕ). made n a.records a.missing a.rows a.locks a.strengths.b1 a.strengths.b2 a.strengths.b5 a.strengths.b6 a.strengths.b7 a.strengths.b8) ehour
    ∙ ap (λ (n : ℕ). made b.hour n a.missing a.rows a.locks a.strengths.b1 a.strengths.b2 a.strengths.b5 a.strengths.b6 a.strengths.b7 a.strengths.b8) erecords
    ∙ ap (λ (n : ℕ). made b.hour b.records n a.rows a.locks a.strengths.b1 a.strengths.b2 a.strengths.b5 a.strengths.b6 a.strengths.b7 a.strengths.b8) emissing
    ∙ ap (λ (n : ℕ). made b.hour b.records b.missing n a.locks a.strengths.b1 a.strengths.b2 a.strengths.b5 a.strengths.b6 a.strengths.b7 a.strengths.b8) erows
    ∙ ap (λ (n : Locks). made b.hour b.records b.missing b.rows n a.strengths.b1 a.strengths.b2 a.strengths.b5 a.strengths.b6 a.strengths.b7 a.strengths.b8) elocks
    ∙ ap (λ (n : BandStrengths). made b.hour b.records b.missing b.rows b.locks n a.strengths.b2 a.strengths.b5 a.strengths.b6 a.strengths.b7 a.strengths.b8) eb1
    ∙ ap (λ (n : BandStrengths). made b.hour b.records b.missing b.rows b.locks b.strengths.b1 n a.strengths.b5 a.strengths.b6 a.strengths.b7 a.strengths.b8) eb2
    ∙ ap (λ (n : BandStrengths). made b.hour b.records b.missing b.rows b.locks b.strengths.b1 b.strengths.b2 n a.strengths.b6 a.strengths.b7 a.strengths.b8) eb5
    ∙ ap (λ (n : BandStrengths). made b.hour b.records b.missing b.rows b.locks b.strengths.b1 b.strengths.b2 b.strengths.b5 n a.strengths.b7 a.strengths.b8) eb6
    ∙ ap (λ (n : BandStrengths). made b.hour b.records b.missing b.rows b.locks b.strengths.b1 b.strengths.b2 b.strengths.b5 b.strengths.b6 n a.strengths.b8) eb7
    ∙ ap (λ (n : BandStrengths). made b.hour b.records b.missing b.rows b.locks b.strengths.b1 b.strengths.b2 b.strengths.b5 b.strengths.b6 b.strengths.b7 n) eb8
  where
    made : ℕ → ℕ → ℕ → ℕ → Locks → BandStrengths → BandStrengths → BandStrengths → BandStrengths → BandStrengths → BandStrengths → HourCounts
    made hour records missing rows locks b1 b2 b5 b6 b7 b8 =
        record { hour = hour; records = records; missing = missing; rows = rows; locks = locks; strengths = record { b1 = b1; b2 = b2; b5 = b5; b6 = b6; b7 = b7; b8 = b8 } }

-- what a band has in an hour
abbrev band-in : Option ℕ → ℕ → List AnyCode → List EpochTableView → CodeBand → ℕ × ℕ
band-in interval hour listed es band =
    (sum_in_hour interval hour (λ before e. length (strengths_of_rows band listed e.rows)) es, sum_in_hour interval hour (λ before e. sum (strengths_of_rows band listed e.rows)) es)

-- an hour after these epochs has none of them
counts-none : (interval : Option ℕ) (unit : ℕ) (listed : List AnyCode) (es : List EpochTableView) (hour : ℕ) → 0 < unit → AreFalling es → IsLater interval hour (newest_moment es)
    → without_records hour ≡ counts_of_hour interval unit listed es hour
counts-none interval unit listed es hour some fall later =
    let none : (number : List EpochTableView → EpochTableView → ℕ) → 0 ≡ capped (sum_in_hour interval hour number es) =
    λ number. let is = sum-later interval hour number es fall later in omega (arith, is) in
    let missing : 0 ≡ capped (missing_in_hour interval unit hour es) = let is = missing-later interval unit hour es some fall later in omega (arith, is) in
    let records = none (λ before e. 1) in
    let rows = none (λ before e. rows_of e) in
    let slips = none (sum_of_rows (slips_of interval)) in
    let returns = none (sum_of_rows (returns_of interval)) in
    let band : (b : CodeBand) → (0 ≡ capped (band-in interval hour listed es b).0) × (0 ≡ capped (band-in interval hour listed es b).1) =
    λ b. (none (λ before e. length (strengths_of_rows b listed e.rows)), none (λ before e. sum (strengths_of_rows b listed e.rows))) in
    let b1 = band B1 in
    let b2 = band B2 in
    let b5 = band B5 in
    let b6 = band B6 in
    let b7 = band B7 in
    let b8 = band B8 in
    cc (b1.0, b1.1, b2.0, b2.1, b5.0, b5.1, b6.0, b6.1, b7.0, b7.1, b8.0, b8.1)

-- the strengths of a band in an hour, a record more
band-more : (interval : Option ℕ) (unit hour : ℕ) (listed : List AnyCode) (e : EpochTableView) (es : List EpochTableView) (band : CodeBand) (s : Strengths)
    → hour_at interval e.time ≡ hour → Has (of_band band s) (band-in interval hour listed es band).0 (band-in interval hour listed es band).1
    → Has (of_band band (with_rows listed e.rows s)) (band-in interval hour listed (e ∷ es) band).0 (band-in interval hour listed (e ∷ es) band).1
band-more interval unit hour listed e es band s own has =
    let more = rows-had band listed e.rows s (band-in interval hour listed es band).0 (band-in interval hour listed es band).1 has in
    let count = sum-own interval hour (λ before x. length (strengths_of_rows band listed x.rows)) e es own in
    let total = sum-own interval hour (λ before x. sum (strengths_of_rows band listed x.rows)) e es own in
    (more.0 ∙ ap capped (sym count), more.1 ∙ ap capped (sym total))

-- an hour, a record more
counts-more : (interval : Option ℕ) (unit : ℕ) (listed : List AnyCode) (e : EpochTableView) (es : List EpochTableView) (hour missing : ℕ) (locks : Locks) → hour_at interval e.time ≡ hour
    → missing_within interval unit hour (newest_moment es) e.time ≡ missing → locks ≡ locks_onto interval es e.time no_locks e.rows
    → with_record missing listed e.rows locks (counts_of_hour interval unit listed es hour) ≡ counts_of_hour interval unit listed (e ∷ es) hour
counts-more interval unit listed e es hour missing locks own here are =
    let was : HourCounts = counts_of_hour interval unit listed es hour in
    let records = sum-own interval hour (λ before x. 1) e es own in
    let rows = sum-own interval hour (λ before x. rows_of x) e es own in
    let slips = sum-own interval hour (sum_of_rows (slips_of interval)) e es own in
    let returns = sum-own interval hour (sum_of_rows (returns_of interval)) e es own in
    let own_slips = ap (λ (l : Locks). l.slips) are ∙ slips-summed interval es e.time 0 no_locks e.rows refl in
    let own_returns = ap (λ (l : Locks). l.returns) are ∙ returns-summed interval es e.time 0 no_locks e.rows refl in
    let b1 = band-more interval unit hour listed e es B1 was.strengths own (refl, refl) in
    let b2 = band-more interval unit hour listed e es B2 was.strengths own (refl, refl) in
    let b5 = band-more interval unit hour listed e es B5 was.strengths own (refl, refl) in
    let b6 = band-more interval unit hour listed e es B6 was.strengths own (refl, refl) in
    let b7 = band-more interval unit hour listed e es B7 was.strengths own (refl, refl) in
    let b8 = band-more interval unit hour listed e es B8 was.strengths own (refl, refl) in
    let locks_are : locks_plus was.locks locks ≡ (counts_of_hour interval unit listed (e ∷ es) hour).locks =
    locks-from _ _ (omega (arith, slips, own_slips)) (omega (arith, returns, own_returns)) in
    hour-from _ _ refl (omega (arith, records)) (omega (arith, here)) (omega (arith, rows)) locks_are
    (strengths-from _ _ b1.0 b1.1) (strengths-from _ _ b2.0 b2.1) (strengths-from _ _ b5.0 b5.1) (strengths-from _ _ b6.0 b6.1) (strengths-from _ _ b7.0 b7.1) (strengths-from _ _ b8.0 b8.1)

-- an hour that ends
counts-ended : (interval : Option ℕ) (unit : ℕ) (listed : List AnyCode) (e : EpochTableView) (es : List EpochTableView) (hour missing : ℕ) → hour_at interval e.time ≢ hour
    → missing_within interval unit hour (newest_moment es) e.time ≡ missing
    → ended_hour missing (counts_of_hour interval unit listed es hour) ≡ counts_of_hour interval unit listed (e ∷ es) hour
counts-ended interval unit listed e es hour missing other here =
    let same : (number : List EpochTableView → EpochTableView → ℕ) → capped (sum_in_hour interval hour number es) ≡ capped (sum_in_hour interval hour number (e ∷ es)) =
    λ number. ap capped (sym (sum-other interval hour number e es other)) in
    let band : (b : CodeBand) → (capped (band-in interval hour listed es b).0 ≡ capped (band-in interval hour listed (e ∷ es) b).0)
    × (capped (band-in interval hour listed es b).1 ≡ capped (band-in interval hour listed (e ∷ es) b).1) =
    λ b. (same (λ before x. length (strengths_of_rows b listed x.rows)), same (λ before x. sum (strengths_of_rows b listed x.rows))) in
    let b1 = band B1 in
    let b2 = band B2 in
    let b5 = band B5 in
    let b6 = band B6 in
    let b7 = band B7 in
    let b8 = band B8 in
    let locks_are : (counts_of_hour interval unit listed es hour).locks ≡ (counts_of_hour interval unit listed (e ∷ es) hour).locks =
    locks-from _ _ (same (sum_of_rows (slips_of interval))) (same (sum_of_rows (returns_of interval))) in
    hour-from _ _ refl (same (λ before x. 1)) (omega (arith, here)) (same (λ before x. rows_of x)) locks_are
    (strengths-from _ _ b1.0 b1.1) (strengths-from _ _ b2.0 b2.1) (strengths-from _ _ b5.0 b5.1) (strengths-from _ _ b6.0 b6.1) (strengths-from _ _ b7.0 b7.1) (strengths-from _ _ b8.0 b8.1)

-- ---- all hours

-- the hours of epochs: that of the newest one, and earlier ones
pub record Hours (interval : Option ℕ) (e : EpochTableView) (es : List EpochTableView) : Type 0 where
  pub older : List ℕ
  pub are : hours_in interval (e ∷ es) ≡ hour_at interval e.time ∷ older
  pub earlier : AllByRecursion (λ hour. hour < hour_at interval e.time) older

earlier-too : (hours : List ℕ) (one other : ℕ) → one ≤ other → AllByRecursion (λ hour. hour < one) hours → AllByRecursion (λ hour. hour < other) hours
earlier-too [] one other le are = tt
earlier-too (hour ∷ hours) one other le are =
    let first = are.0 in
    (omega (arith, le, first), earlier-too hours one other le are.1)

pub hours-fall : (interval : Option ℕ) (e : EpochTableView) (es : List EpochTableView) → AreFalling (e ∷ es) → Hours interval e es
hours-fall interval e [] fall = record { older = []; are = refl; earlier = tt }
hours-fall interval e (f ∷ es) fall =
    let hour : ℕ = hour_at interval e.time in
    let newest : ℕ = hour_at interval f.time in
    let was : Hours interval f es = hours-fall interval f es fall.1 in
    let rise : newest ≤ hour = hour-rises interval f.time e.time fall.0 in
    let are : hours_in interval (e ∷ f ∷ es) ≡ cond (newest == hour) (newest ∷ was.older) (hour ∷ newest ∷ was.older) = ap (λ (hs : List ℕ). with_hour hour hs) was.are in
    elim (cases_eq newest hour) [
      | inl same ↦ record {
        older = was.older;
        are = are ∙ ap (λ (b : Bool). cond b (newest ∷ was.older) (hour ∷ newest ∷ was.older)) (eq-eqb newest hour same) ∙ ap (λ (h : ℕ). h ∷ was.older) same;
        earlier = earlier-too was.older newest hour rise was.earlier;
      }
      | inr other ↦ record {
        older = newest ∷ was.older;
        are = are ∙ ap (λ (b : Bool). cond b (newest ∷ was.older) (hour ∷ newest ∷ was.older)) (ne_eqb newest hour other);
        earlier = (omega (arith, rise, other), earlier-too was.older newest hour rise was.earlier);
      }
    ]

-- hours before the newest one stay
older-stay : (interval : Option ℕ) (unit : ℕ) (listed : List AnyCode) (e f : EpochTableView) (es : List EpochTableView) (hours : List ℕ) → AreFalling (e ∷ f ∷ es)
    → AllByRecursion (λ hour. hour < hour_at interval f.time) hours → map (counts_of_hour interval unit listed (f ∷ es)) hours ≡ map (counts_of_hour interval unit listed (e ∷ f ∷ es)) hours
older-stay interval unit listed e f es [] fall earlier = refl
older-stay interval unit listed e f es (hour ∷ hours) fall earlier =
    let rise = hour-rises interval f.time e.time fall.0 in
    let first = earlier.0 in
    let was : HourCounts = counts_of_hour interval unit listed (f ∷ es) hour in
    let ended : ended_hour 0 was ≡ counts_of_hour interval unit listed (e ∷ f ∷ es) hour =
    counts-ended interval unit listed e (f ∷ es) hour 0 (λ same. absurd (omega (arith, rise, first, same))) (none-earlier interval unit hour f.time e.time first) in
    let same : was ≡ ended_hour 0 was = hour-from _ _ refl refl (omega arith) refl refl refl refl refl refl refl refl in
    ap (λ (h : HourCounts). h ∷ map (counts_of_hour interval unit listed (f ∷ es)) hours) (same ∙ ended)
    ∙ ap (λ (hs : List HourCounts). counts_of_hour interval unit listed (e ∷ f ∷ es) hour ∷ hs) (older-stay interval unit listed e f es hours fall earlier.1)

pub noted-are : (interval : Option ℕ) (unit : ℕ) (listed : List AnyCode) (es : List EpochTableView) → 0 < unit → AreFalling es
    → noted_hours interval unit listed es ≡ hours_of interval unit listed es
noted-are interval unit listed [] some fall = refl
noted-are interval unit listed (e ∷ []) some fall =
    let hour : ℕ = hour_at interval e.time in
    let locks : Locks = locks_onto interval [] e.time no_locks e.rows in
    ap (λ (h : HourCounts). with_record 0 listed e.rows locks h ∷ []) (counts-none interval unit listed [] hour some tt tt)
    ∙ ap (λ (h : HourCounts). h ∷ []) (counts-more interval unit listed e [] hour 0 locks refl refl refl)
noted-are interval unit listed (e ∷ f ∷ es) some fall =
    let hour : ℕ = hour_at interval e.time in
    let newest : ℕ = hour_at interval f.time in
    let locks : Locks = locks_onto interval (f ∷ es) e.time no_locks e.rows in
    let since : ℕ = missing_since interval unit (Some f.time) e.time in
    let until : ℕ = missing_until interval unit (Some f.time) e.time in
    let old : ℕ → HourCounts = counts_of_hour interval unit listed (f ∷ es) in
    let new : ℕ → HourCounts = counts_of_hour interval unit listed (e ∷ f ∷ es) in
    let hours : Hours interval f es = hours-fall interval f es fall.1 in
    let was : noted_hours interval unit listed (f ∷ es) ≡ old newest ∷ map old hours.older =
    noted-are interval unit listed (f ∷ es) some fall.1 ∙ ap (λ (hs : List ℕ). map old hs) hours.are in
    let noted : noted_hours interval unit listed (e ∷ f ∷ es)
    ≡ with_record since listed e.rows locks (cond (newest == hour) (old newest) (without_records hour)) ∷ cond (newest == hour) [] (ended_hour until (old newest) ∷ []) ++ map old hours.older =
    ap (λ (hs : List HourCounts). hours_with interval unit (Some f.time) listed e.time e.rows locks hs) was in
    let due : map new (cond (newest == hour) (newest ∷ hours.older) (hour ∷ newest ∷ hours.older)) ≡ hours_of interval unit listed (e ∷ f ∷ es) =
    ap (λ (hs : List ℕ). map new (with_hour hour hs)) (sym hours.are) in
    let rest = older-stay interval unit listed e f es hours.older fall hours.earlier in
    let second = within-second interval unit f.time e.time some fall.0 in
    elim (cases_eq newest hour) [
      | inl same ↦
          let here : missing_within interval unit newest (Some f.time) e.time ≡ since = ap (λ (h : ℕ). missing_within interval unit h (Some f.time) e.time) same ∙ second in
          noted
          ∙ ap (λ (b : Bool). with_record since listed e.rows locks (cond b (old newest) (without_records hour)) ∷ cond b [] (ended_hour until (old newest) ∷ []) ++ map old hours.older) (eq-eqb newest hour same)
          ∙ ap (λ (h : HourCounts). h ∷ map old hours.older) (counts-more interval unit listed e (f ∷ es) newest since locks (sym same) here refl)
          ∙ ap (λ (hs : List HourCounts). new newest ∷ hs) rest
          ∙ ap (λ (b : Bool). map new (cond b (newest ∷ hours.older) (hour ∷ newest ∷ hours.older))) (sym (eq-eqb newest hour same)) ∙ due
      | inr other ↦
          let rise = hour-rises interval f.time e.time fall.0 in
          let later : newest < hour = omega (arith, rise, other) in
          let first = within-first interval unit f.time e.time some in
          noted
          ∙ ap (λ (b : Bool). with_record since listed e.rows locks (cond b (old newest) (without_records hour)) ∷ cond b [] (ended_hour until (old newest) ∷ []) ++ map old hours.older) (ne_eqb newest hour other)
          ∙ ap (λ (h : HourCounts). with_record since listed e.rows locks h ∷ ended_hour until (old newest) ∷ map old hours.older) (counts-none interval unit listed (f ∷ es) hour some fall.1 later)
          ∙ ap (λ (h : HourCounts). h ∷ ended_hour until (old newest) ∷ map old hours.older) (counts-more interval unit listed e (f ∷ es) hour since locks refl second refl)
          ∙ ap (λ (h : HourCounts). new hour ∷ h ∷ map old hours.older) (counts-ended interval unit listed e (f ∷ es) newest until (λ same. other (sym same)) first)
          ∙ ap (λ (hs : List HourCounts). new hour ∷ new newest ∷ hs) rest
          ∙ ap (λ (b : Bool). map new (cond b (newest ∷ hours.older) (hour ∷ newest ∷ hours.older))) (sym (ne_eqb newest hour other)) ∙ due
    ]

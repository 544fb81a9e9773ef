-- Each mark of a picture has its epochs, and each epoch its mark.
use Rattle.std.proofs.Common.{Less, Equal, Greater, ◌≡◌, ◌<◌, ◌+◌, ◌-◌, ◌*◌, ◌/◌, ◌%◌, ◌==◌, ℕ, Bool, true, false, cond, ◌&&◌, ◌||◌, inl, inr, Option, None, Some, List, [], ◌∷◌, ◌++◌, get_or, refl, sym, ap, ◌∙◌, arith}
use Rattle.std.specs.Prelude.{nat_le, nat_lt, ◌↔◌, count_by}
use Rattle.std.specs.Ordering.{nat_cmp, is_lt, ord_min}
use Rattle.std.specs.List.{range_with_len, sum_by}
use Rattle.std.proofs.lemmas.Bool.{or_cases, or_left, or_right, and_parts, and_from, eq-eqb, eqb-true}
use Rattle.std.proofs.lemmas.Bool.Decides.{nat_tests}
use Rattle.std.proofs.lemmas.List.FromFn.{get_or-map-range_with_len}
use Rattle.std.proofs.lemmas.List.Sums.{sum_by-cons}
use Rattle.rtk_rinex.specs.Record.{EpochTableView}
use Rattle.rtk_tracking.specs.Epochs.{newest_moment, observed_in, shows_phase}
use Rattle.rtk_tracking.specs.Extremes.{lesser}
use Rattle.rtk_tracking.specs.Passes.{Sighting, sightings_of, has_bit_0, is_slip, is_rise, is_return, outage_before}
use Rattle.rtk_tracking.specs.Laws.{EachBitIsOneOfThree}
use Rattle.rtk_tracking.specs.Interval.{steps_in, nearest_intervals, missing_in}
use Rattle.rtk_chart.specs.Epochs.{sighting_of, is_seen, lacks_phase, has_bit_1, level_at, times_in_epoch, times_in, slips_in, returns_in, rises_in}
use Rattle.rtk_chart.specs.Scale.{bin_at}
use Rattle.rtk_chart.specs.Grid.{no_bin, some_epoch, least_in, code_in, bin_in, bins_of, tracking_at, marks_at, has_missing_before, has_missing, gaps_of, is_out_before, has_outage, outages_of, is_out}
use Rattle.rtk_chart.specs.MarkLaws.{IsCalledFor, IsMarkOf, is_at_most, ShowsEpochs, IsMissingIn, IsOutIn}
use Rattle.rtk_chart.specs.declared.scale.Scale.{Scale}
use Rattle.rtk_chart.specs.declared.code_marks.CodeMarks.{CodeMarks}
use Rattle.rtk_chart.specs.declared.tracking.Tracking.{Tracking}
use Rattle.rtk_chart.specs.declared.time_bin.TimeBin.{TimeBin}
use Rattle.rtk_chart.proofs.ListLemmas.{sum-both}
use Rattle.rtk_chart.proofs.GridLemmas.{at-place}
use Rattle.rtk_chart.proofs.SeenLemmas.{tracking-of-bin, marks-of-tracking}

-- ---- epochs that a mark is called for by

called-if : (test : List Sighting → Sighting → Bool) (s : Scale) (satellite : ℕ) (es : List EpochTableView) (c : ℕ)
    → some_epoch test s satellite es c ≡ true → IsCalledFor s es c satellite test
called-if test s satellite [] c marked = absurd (cc)
called-if test s satellite (e ∷ es) c marked =
    let here : Bool = test (sightings_of satellite es) (sighting_of satellite e) in
    elim (or_cases ((bin_at s e.time == c) && here) (some_epoch test s satellite es c) marked) [
      | inl own ↦
          let both = and_parts (bin_at s e.time == c) here own in
          ([], e, es, refl, eqb-true (bin_at s e.time) c both.0, both.1)
      | inr other ↦
          let rest = called-if test s satellite es c other in
          (e ∷ rest.0, rest.1, rest.2, ap (λ (t : List EpochTableView). e ∷ t) rest.3, rest.4, rest.5)
    ]

marked-at : (test : List Sighting → Sighting → Bool) (s : Scale) (satellite : ℕ) (newer : List EpochTableView) (e : EpochTableView) (before : List EpochTableView) (c : ℕ)
    → bin_at s e.time ≡ c → test (sightings_of satellite before) (sighting_of satellite e) ≡ true → some_epoch test s satellite (newer ++ e ∷ before) c ≡ true
marked-at test s satellite [] e before c at holds =
    or_left ((bin_at s e.time == c) && test (sightings_of satellite before) (sighting_of satellite e)) (some_epoch test s satellite before c)
    (and_from (bin_at s e.time == c) (test (sightings_of satellite before) (sighting_of satellite e)) (eq-eqb (bin_at s e.time) c at) holds)
marked-at test s satellite (f ∷ newer) e before c at holds =
    or_right ((bin_at s f.time == c) && test (sightings_of satellite (newer ++ e ∷ before)) (sighting_of satellite f)) (some_epoch test s satellite (newer ++ e ∷ before) c)
    (marked-at test s satellite newer e before c at holds)

mark-of : (test : List Sighting → Sighting → Bool) (s : Scale) (satellite : ℕ) (es : List EpochTableView) (c : ℕ) (mark : Bool)
    → mark ≡ some_epoch test s satellite es c → IsMarkOf s es c satellite mark test
mark-of test s satellite es c mark is = (
  (λ marked. called-if test s satellite es c (sym is ∙ marked)),
  (λ found. is ∙ ap (λ (t : List EpochTableView). some_epoch test s satellite t c) found.3 ∙ marked-at test s satellite found.0 found.1 found.2 c found.4 found.5),
)

-- ---- the least digit

at-most-of : (level a b : ℕ) (less same : Bool) → less ≡ nat_lt b a → nat_le (cond (is_lt (cond less Less (cond same Equal Greater))) b a) level ≡ (nat_le a level || nat_le b level)
at-most-of level a b true same e = grind (arith, nat_tests)
at-most-of level a b false true e = grind (arith, nat_tests)
at-most-of level a b false false e = grind (arith, nat_tests)

at-most-min : (level a b : ℕ) → nat_le (ord_min nat_cmp a b) level ≡ (nat_le a level || nat_le b level)
at-most-min level a b = at-most-of level a b (nat_lt b a) (b == a) refl

or-false : (b : Bool) → (b || false) ≡ b
or-false true = refl
or-false false = refl

at-most-lesser : (level : ℕ) (a b : Option ℕ) → is_at_most level (lesser a b) ≡ (is_at_most level a || is_at_most level b)
at-most-lesser level None b = refl
at-most-lesser level (Some a) None = sym (or-false (nat_le a level))
at-most-lesser level (Some a) (Some b) = at-most-min level a b

-- the digit with an epoch in the bin or in another one
at-most-if : (level : ℕ) (own : Bool) (a b : Option ℕ) → is_at_most level (cond own (lesser a b) b) ≡ ((own && is_at_most level a) || is_at_most level b)
at-most-if level true a b = at-most-lesser level a b
at-most-if level false a b = refl

least-at-most : (level : ℕ) (s : Scale) (satellite code : ℕ) (es : List EpochTableView) (c : ℕ)
    → is_at_most level (least_in s satellite code es c) ≡ some_epoch (λ before now. is_at_most level (level_at code now.observed)) s satellite es c
least-at-most level s satellite code [] c = refl
least-at-most level s satellite code (e ∷ es) c =
    let mine : Option ℕ = level_at code (observed_in satellite e.rows) in
    at-most-if level (bin_at s e.time == c) mine (least_in s satellite code es c)
    ∙ ap (λ (b : Bool). ((bin_at s e.time == c) && is_at_most level mine) || b) (least-at-most level s satellite code es c)

-- ---- a bin

bin-of-all : (s : Scale) (es : List EpochTableView) (c : ℕ) → c < s.bins → get_or (bins_of s es) c no_bin ≡ bin_in s es c
unfolding bins_of
bin-of-all s es c inside = at-place (bin_in s es) s.bins c no_bin inside

marks-show : (s : Scale) (es : List EpochTableView) (c satellite code : ℕ) (marks : CodeMarks) → marks ≡ code_in s satellite es c code
    → ShowsEpochs s es c satellite code marks
marks-show s es c satellite code marks is =
    record {
      phase = mark-of (λ before now. shows_phase code now.observed) s satellite es c marks.phase (ap (λ (m : CodeMarks). m.phase) is);
      missing = mark-of (λ before now. lacks_phase code now.observed) s satellite es c marks.missing (ap (λ (m : CodeMarks). m.missing) is);
      slip = mark-of (is_slip s.interval code) s satellite es c marks.slip (ap (λ (m : CodeMarks). m.slip) is);
      returned = mark-of (is_return s.interval code) s satellite es c marks.returned (ap (λ (m : CodeMarks). m.returned) is);
      rise = mark-of (is_rise s.interval code) s satellite es c marks.rise (ap (λ (m : CodeMarks). m.rise) is);
      half = mark-of (λ before now. has_bit_1 code now.observed) s satellite es c marks.half (ap (λ (m : CodeMarks). m.half) is);
      least = λ level. mark-of (λ before now. is_at_most level (level_at code now.observed)) s satellite es c (is_at_most level marks.least)
          (ap (λ (m : CodeMarks). is_at_most level m.least) is ∙ least-at-most level s satellite code es c);
    }

pub codes-show : (s : Scale) (es : List EpochTableView) (c place code : ℕ) → c < s.bins → place < 32 → code < 16
    → ShowsEpochs s es c (place + 1) code (marks_at code (tracking_at place (get_or (bins_of s es) c no_bin)))
codes-show s es c place code inside few small =
    marks-show s es c (place + 1) code (marks_at code (tracking_at place (get_or (bins_of s es) c no_bin)))
    (ap (λ (b : TimeBin). marks_at code (tracking_at place b)) (bin-of-all s es c inside)
    ∙ ap (λ (t : Tracking). marks_at code t) (tracking-of-bin s es c place few)
    ∙ marks-of-tracking s (place + 1) es c code small)

pub satellites-show : (s : Scale) (es : List EpochTableView) (c place : ℕ) → c < s.bins → place < 32
    → IsMarkOf s es c (place + 1) (tracking_at place (get_or (bins_of s es) c no_bin)).seen (λ before now. is_seen now.observed)
satellites-show s es c place inside few =
    mark-of (λ before now. is_seen now.observed) s (place + 1) es c (tracking_at place (get_or (bins_of s es) c no_bin)).seen
    (ap (λ (b : TimeBin). (tracking_at place b).seen) (bin-of-all s es c inside) ∙ ap (λ (t : Tracking). t.seen) (tracking-of-bin s es c place few))

-- ---- missing epochs

gap-there : (s : Scale) (es : List EpochTableView) (c : ℕ) → c < s.bins → get_or (gaps_of s es) c false ≡ has_missing s es c
unfolding gaps_of
gap-there s es c inside =
    let here : 0 + c ≡ c = omega arith in
    get_or-map-range_with_len (has_missing s es) 0 s.bins c c false inside here

missing-from : (s : Scale) (es : List EpochTableView) (c : ℕ) → has_missing s es c ≡ true → IsMissingIn s es c
missing-from s [] c marked = absurd (cc)
missing-from s (e ∷ es) c marked =
    elim (or_cases (has_missing_before s (newest_moment es) e.time c) (has_missing s es c) marked) [
      | inl here ↦ ([], e, es, refl, here)
      | inr there ↦
          let rest = missing-from s es c there in
          (e ∷ rest.0, rest.1, rest.2, ap (λ (t : List EpochTableView). e ∷ t) rest.3, rest.4)
    ]

missing-at : (s : Scale) (newer : List EpochTableView) (e : EpochTableView) (before : List EpochTableView) (c : ℕ)
    → has_missing_before s (newest_moment before) e.time c ≡ true → has_missing s (newer ++ e ∷ before) c ≡ true
missing-at s [] e before c here = or_left (has_missing_before s (newest_moment before) e.time c) (has_missing s before c) here
missing-at s (f ∷ newer) e before c here =
    or_right (has_missing_before s (newest_moment (newer ++ e ∷ before)) f.time c) (has_missing s (newer ++ e ∷ before) c) (missing-at s newer e before c here)

pub gaps-missing : (s : Scale) (es : List EpochTableView) (c : ℕ) → c < s.bins → (get_or (gaps_of s es) c false ≡ true) ↔ IsMissingIn s es c
gaps-missing s es c inside = (
  (λ marked. missing-from s es c (sym (gap-there s es c inside) ∙ marked)),
  (λ found. gap-there s es c inside ∙ ap (λ (t : List EpochTableView). has_missing s t c) found.3 ∙ missing-at s found.0 found.1 found.2 c found.4),
)

-- ---- counts

turned : (a b : ℕ) → a + b ≡ b + a
turned a b = omega arith

pub missing-of-steps : (unit : ℕ) (es : List EpochTableView) → missing_in unit es ≡ sum_by (λ step. nearest_intervals unit step - 1) (steps_in es)
missing-of-steps unit [] = refl
missing-of-steps unit (e ∷ []) = refl
missing-of-steps unit (e ∷ b ∷ before) =
    let step : ℕ = e.time - b.time in
    ap (λ (n : ℕ). n + (nearest_intervals unit step - 1)) (missing-of-steps unit (b ∷ before))
    ∙ turned (sum_by (λ (k : ℕ). nearest_intervals unit k - 1) (steps_in (b ∷ before))) (nearest_intervals unit step - 1)
    ∙ sym (sum_by-cons (λ (k : ℕ). nearest_intervals unit k - 1) step (steps_in (b ∷ before)))

-- each bit 0 is a slip, a return or a rise
turned-three : (a b c : ℕ) → a + b + c ≡ c + b + a
turned-three a b c = omega arith

bits-of-satellite : EachBitIsOneOfThree → (interval : Option ℕ) (before : List Sighting) (now : Sighting)
    → count_by (λ code. is_slip interval code before now) (range_with_len 0 16) + count_by (λ code. is_return interval code before now) (range_with_len 0 16)
    + count_by (λ code. is_rise interval code before now) (range_with_len 0 16)
    ≡ count_by (λ code. has_bit_0 code now.observed) (range_with_len 0 16)
bits-of-satellite three interval before now =
    let slip : ℕ → ℕ = λ code. cond (is_slip interval code before now) 1 0 in
    let back : ℕ → ℕ = λ code. cond (is_return interval code before now) 1 0 in
    let rise : ℕ → ℕ = λ code. cond (is_rise interval code before now) 1 0 in
    ap (λ (n : ℕ). n + sum_by rise (range_with_len 0 16)) (sum-both slip back (λ (code : ℕ). slip code + back code) (range_with_len 0 16) (λ code. refl))
    ∙ sum-both (λ (code : ℕ). slip code + back code) rise (λ (code : ℕ). cond (has_bit_0 code now.observed) 1 0) (range_with_len 0 16)
    (λ code. turned-three (slip code) (back code) (rise code) ∙ three interval code before now)

bits-of-epoch : EachBitIsOneOfThree → (interval : Option ℕ) (es : List EpochTableView) (e : EpochTableView)
    → times_in_epoch (is_slip interval) es e + times_in_epoch (is_return interval) es e + times_in_epoch (is_rise interval) es e
    ≡ times_in_epoch (λ code before now. has_bit_0 code now.observed) es e
bits-of-epoch three interval es e =
    let slip : ℕ → ℕ = λ place. count_by (λ code. is_slip interval code (sightings_of (place + 1) es) (sighting_of (place + 1) e)) (range_with_len 0 16) in
    let back : ℕ → ℕ = λ place. count_by (λ code. is_return interval code (sightings_of (place + 1) es) (sighting_of (place + 1) e)) (range_with_len 0 16) in
    let rise : ℕ → ℕ = λ place. count_by (λ code. is_rise interval code (sightings_of (place + 1) es) (sighting_of (place + 1) e)) (range_with_len 0 16) in
    ap (λ (n : ℕ). n + sum_by rise (range_with_len 0 32)) (sum-both slip back (λ (place : ℕ). slip place + back place) (range_with_len 0 32) (λ place. refl))
    ∙ sum-both (λ (place : ℕ). slip place + back place) rise (λ (place : ℕ). count_by (λ code. has_bit_0 code (observed_in (place + 1) e.rows)) (range_with_len 0 16))
    (range_with_len 0 32) (λ place. bits-of-satellite three interval (sightings_of (place + 1) es) (sighting_of (place + 1) e))

sums-together : (a b c d x y z w : ℕ) → a + b + c ≡ d → x + y + z ≡ w → (a + x) + (b + y) + (c + z) ≡ d + w
sums-together a b c d x y z w first second = omega (arith, first, second)

pub slips-and-rises : EachBitIsOneOfThree → (interval : Option ℕ) (es : List EpochTableView)
    → slips_in interval es + returns_in interval es + rises_in interval es ≡ times_in (λ code before now. has_bit_0 code now.observed) es
slips-and-rises three interval [] = refl
slips-and-rises three interval (e ∷ es) =
    sums-together (slips_in interval es) (returns_in interval es) (rises_in interval es) (times_in (λ code before now. has_bit_0 code now.observed) es)
    (times_in_epoch (is_slip interval) es e) (times_in_epoch (is_return interval) es e) (times_in_epoch (is_rise interval) es e)
    (times_in_epoch (λ code before now. has_bit_0 code now.observed) es e) (slips-and-rises three interval es) (bits-of-epoch three interval es e)

-- ---- outages

out-from : (s : Scale) (es : List EpochTableView) (satellite c : ℕ) → has_outage s satellite es c ≡ true → IsOutIn s es satellite c
out-from s [] satellite c marked = absurd (cc)
out-from s (e ∷ es) satellite c marked =
    elim (or_cases (is_out_before s (outage_before s.interval (sightings_of satellite es) (sighting_of satellite e)) e.time c) (has_outage s satellite es c) marked) [
      | inl here ↦ ([], e, es, refl, here)
      | inr there ↦
          let rest = out-from s es satellite c there in
          (e ∷ rest.0, rest.1, rest.2, ap (λ (t : List EpochTableView). e ∷ t) rest.3, rest.4)
    ]

out-at : (s : Scale) (newer : List EpochTableView) (e : EpochTableView) (before : List EpochTableView) (satellite c : ℕ)
    → is_out_before s (outage_before s.interval (sightings_of satellite before) (sighting_of satellite e)) e.time c ≡ true
    → has_outage s satellite (newer ++ e ∷ before) c ≡ true
out-at s [] e before satellite c here =
    or_left (is_out_before s (outage_before s.interval (sightings_of satellite before) (sighting_of satellite e)) e.time c) (has_outage s satellite before c) here
out-at s (f ∷ newer) e before satellite c here =
    or_right (is_out_before s (outage_before s.interval (sightings_of satellite (newer ++ e ∷ before)) (sighting_of satellite f)) f.time c)
    (has_outage s satellite (newer ++ e ∷ before) c) (out-at s newer e before satellite c here)

out-there : (s : Scale) (es : List EpochTableView) (place c : ℕ) → place < 32 → c < s.bins → is_out (outages_of s es) place c ≡ has_outage s (place + 1) es c
unfolding outages_of
out-there s es place c few inside =
    let slot : ℕ = 32 * c + place in
    let within : slot < 32 * s.bins = omega (arith, few, inside) in
    let which : slot % 32 ≡ place = omega (arith, few) in
    let where_in : slot / 32 ≡ c = omega (arith, few) in
    at-place (λ k. has_outage s (k % 32 + 1) es (k / 32)) (32 * s.bins) slot false within
    ∙ ap (λ (k : ℕ). has_outage s (k + 1) es (slot / 32)) which
    ∙ ap (λ (k : ℕ). has_outage s (place + 1) es k) where_in

pub outages-shown : (s : Scale) (es : List EpochTableView) (place c : ℕ) → place < 32 → c < s.bins
    → (is_out (outages_of s es) place c ≡ true) ↔ IsOutIn s es (place + 1) c
outages-shown s es place c few inside = (
  (λ marked. out-from s es (place + 1) c (sym (out-there s es place c few inside) ∙ marked)),
  (λ found. out-there s es place c few inside ∙ ap (λ (t : List EpochTableView). has_outage s (place + 1) t c) found.3 ∙ out-at s found.0 found.1 found.2 (place + 1) c found.4),
)

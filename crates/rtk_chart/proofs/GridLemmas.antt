-- The bins of a picture, epoch by epoch.
use Rattle.std.proofs.Common.{◌≡◌, ◌≢◌, ◌<◌, ◌≤◌, ◌+◌, ◌*◌, ◌/◌, ◌%◌, ◌==◌, ℕ, zero, suc, refl, Bool, true, false, cond, ltb, not, ◌&&◌, ◌||◌, List, [], ◌∷◌, Option, Some, length, set, get_or, map, replicate, sym, ap, subst, inl, inr, get_or-set_same, get_or-set_other, ◌∙◌, arith}
use Rattle.std.specs.Prelude.{nat_lt, nat_le, is_some, count_by}
use Rattle.std.specs.List.{range_with_len, sum_by}
use Rattle.std.proofs.lemmas.Bool.{both_ways, cases_eq, eq-eqb, ne_eqb, lt-ltb, le-ltb}
use Rattle.std.proofs.lemmas.List.{length-replicate, get_or-replicate}
use Rattle.std.proofs.lemmas.List.FromFn.{fill_by_all, get_or-map-range_with_len, length-map-range_with_len}
use Rattle.rtk_rinex.specs.Record.{EpochTableView, no_observation}
use Rattle.rtk_rinex.specs.declared.epoch_table.Observed.{Observed}
use Rattle.rtk_tracking.specs.Epochs.{capped, newest_moment, shows_phase, observed_in, shown_at}
use Rattle.rtk_tracking.specs.Extremes.{lesser}
use Rattle.rtk_tracking.specs.Passes.{Sighting, sightings_of, last_record, has_phase, has_bit_0, is_known, is_kept, is_slip, is_rise, is_return}
use Rattle.rtk_tracking.specs.Standing.{AreMarked, StandsForPass}
use Rattle.rtk_tracking.specs.Interval.{missing_before, missing_in}
use Rattle.rtk_tracking.specs.declared.passes.Pass.{Pass}
use Rattle.rtk_chart.specs.Epochs.{sighting_of, is_seen, lacks_phase, has_bit_1, level_at, level_of, times_in_epoch}
use Rattle.rtk_chart.specs.Scale.{bin_at}
use Rattle.rtk_chart.specs.Grid.{no_marks, no_tracking, no_bin, code_in, codes_in, tracking_in, trackings_in, bin_in, bins_of, has_missing_before, has_missing, gaps_of, has_record, recorded_of, has_outage, outages_of}
use Rattle.rtk_chart.specs.Steps.Standing.{AddsMarks, StandForPasses}
use Rattle.rtk_chart.specs.Steps.Shown.{called_for, called_at, both_marks, both_codes, both_trackings, both_satellites, both_bins, codes_with, tracking_of, bin_of}
use Rattle.rtk_chart.specs.declared.code_marks.CodeMarks.{CodeMarks}
use Rattle.rtk_chart.specs.declared.tracking.Tracking.{Tracking}
use Rattle.rtk_chart.specs.declared.scale.Scale.{Scale}
use Rattle.rtk_chart.specs.declared.time_bin.TimeBin.{TimeBin}
use Rattle.rtk_chart.proofs.ListLemmas.{set-map, map-same, sum-map, sum-same, ltb-other}

-- ---- a code

bit-at : (code : ℕ) (os : List Observed) → has_bit_0 code os ≡ (shown_at code os).slip
bit-at code [] = refl
bit-at zero (o ∷ os) = refl
bit-at (suc code) (o ∷ os) = bit-at code os

phase-at : (code : ℕ) (os : List Observed) → shows_phase code os ≡ is_some (shown_at code os).phase_millicycles
phase-at code [] = refl
phase-at zero (o ∷ os) = refl
phase-at (suc code) (o ∷ os) = phase-at code os

-- the marks with an epoch more, in this bin or not
abbrev with_epoch : Scale → ℕ → EpochTableView → List EpochTableView → ℕ → ℕ → Bool → CodeMarks
with_epoch s satellite e es c code own =
    record {
      phase = (own && shows_phase code (observed_in satellite e.rows)) || (code_in s satellite es c code).phase;
      missing = (own && lacks_phase code (observed_in satellite e.rows)) || (code_in s satellite es c code).missing;
      slip = (own && is_slip s.interval code (sightings_of satellite es) (sighting_of satellite e)) || (code_in s satellite es c code).slip;
      returned = (own && is_return s.interval code (sightings_of satellite es) (sighting_of satellite e)) || (code_in s satellite es c code).returned;
      rise = (own && is_rise s.interval code (sightings_of satellite es) (sighting_of satellite e)) || (code_in s satellite es c code).rise;
      half = (own && has_bit_1 code (observed_in satellite e.rows)) || (code_in s satellite es c code).half;
      least = cond own (lesser (level_at code (observed_in satellite e.rows)) (code_in s satellite es c code).least) (code_in s satellite es c code).least;
    }

-- what an epoch calls for, by its phase and bit 0
abbrev called_by : Observed → Bool → Bool → Bool → Bool → Bool → CodeMarks → CodeMarks
called_by o has known kept phase bit m =
    record {
      phase = phase || m.phase;
      missing = (has && not phase) || m.missing;
      slip = (bit && kept) || m.slip;
      returned = (bit && (known && not kept)) || m.returned;
      rise = (bit && not known) || m.rise;
      half = o.half || m.half;
      least = lesser (level_of o.strength_millidbhz) m.least;
    }

code-own : (s : Scale) (satellite : ℕ) (e : EpochTableView) (es : List EpochTableView) (c code : ℕ) → bin_at s e.time ≡ c
    → code_in s satellite (e ∷ es) c code
    ≡ both_marks (called_for (shown_at code (observed_in satellite e.rows)) (has_phase (observed_in satellite e.rows)) (is_known s.interval code (sightings_of satellite es) (sighting_of satellite e))
    (is_kept s.interval code (sightings_of satellite es) (sighting_of satellite e)))
    (code_in s satellite es c code)
code-own s satellite e es c code at =
    let os : List Observed = observed_in satellite e.rows in
    let o : Observed = shown_at code os in
    let known : Bool = is_known s.interval code (sightings_of satellite es) (sighting_of satellite e) in
    let kept : Bool = is_kept s.interval code (sightings_of satellite es) (sighting_of satellite e) in
    let m : CodeMarks = code_in s satellite es c code in
    ap (with_epoch s satellite e es c code) (eq-eqb (bin_at s e.time) c at)
    ∙ ap (λ (phase : Bool). called_by o (has_phase os) known kept phase (has_bit_0 code os) m) (phase-at code os)
    ∙ ap (λ (bit : Bool). called_by o (has_phase os) known kept (is_some o.phase_millicycles) bit m) (bit-at code os)

code-other : (s : Scale) (satellite : ℕ) (e : EpochTableView) (es : List EpochTableView) (c code : ℕ) → bin_at s e.time ≢ c
    → code_in s satellite (e ∷ es) c code ≡ code_in s satellite es c code
code-other s satellite e es c code apart = ap (with_epoch s satellite e es c code) (ne_eqb (bin_at s e.time) c apart)

-- a code that an epoch does not show
pub unshown-at : (os : List Observed) (code : ℕ) → length os ≤ code → shown_at code os ≡ no_observation
unshown-at [] code above = refl
unshown-at (o ∷ os) zero above = absurd (omega (arith, above))
unshown-at (o ∷ os) (suc code) above = unshown-at os code (omega (arith, above))

-- ---- a satellite

-- a satellite with these codes and a row or none
abbrev pub tracking_with : List CodeMarks → Bool → Tracking
tracking_with marks seen = record { codes = marks; seen = seen }

same-tracking : (a b : List CodeMarks) (x y : Bool) → a ≡ b → x ≡ y → tracking_with a x ≡ tracking_with b y
same-tracking a b x y codes seen = ap (λ (ms : List CodeMarks). tracking_with ms x) codes ∙ ap (λ (s : Bool). tracking_with b s) seen

seen-own : (s : Scale) (satellite : ℕ) (e : EpochTableView) (es : List EpochTableView) (c : ℕ) → bin_at s e.time ≡ c
    → (tracking_in s satellite (e ∷ es) c).seen ≡ (is_seen (observed_in satellite e.rows) || (tracking_in s satellite es c).seen)
seen-own s satellite e es c at =
    ap (λ (own : Bool). (own && is_seen (observed_in satellite e.rows)) || (tracking_in s satellite es c).seen) (eq-eqb (bin_at s e.time) c at)

seen-other : (s : Scale) (satellite : ℕ) (e : EpochTableView) (es : List EpochTableView) (c : ℕ) → bin_at s e.time ≢ c
    → (tracking_in s satellite (e ∷ es) c).seen ≡ (tracking_in s satellite es c).seen
seen-other s satellite e es c apart =
    ap (λ (own : Bool). (own && is_seen (observed_in satellite e.rows)) || (tracking_in s satellite es c).seen) (ne_eqb (bin_at s e.time) c apart)

-- what a function gives for each place stands there
pub at-place : {X : Type 0} (f : ℕ → X) (n k : ℕ) (d : X) → k < n → get_or (map f (range_with_len 0 n)) k d ≡ f k
at-place f n k d inside =
    let here : 0 + k ≡ k = omega arith in
    get_or-map-range_with_len f 0 n k k d inside here

-- the codes of one epoch
abbrev called_of : Option ℕ → List Sighting → Sighting → ℕ → CodeMarks
called_of interval before now code =
    called_for (shown_at code now.observed) (has_phase now.observed) (is_known interval code before now) (is_kept interval code before now)

codes-own : (s : Scale) (satellite : ℕ) (e : EpochTableView) (es : List EpochTableView) (c : ℕ) → bin_at s e.time ≡ c
    → codes_in s satellite (e ∷ es) c
    ≡ map (both_codes (map (called_of s.interval (sightings_of satellite es) (sighting_of satellite e)) (range_with_len 0 16)) (codes_in s satellite es c)) (range_with_len 0 16)
unfolding codes_in
codes-own s satellite e es c at =
    let called : ℕ → CodeMarks = called_of s.interval (sightings_of satellite es) (sighting_of satellite e) in
    let old : ℕ → CodeMarks = code_in s satellite es c in
    let mine : List CodeMarks = map called (range_with_len 0 16) in
    let others : List CodeMarks = map old (range_with_len 0 16) in
    map-same (code_in s satellite (e ∷ es) c) (both_codes mine others) 0 16 (λ code lt.
    let inside : code < 16 = omega (arith, lt) in
    code-own s satellite e es c code at
    ∙ ap (λ (m : CodeMarks). both_marks m (old code)) (sym (at-place called 16 code no_marks inside))
    ∙ ap (λ (m : CodeMarks). both_marks (get_or mine code no_marks) m) (sym (at-place old 16 code no_marks inside)))

codes-other : (s : Scale) (satellite : ℕ) (e : EpochTableView) (es : List EpochTableView) (c : ℕ) → bin_at s e.time ≢ c
    → codes_in s satellite (e ∷ es) c ≡ codes_in s satellite es c
unfolding codes_in
codes-other s satellite e es c apart =
    map-same (code_in s satellite (e ∷ es) c) (code_in s satellite es c) 0 16 (λ code lt. code-other s satellite e es c code apart)

has-row : (o : Observed) (os : List Observed) → is_seen (o ∷ os) ≡ true
has-row o os = let some : length (o ∷ os) ≢ 0 = omega arith in ap not (ne_eqb (length (o ∷ os)) 0 some)

-- a satellite without a row
unseen-own : (s : Scale) (satellite : ℕ) (e : EpochTableView) (es : List EpochTableView) (c : ℕ) → bin_at s e.time ≡ c → observed_in satellite e.rows ≡ []
    → tracking_in s satellite (e ∷ es) c ≡ tracking_in s satellite es c
unfolding codes_in
unseen-own s satellite e es c at none =
    let known : ℕ → Bool = λ code. is_known s.interval code (sightings_of satellite es) (sighting_of satellite e) in
    let kept : ℕ → Bool = λ code. is_kept s.interval code (sightings_of satellite es) (sighting_of satellite e) in
    same-tracking _ _ _ _
    (map-same (code_in s satellite (e ∷ es) c) (code_in s satellite es c) 0 16 (λ code lt.
    code-own s satellite e es c code at
    ∙ ap (λ (os : List Observed). both_marks (called_for (shown_at code os) (has_phase os) (known code) (kept code)) (code_in s satellite es c code)) none))
    (seen-own s satellite e es c at ∙ ap (λ (os : List Observed). is_seen os || (tracking_in s satellite es c).seen) none)

tracking-by : (s : Scale) (satellite : ℕ) (e : EpochTableView) (es : List EpochTableView) (c : ℕ) → bin_at s e.time ≡ c
    → (os : List Observed) → observed_in satellite e.rows ≡ os
    → tracking_in s satellite (e ∷ es) c
    ≡ both_trackings (tracking_of s.interval (sightings_of satellite es) (sighting_of satellite e)) (tracking_in s satellite es c)
unfolding both_trackings tracking_of
tracking-by s satellite e es c at [] none =
    let called : List CodeMarks = map (called_of s.interval (sightings_of satellite es) (sighting_of satellite e)) (range_with_len 0 16) in
    unseen-own s satellite e es c at none
    ∙ sym (ap (λ (os : List Observed). cond (is_seen os) (tracking_with (map (both_codes called (codes_in s satellite es c)) (range_with_len 0 16)) true) (tracking_in s satellite es c)) none)
tracking-by s satellite e es c at (o ∷ os) some =
    let called : List CodeMarks = map (called_of s.interval (sightings_of satellite es) (sighting_of satellite e)) (range_with_len 0 16) in
    let seen : is_seen (observed_in satellite e.rows) ≡ true = ap is_seen some ∙ has-row o os in
    same-tracking _ _ _ _ (codes-own s satellite e es c at) (seen-own s satellite e es c at ∙ ap (λ (b : Bool). b || (tracking_in s satellite es c).seen) seen)
    ∙ sym (ap (λ (b : Bool). cond b (tracking_with (map (both_codes called (codes_in s satellite es c)) (range_with_len 0 16)) true) (tracking_in s satellite es c)) seen)

tracking-own : (s : Scale) (satellite : ℕ) (e : EpochTableView) (es : List EpochTableView) (c : ℕ) → bin_at s e.time ≡ c
    → tracking_in s satellite (e ∷ es) c
    ≡ both_trackings (tracking_of s.interval (sightings_of satellite es) (sighting_of satellite e)) (tracking_in s satellite es c)
tracking-own s satellite e es c at = tracking-by s satellite e es c at (observed_in satellite e.rows) refl

tracking-other : (s : Scale) (satellite : ℕ) (e : EpochTableView) (es : List EpochTableView) (c : ℕ) → bin_at s e.time ≢ c
    → tracking_in s satellite (e ∷ es) c ≡ tracking_in s satellite es c
tracking-other s satellite e es c apart = same-tracking _ _ _ _ (codes-other s satellite e es c apart) (seen-other s satellite e es c apart)

-- ---- a bin

abbrev pub bin_with : List Tracking → TimeBin
bin_with trackings = record { satellites = trackings }

-- an epoch in the bin
bin-own : (s : Scale) (e : EpochTableView) (es : List EpochTableView) (c : ℕ) → bin_at s e.time ≡ c
    → bin_in s (e ∷ es) c ≡ both_bins (bin_of s.interval es e) (bin_in s es c)
unfolding trackings_in both_bins bin_of
bin-own s e es c at =
    let interval : Option ℕ = s.interval in
    let called : ℕ → Tracking = λ place. tracking_of interval (sightings_of (place + 1) es) (sighting_of (place + 1) e) in
    let old : ℕ → Tracking = λ place. tracking_in s (place + 1) es c in
    let mine : List Tracking = map called (range_with_len 0 32) in
    let others : List Tracking = map old (range_with_len 0 32) in
    ap bin_with (map-same (λ place. tracking_in s (place + 1) (e ∷ es) c) (both_satellites mine others) 0 32 (λ place lt.
    let inside : place < 32 = omega (arith, lt) in
    tracking-own s (place + 1) e es c at
    ∙ ap (λ (t : Tracking). both_trackings t (old place)) (sym (at-place called 32 place no_tracking inside))
    ∙ ap (λ (t : Tracking). both_trackings (get_or mine place no_tracking) t) (sym (at-place old 32 place no_tracking inside))))

bin-other : (s : Scale) (e : EpochTableView) (es : List EpochTableView) (c : ℕ) → bin_at s e.time ≢ c → bin_in s (e ∷ es) c ≡ bin_in s es c
unfolding trackings_in
bin-other s e es c apart =
    ap bin_with (map-same (λ place. tracking_in s (place + 1) (e ∷ es) c) (λ place. tracking_in s (place + 1) es c) 0 32 (λ place lt. tracking-other s (place + 1) e es c apart))

-- an epoch goes to its bin
pub bin-more : (s : Scale) (e : EpochTableView) (es : List EpochTableView) (bins : List TimeBin) (place : ℕ) (called old new d : TimeBin)
    → place ≡ bin_at s e.time → place < s.bins → bins ≡ bins_of s es → called ≡ bin_of s.interval es e → old ≡ bin_in s es place
    → new ≡ both_bins called old → set bins place new ≡ bins_of s (e ∷ es)
unfolding bins_of
bin-more s e es bins place called old new d at within are calls was took =
    set-map (bin_in s es) (bin_in s (e ∷ es)) bins s.bins place new d are within
    (took ∙ ap (λ (b : TimeBin). both_bins b old) calls ∙ ap (λ (b : TimeBin). both_bins (bin_of s.interval es e) b) was ∙ sym (bin-own s e es place (sym at)))
    (λ k lt other. sym (bin-other s e es k (λ same. other (sym same ∙ sym at))))

-- ---- what one epoch calls for

-- the codes of a satellite
pub codes-called : (interval : Option ℕ) (before : List Sighting) (now : Sighting) (os : List Observed) (had kept : List Bool) (t : Tracking)
    → os ≡ now.observed → AreMarked had (λ code. is_known interval code before now) → AreMarked kept (λ code. is_kept interval code before now)
    → t.codes ≡ map (called_at os had kept) (range_with_len 0 16) → t.seen ≡ is_seen os → t ≡ tracking_of interval before now
unfolding tracking_of
codes-called interval before now os had kept t shown known marked codes seen =
    same-tracking t.codes _ t.seen _
    (codes ∙ map-same (called_at os had kept) (called_of interval before now) 0 16 (λ code lt.
    let inside : code < 16 = omega (arith, lt) in
    ap (λ (xs : List Observed). called_at xs had kept code) shown
    ∙ ap (λ (b : Bool). called_for (shown_at code now.observed) (has_phase now.observed) b (get_or kept code false)) (known code inside)
    ∙ ap (λ (b : Bool). called_for (shown_at code now.observed) (has_phase now.observed) (is_known interval code before now) b) (marked code inside)))
    (seen ∙ ap is_seen shown)

-- a satellite without a row calls for nothing
pub unseen-called : (interval : Option ℕ) (before : List Sighting) (time : ℕ) (os : List Observed) → is_seen os ≡ false
    → no_tracking ≡ tracking_of interval before (record { time = time; observed = os })
unfolding tracking_of
unseen-called interval before time [] none = refl
unseen-called interval before time (o ∷ os) none = absurd (both_ways (is_seen (o ∷ os)) none (has-row o os))

-- a satellite in an epoch
pub tracking-called : (interval : Option ℕ) (e : EpochTableView) (before : List EpochTableView) (i time : ℕ) (os : List Observed) (t : Tracking)
    → time ≡ e.time → os ≡ observed_in (i + 1) e.rows → t ≡ tracking_of interval (sightings_of (i + 1) before) (record { time = time; observed = os })
    → t ≡ tracking_of interval (sightings_of (i + 1) before) (sighting_of (i + 1) e)
tracking-called interval e before i time os t at shown is =
    let came : List Sighting = sightings_of (i + 1) before in
    is ∙ ap (λ (n : ℕ). tracking_of interval came (record { time = n; observed = os })) at
    ∙ ap (λ (xs : List Observed). tracking_of interval came (record { time = e.time; observed = xs })) shown

-- the pass of a satellite, at each default
pub pass-of : (interval : Option ℕ) (es : List EpochTableView) (passes : List Pass) (i j : ℕ) (d : Pass) → j ≡ i → i < 32 → StandForPasses passes interval es
    → StandsForPass (get_or passes j d) interval (sightings_of (i + 1) es)
pass-of interval es passes i j d at within stands =
    subst (λ (n : ℕ). StandsForPass (get_or passes n d) interval (sightings_of (i + 1) es)) (sym at) (stands i d within)

-- the last record, as each satellite has it
pub record-is : (k : ℕ) (es : List EpochTableView) → newest_moment es ≡ last_record (sightings_of k es)
record-is k [] = refl
record-is k (e ∷ es) = refl

-- the passes with an epoch more, satellite by satellite
pub passes-more : (interval : Option ℕ) (e : EpochTableView) (es : List EpochTableView) (passes : List Pass) (i j j0 time : ℕ) (new d0 : Pass) (os : List Observed)
    → j ≡ i → j0 ≡ i → i < 32 → length passes ≡ 32 → time ≡ e.time → os ≡ observed_in (i + 1) e.rows
    → ((k : ℕ) (d : Pass) → k < 32 → StandsForPass (get_or passes k d) interval (cond (ltb k i) (sightings_of (k + 1) (e ∷ es)) (sightings_of (k + 1) es)))
    → (StandsForPass (get_or passes j0 d0) interval (sightings_of (i + 1) es) → StandsForPass new interval (record { time = time; observed = os } ∷ sightings_of (i + 1) es))
    → (k : ℕ) (d : Pass) → k < 32 → StandsForPass (get_or (set passes j new) k d) interval (cond (ltb k (i + 1)) (sightings_of (k + 1) (e ∷ es)) (sightings_of (k + 1) es))
passes-more interval e es passes i j j0 time new d0 os at at0 within size same shown so_far takes k d lt =
    let inside : i < length passes = omega (arith, within, size) in
    let came : ℕ → Bool → List Sighting = λ n b. cond b (sightings_of (n + 1) (e ∷ es)) (sightings_of (n + 1) es) in
    elim (cases_eq k i) [
      | inl here ↦
          let is : get_or (set passes j new) k d ≡ new =
          ap (λ (n : ℕ). get_or (set passes n new) k d) at ∙ ap (λ (n : ℕ). get_or (set passes i new) n d) here ∙ get_or-set_same passes i new d inside in
          let last : i ≤ i = omega arith in
          let was : StandsForPass (get_or passes j0 d0) interval (sightings_of (i + 1) es) =
          subst (λ (n : ℕ). StandsForPass (get_or passes n d0) interval (sightings_of (i + 1) es)) (sym at0)
          (subst (λ (b : Bool). StandsForPass (get_or passes i d0) interval (came i b)) (le-ltb i i last) (so_far i d0 within)) in
          let mine : StandsForPass new interval (sightings_of (i + 1) (e ∷ es)) =
          subst (λ (n : ℕ). StandsForPass new interval (record { time = n; observed = observed_in (i + 1) e.rows } ∷ sightings_of (i + 1) es)) same
          (subst (λ (xs : List Observed). StandsForPass new interval (record { time = time; observed = xs } ∷ sightings_of (i + 1) es)) shown (takes was)) in
          let below : k < i + 1 = omega (arith, here) in
          subst (λ (p : Pass). StandsForPass p interval (came k (ltb k (i + 1)))) (sym is)
          (subst (λ (b : Bool). StandsForPass new interval (came k b)) (sym (lt-ltb k (i + 1) below))
          (subst (λ (n : ℕ). StandsForPass new interval (sightings_of (n + 1) (e ∷ es))) (sym here) mine))
      | inr other ↦
          subst (λ (p : Pass). StandsForPass p interval (came k (ltb k (i + 1)))) (sym (ap (λ (n : ℕ). get_or (set passes n new) k d) at ∙ get_or-set_other passes i k new d other))
          (subst (λ (b : Bool). StandsForPass (get_or passes k d) interval (came k b)) (ltb-other i k other) (so_far k d lt))
    ]

-- a pass after an epoch without a row of the satellite
pub pass-unseen : (p : Pass) (interval : Option ℕ) (before : List Sighting) (time : ℕ) (os : List Observed) → is_seen os ≡ false → StandsForPass p interval before
    → StandsForPass p interval (record { time = time; observed = os } ∷ before)
pass-unseen p interval before time [] none stands =
    record { last = stands.last; had = λ place lt. stands.had place lt; kept = λ place lt. stands.kept place lt }
pass-unseen p interval before time (o ∷ os) none stands = absurd (both_ways (is_seen (o ∷ os)) none (has-row o os))

-- all of them
pub passes-all : (interval : Option ℕ) (e : EpochTableView) (es : List EpochTableView) (passes : List Pass) (i : ℕ) → i ≡ 32
    → ((k : ℕ) (d : Pass) → k < 32 → StandsForPass (get_or passes k d) interval (cond (ltb k i) (sightings_of (k + 1) (e ∷ es)) (sightings_of (k + 1) es)))
    → StandForPasses passes interval (e ∷ es)
passes-all interval e es passes i end so_far = λ k d lt.
    let below : k < i = omega (arith, lt, end) in
    subst (λ (b : Bool). StandsForPass (get_or passes k d) interval (cond b (sightings_of (k + 1) (e ∷ es)) (sightings_of (k + 1) es))) (lt-ltb k i below) (so_far k d lt)

-- what an epoch calls for of each code, if it shows this of a satellite
abbrev called_showing : Option ℕ → List Sighting → Sighting → List Observed → List CodeMarks
called_showing interval before now os =
    map (λ code. called_for (shown_at code os) (has_phase os) (is_known interval code before now) (is_kept interval code before now)) (range_with_len 0 16)

-- a satellite without a row has no such mark
codes_with-all : (test : CodeMarks → Bool) (interval : Option ℕ) (before : List Sighting) (now : Sighting) (os : List Observed) → now.observed ≡ os
    → count_by test (called_showing interval before now []) ≡ 0
    → codes_with test (tracking_of interval before now) ≡ count_by test (tracking_of interval before now).codes
unfolding tracking_of
codes_with-all test interval before now [] none clear =
    let codes : List CodeMarks = called_showing interval before now now.observed in
    ap (λ (xs : List Observed). cond (is_seen xs) (count_by test codes) 0) none
    ∙ sym (ap (λ (xs : List Observed). count_by test (called_showing interval before now xs)) none ∙ clear)
codes_with-all test interval before now (o ∷ os) some clear =
    let codes : List CodeMarks = called_showing interval before now now.observed in
    ap (λ (xs : List Observed). cond (is_seen xs) (count_by test codes) 0) some ∙ ap (λ (b : Bool). cond b (count_by test codes) 0) (has-row o os)

-- how often a mark stands in an epoch
slips-of-tracking : (interval : Option ℕ) (before : List Sighting) (now : Sighting)
    → codes_with (λ m. m.slip) (tracking_of interval before now) ≡ count_by (λ code. is_slip interval code before now) (range_with_len 0 16)
unfolding tracking_of
slips-of-tracking interval before now =
    codes_with-all (λ m. m.slip) interval before now now.observed refl refl
    ∙ sum-map (λ (m : CodeMarks). cond m.slip 1 0) (called_of interval before now) (range_with_len 0 16)
    ∙ sum-same (λ (code : ℕ). cond ((shown_at code now.observed).slip && is_kept interval code before now) 1 0) (λ (code : ℕ). cond (is_slip interval code before now) 1 0) (range_with_len 0 16)
    (λ code. ap (λ (bit : Bool). cond (bit && is_kept interval code before now) 1 0) (sym (bit-at code now.observed)))

returns-of-tracking : (interval : Option ℕ) (before : List Sighting) (now : Sighting)
    → codes_with (λ m. m.returned) (tracking_of interval before now) ≡ count_by (λ code. is_return interval code before now) (range_with_len 0 16)
unfolding tracking_of
returns-of-tracking interval before now =
    let back : ℕ → Bool = λ code. is_known interval code before now && not (is_kept interval code before now) in
    codes_with-all (λ m. m.returned) interval before now now.observed refl refl
    ∙ sum-map (λ (m : CodeMarks). cond m.returned 1 0) (called_of interval before now) (range_with_len 0 16)
    ∙ sum-same (λ (code : ℕ). cond ((shown_at code now.observed).slip && back code) 1 0) (λ (code : ℕ). cond (is_return interval code before now) 1 0) (range_with_len 0 16)
    (λ code. ap (λ (bit : Bool). cond (bit && back code) 1 0) (sym (bit-at code now.observed)))

rises-of-tracking : (interval : Option ℕ) (before : List Sighting) (now : Sighting)
    → codes_with (λ m. m.rise) (tracking_of interval before now) ≡ count_by (λ code. is_rise interval code before now) (range_with_len 0 16)
unfolding tracking_of
rises-of-tracking interval before now =
    codes_with-all (λ m. m.rise) interval before now now.observed refl refl
    ∙ sum-map (λ (m : CodeMarks). cond m.rise 1 0) (called_of interval before now) (range_with_len 0 16)
    ∙ sum-same (λ (code : ℕ). cond ((shown_at code now.observed).slip && not (is_known interval code before now)) 1 0) (λ (code : ℕ). cond (is_rise interval code before now) 1 0) (range_with_len 0 16)
    (λ code. ap (λ (bit : Bool). cond (bit && not (is_known interval code before now)) 1 0) (sym (bit-at code now.observed)))

pub slips-called : (interval : Option ℕ) (es : List EpochTableView) (e : EpochTableView) (called : TimeBin) → called ≡ bin_of interval es e
    → sum_by (codes_with (λ m. m.slip)) called.satellites ≡ times_in_epoch (is_slip interval) es e
unfolding bin_of
slips-called interval es e called are =
    let of : ℕ → Tracking = λ place. tracking_of interval (sightings_of (place + 1) es) (sighting_of (place + 1) e) in
    ap (λ (b : TimeBin). sum_by (codes_with (λ m. m.slip)) b.satellites) are
    ∙ sum-map (codes_with (λ m. m.slip)) of (range_with_len 0 32)
    ∙ sum-same (λ (place : ℕ). codes_with (λ m. m.slip) (of place)) _ (range_with_len 0 32) (λ place. slips-of-tracking interval (sightings_of (place + 1) es) (sighting_of (place + 1) e))

pub returns-called : (interval : Option ℕ) (es : List EpochTableView) (e : EpochTableView) (called : TimeBin) → called ≡ bin_of interval es e
    → sum_by (codes_with (λ m. m.returned)) called.satellites ≡ times_in_epoch (is_return interval) es e
unfolding bin_of
returns-called interval es e called are =
    let of : ℕ → Tracking = λ place. tracking_of interval (sightings_of (place + 1) es) (sighting_of (place + 1) e) in
    ap (λ (b : TimeBin). sum_by (codes_with (λ m. m.returned)) b.satellites) are
    ∙ sum-map (codes_with (λ m. m.returned)) of (range_with_len 0 32)
    ∙ sum-same (λ (place : ℕ). codes_with (λ m. m.returned) (of place)) _ (range_with_len 0 32) (λ place. returns-of-tracking interval (sightings_of (place + 1) es) (sighting_of (place + 1) e))

pub rises-called : (interval : Option ℕ) (es : List EpochTableView) (e : EpochTableView) (called : TimeBin) → called ≡ bin_of interval es e
    → sum_by (codes_with (λ m. m.rise)) called.satellites ≡ times_in_epoch (is_rise interval) es e
unfolding bin_of
rises-called interval es e called are =
    let of : ℕ → Tracking = λ place. tracking_of interval (sightings_of (place + 1) es) (sighting_of (place + 1) e) in
    ap (λ (b : TimeBin). sum_by (codes_with (λ m. m.rise)) b.satellites) are
    ∙ sum-map (codes_with (λ m. m.rise)) of (range_with_len 0 32)
    ∙ sum-same (λ (place : ℕ). codes_with (λ m. m.rise) (of place)) _ (range_with_len 0 32) (λ place. rises-of-tracking interval (sightings_of (place + 1) es) (sighting_of (place + 1) e))

-- whether a satellite has a row, at each default that has none
pub seen-same : (satellites : List Tracking) (place : ℕ) (d e : Tracking) → d.seen ≡ e.seen → (get_or satellites place d).seen ≡ (get_or satellites place e).seen
seen-same [] place d e same = same
seen-same (x ∷ satellites) zero d e same = refl
seen-same (x ∷ satellites) (suc place) d e same = seen-same satellites place d e same

-- ---- missing epochs

-- the bins from the first epoch that is missing before the one at t to the last one get a mark
pub missing-marked : (s : Scale) (before t n from to : ℕ) (old new : List Bool) → n ≡ missing_before s.unit (Some before) t → 0 < n
    → from ≡ bin_at s (before + s.unit) → to ≡ bin_at s (before + n * s.unit)
    → AddsMarks (λ c. nat_le from c && nat_le c to) old new → AddsMarks (has_missing_before s (Some before) t) old new
missing-marked s before t n from to old new many some first last added = record {
  size = added.size;
  marked = λ k lt.
      let was : Bool = get_or old k false in
      added.marked k lt
      ∙ ap (λ (a : ℕ). (nat_le a k && nat_le k to) || was) first
      ∙ ap (λ (b : ℕ). (nat_le (bin_at s (before + s.unit)) k && nat_le k b) || was) last
      ∙ ap (λ (b : Bool). (b && nat_le (bin_at s (before + s.unit)) k && nat_le k (bin_at s (before + n * s.unit))) || was) (sym (lt-ltb 0 n some))
      ∙ ap (λ (m : ℕ). (nat_lt 0 m && nat_le (bin_at s (before + s.unit)) k && nat_le k (bin_at s (before + m * s.unit))) || was) many;
}

-- without a missing epoch no bin gets a mark
pub none-marked : (s : Scale) (before t n : ℕ) (old : List Bool) → n ≡ missing_before s.unit (Some before) t → n ≤ 0
    → AddsMarks (has_missing_before s (Some before) t) old old
none-marked s before t n old many none = record {
  size = refl;
  marked = λ k lt.
      let zero_many : 0 ≡ missing_before s.unit (Some before) t = omega (arith, many, none) in
      ap (λ (m : ℕ). (nat_lt 0 m && nat_le (bin_at s (before + s.unit)) k && nat_le k (bin_at s (before + m * s.unit))) || get_or old k false) zero_many;
}

-- an epoch outside of all bins changes none
pub bin-beyond : (s : Scale) (e : EpochTableView) (es : List EpochTableView) (bins : List TimeBin) (place : ℕ)
    → place ≡ bin_at s e.time → length bins ≤ place → bins ≡ bins_of s es → bins ≡ bins_of s (e ∷ es)
unfolding bins_of
bin-beyond s e es bins place at beyond are =
    let many : length bins ≡ s.bins = ap (λ xs. length xs) are ∙ length-map-range_with_len (bin_in s es) 0 s.bins in
    fill_by_all (bin_in s (e ∷ es)) bins s.bins no_bin many (λ k lt.
    let here : 0 + k ≡ k = omega arith in
    let apart : bin_at s e.time ≢ k = omega (arith, at, beyond, many, lt) in
    ap (λ xs. get_or xs k no_bin) are ∙ get_or-map-range_with_len (bin_in s es) 0 s.bins k k no_bin lt here
    ∙ sym (bin-other s e es k apart))

-- the bin of an epoch holds what came before
pub bin-there : (s : Scale) (es : List EpochTableView) (bins : List TimeBin) (place : ℕ) (d : TimeBin)
    → place < s.bins → bins ≡ bins_of s es → get_or bins place d ≡ bin_in s es place
unfolding bins_of
bin-there s es bins place d within are = ap (λ xs. get_or xs place d) are ∙ at-place (bin_in s es) s.bins place d within

pub bins-size : (s : Scale) (es : List EpochTableView) (bins : List TimeBin) → bins ≡ bins_of s es → length bins ≡ s.bins
unfolding bins_of
bins-size s es bins are = ap (λ xs. length xs) are ∙ length-map-range_with_len (bin_in s es) 0 s.bins

-- a count with that of an epoch more
pub capped-more : (r a b m n : ℕ) → r ≡ capped (a + b) → a ≡ capped m → b ≡ n → r ≡ capped (m + n)
capped-more r a b m n sum was more = omega (arith, sum, was, more)

-- ---- no epoch came

no-epoch : (s : Scale) (c : ℕ) → bin_in s [] c ≡ no_bin
unfolding trackings_in codes_in
no-epoch s c = refl

pub fresh-bins : (s : Scale) (bins : List TimeBin) (one : TimeBin) → bins ≡ replicate s.bins one → one ≡ no_bin → bins ≡ bins_of s []
unfolding bins_of
fresh-bins s bins one are is =
    fill_by_all (bin_in s []) bins s.bins one (ap (λ xs. length xs) are ∙ length-replicate s.bins one)
    (λ k lt. ap (λ xs. get_or xs k one) are ∙ get_or-replicate s.bins k one one lt ∙ is ∙ sym (no-epoch s k))

pub fresh-passes : (passes : List Pass) (one : Pass) (interval : Option ℕ) → passes ≡ replicate 32 one → StandsForPass one interval [] → StandForPasses passes interval []
fresh-passes passes one interval are stands = λ place d inside.
    subst (λ (p : Pass). StandsForPass p interval []) (sym (ap (λ (ps : List Pass). get_or ps place d) are ∙ get_or-replicate 32 place one d inside)) stands

pub fresh-gaps : (s : Scale) (gaps : List Bool) → gaps ≡ replicate s.bins false → gaps ≡ gaps_of s []
unfolding gaps_of
fresh-gaps s gaps are =
    fill_by_all (λ c. false) gaps s.bins false (ap (λ xs. length xs) are ∙ length-replicate s.bins false)
    (λ k lt. ap (λ xs. get_or xs k false) are ∙ get_or-replicate s.bins k false false lt)

pub fresh-recorded : (s : Scale) (recorded : List Bool) → recorded ≡ replicate s.bins false → recorded ≡ recorded_of s []
unfolding recorded_of
fresh-recorded s recorded are =
    fill_by_all (λ c. false) recorded s.bins false (ap (λ xs. length xs) are ∙ length-replicate s.bins false)
    (λ k lt. ap (λ xs. get_or xs k false) are ∙ get_or-replicate s.bins k false false lt)

-- ---- an epoch more

record-other : (s : Scale) (e : EpochTableView) (es : List EpochTableView) (c : ℕ) → bin_at s e.time ≢ c → has_record s es c ≡ has_record s (e ∷ es) c
record-other s e es c apart = sym (ap (λ (own : Bool). own || has_record s es c) (ne_eqb (bin_at s e.time) c apart))

-- the bin of a record is marked
pub record-more : (s : Scale) (e : EpochTableView) (es : List EpochTableView) (recorded : List Bool) (place : ℕ)
    → place ≡ bin_at s e.time → place < length recorded → recorded ≡ recorded_of s es → set recorded place true ≡ recorded_of s (e ∷ es)
unfolding recorded_of
record-more s e es recorded place at inside are =
    let many : length recorded ≡ s.bins = ap (λ xs. length xs) are ∙ length-map-range_with_len (has_record s es) 0 s.bins in
    set-map (has_record s es) (has_record s (e ∷ es)) recorded s.bins place true false are (omega (arith, inside, many))
    (sym (ap (λ (own : Bool). own || has_record s es place) (eq-eqb (bin_at s e.time) place (sym at))))
    (λ k lt other. record-other s e es k (λ same. other (sym same ∙ sym at)))

pub record-beyond : (s : Scale) (e : EpochTableView) (es : List EpochTableView) (recorded : List Bool) (place : ℕ)
    → place ≡ bin_at s e.time → length recorded ≤ place → recorded ≡ recorded_of s es → recorded ≡ recorded_of s (e ∷ es)
unfolding recorded_of
record-beyond s e es recorded place at beyond are =
    let many : length recorded ≡ s.bins = ap (λ xs. length xs) are ∙ length-map-range_with_len (has_record s es) 0 s.bins in
    fill_by_all (has_record s (e ∷ es)) recorded s.bins false many (λ k lt.
    let here : 0 + k ≡ k = omega arith in
    let apart : bin_at s e.time ≢ k = omega (arith, at, beyond, many, lt) in
    ap (λ xs. get_or xs k false) are ∙ get_or-map-range_with_len (has_record s es) 0 s.bins k k false lt here ∙ record-other s e es k apart)

pub gaps-more : (s : Scale) (e : EpochTableView) (es : List EpochTableView) (last : Option ℕ) (time : ℕ) (old new : List Bool)
    → last ≡ newest_moment es → time ≡ e.time → old ≡ gaps_of s es → AddsMarks (has_missing_before s last time) old new
    → new ≡ gaps_of s (e ∷ es)
unfolding gaps_of
gaps-more s e es last time old new before at are added =
    let all : length old ≡ s.bins = ap (λ xs. length xs) are ∙ length-map-range_with_len (has_missing s es) 0 s.bins in
    fill_by_all (has_missing s (e ∷ es)) new s.bins false (added.size ∙ all) (λ k lt.
    let inside : k < length old = omega arith in
    let here : 0 + k ≡ k = omega arith in
    let was : get_or old k false ≡ has_missing s es k = ap (λ xs. get_or xs k false) are ∙ get_or-map-range_with_len (has_missing s es) 0 s.bins k k false lt here in
    added.marked k inside ∙ ap (λ (b : Bool). has_missing_before s last time k || b) was
    ∙ ap (λ (l : Option ℕ). has_missing_before s l time k || has_missing s es k) before
    ∙ ap (λ (t : ℕ). has_missing_before s (newest_moment es) t k || has_missing s es k) at)

pub missing-more : (unit : ℕ) (e : EpochTableView) (es : List EpochTableView) (last : Option ℕ) (time missing : ℕ)
    → last ≡ newest_moment es → time ≡ e.time → missing ≡ capped (missing_in unit es + missing_before unit last time) → missing ≡ capped (missing_in unit (e ∷ es))
missing-more unit e es last time missing before at are =
    are ∙ ap (λ (l : Option ℕ). capped (missing_in unit es + missing_before unit l time)) before
    ∙ ap (λ (t : ℕ). capped (missing_in unit es + missing_before unit (newest_moment es) t)) at

-- ---- outages

pub fresh-outages : (s : Scale) (outages : List Bool) → outages ≡ replicate (32 * s.bins) false → outages ≡ outages_of s []
unfolding outages_of
fresh-outages s outages are =
    fill_by_all (λ slot. false) outages (32 * s.bins) false (ap (λ xs. length xs) are ∙ length-replicate (32 * s.bins) false)
    (λ k lt. ap (λ xs. get_or xs k false) are ∙ get_or-replicate (32 * s.bins) k false false lt)

-- whether a satellite, by its slot, has an outage: those before a place with an epoch more, the others without it
abbrev pub out_up_to : Scale → EpochTableView → List EpochTableView → ℕ → ℕ → Bool
out_up_to s e es place slot =
    cond (ltb (slot % 32) place) (has_outage s (slot % 32 + 1) (e ∷ es) (slot / 32)) (has_outage s (slot % 32 + 1) es (slot / 32))

pub out-none : (s : Scale) (e : EpochTableView) (es : List EpochTableView) (outages : List Bool) → length outages ≡ 32 * s.bins → outages ≡ outages_of s es
    → (slot : ℕ) → slot < length outages → get_or outages slot false ≡ out_up_to s e es 0 slot
unfolding outages_of
out-none s e es outages size are slot lt =
    let inside : slot < 32 * s.bins = omega (arith, lt, size) in
    let above : 0 ≤ slot % 32 = omega arith in
    ap (λ xs. get_or xs slot false) are ∙ at-place (λ k. has_outage s (k % 32 + 1) es (k / 32)) (32 * s.bins) slot false inside
    ∙ sym (ap (λ (b : Bool). cond b (has_outage s (slot % 32 + 1) (e ∷ es) (slot / 32)) (has_outage s (slot % 32 + 1) es (slot / 32))) (le-ltb (slot % 32) 0 above))

pub out-all : (s : Scale) (e : EpochTableView) (es : List EpochTableView) (i : ℕ) (outages : List Bool) → i ≡ 32 → length outages ≡ 32 * s.bins
    → ((slot : ℕ) → slot < length outages → get_or outages slot false ≡ out_up_to s e es i slot) → outages ≡ outages_of s (e ∷ es)
unfolding outages_of
out-all s e es i outages end size so_far =
    fill_by_all (λ slot. has_outage s (slot % 32 + 1) (e ∷ es) (slot / 32)) outages (32 * s.bins) false size (λ slot lt.
    let inside : slot < length outages = omega (arith, lt, size) in
    let below : slot % 32 < i = omega (arith, end) in
    so_far slot inside ∙ ap (λ (b : Bool). cond b (has_outage s (slot % 32 + 1) (e ∷ es) (slot / 32)) (has_outage s (slot % 32 + 1) es (slot / 32))) (lt-ltb (slot % 32) i below))

-- a slot of the satellite at a place, in one of these bins
abbrev pub in_slots : ℕ → ℕ → ℕ → ℕ → Bool
in_slots place from to k = (k % 32 == place) && (nat_le from (k / 32) && nat_le (k / 32) to)

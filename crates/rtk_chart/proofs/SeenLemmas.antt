-- The satellites and codes in the bins of a picture are those in its epochs, since each epoch has a bin.
use Rattle.std.proofs.Common.{◌≡◌, ◌≢◌, ◌≤◌, ◌<◌, ◌+◌, ◌^◌, ℕ, zero, suc, Bool, true, false, cond, ◌&&◌, ◌||◌, count_by, List, [], ◌∷◌, map, inl, inr, refl, sym, ap, ◌∙◌, arith}
use Rattle.std.specs.Prelude.{All}
use Rattle.std.specs.List.{range_with_len, list_any}
use Rattle.std.proofs.lemmas.Bool.{eq-eqb, ne_eqb, cases_eq}
use Rattle.std.proofs.lemmas.List.Elements.{All-head, All-tail}
use Rattle.rtk_rinex.specs.Record.{EpochTableView}
use Rattle.rtk_rinex.specs.declared.epoch_table.Observed.{Observed}
use Rattle.rtk_tracking.specs.Epochs.{observed_in, shows_phase}
use Rattle.rtk_chart.specs.Epochs.{is_seen}
use Rattle.rtk_chart.specs.Scale.{bin_at}
use Rattle.rtk_chart.specs.Grid.{no_marks, no_tracking, some_epoch, code_in, codes_in, tracking_in, trackings_in, bin_in, bins_of, tracking_at, marks_at}
use Rattle.rtk_chart.specs.Signs.{is_drawn, has_code}
use Rattle.rtk_chart.specs.TextPicture.{drawn_before, satellites_in}
use Rattle.rtk_chart.specs.HeadingLaws.{satellites_shown_in}
use Rattle.rtk_chart.specs.declared.scale.Scale.{Scale}
use Rattle.rtk_chart.specs.declared.code_marks.CodeMarks.{CodeMarks}
use Rattle.rtk_chart.specs.declared.tracking.Tracking.{Tracking}
use Rattle.rtk_chart.specs.declared.time_bin.TimeBin.{TimeBin}
use Rattle.rtk_chart.proofs.ListLemmas.{any-in-range, count-more, count-bound}
use Rattle.rtk_chart.proofs.GridLemmas.{at-place}

-- ---- tests of lists

any-map : {X Y : Type 0} (p : Y → Bool) (f : X → Y) (xs : List X) → list_any p (map f xs) ≡ list_any (λ x. p (f x)) xs
any-map p f [] = refl
any-map p f (x ∷ xs) = ap (λ (b : Bool). p (f x) || b) (any-map p f xs)

any-same : (p q : ℕ → Bool) (a n : ℕ) → ((k : ℕ) → p k ≡ q k) → list_any p (range_with_len a n) ≡ list_any q (range_with_len a n)
any-same p q a zero same = refl
any-same p q a (suc n) same =
    ap (λ (b : Bool). b || list_any p (range_with_len (a + 1) n)) (same a) ∙ ap (λ (b : Bool). q a || b) (any-same p q (a + 1) n same)

any-none : (a n : ℕ) → list_any (λ k. false) (range_with_len a n) ≡ false
any-none a zero = refl
any-none a (suc n) = any-none (a + 1) n

count-same : (p q : ℕ → Bool) (n : ℕ) → ((k : ℕ) → k < n → p k ≡ q k) → count_by p (range_with_len 0 n) ≡ count_by q (range_with_len 0 n)
count-same p q zero same = refl
count-same p q (suc n) same =
    let e : suc n ≡ n + 1 = omega arith in
    let last : n < suc n = omega arith in
    let rest = count-same p q n (λ k lt. same k (omega (arith, lt))) in
    ap (λ (m : ℕ). count_by p (range_with_len 0 m)) e ∙ count-more p n
    ∙ ap (λ (c : ℕ). c + cond (p n) 1 0) rest ∙ ap (λ (b : Bool). count_by q (range_with_len 0 n) + cond b 1 0) (same n last)
    ∙ sym (count-more q n) ∙ sym (ap (λ (m : ℕ). count_by q (range_with_len 0 m)) e)

-- ---- epochs in their bins

-- the epoch has its bin
abbrev pub HasBin : Scale → EpochTableView → Type 0
HasBin s e = bin_at s e.time < s.bins

-- some epoch of a bin passes a test of what it shows of a satellite
some-in : (List Observed → Bool) → Scale → ℕ → List EpochTableView → ℕ → Bool
some-in p s satellite es c = some_epoch (λ before now. p now.observed) s satellite es c

-- some epoch passes it
abbrev some-of : (List Observed → Bool) → ℕ → List EpochTableView → Bool
some-of p satellite es = list_any (λ e. p (observed_in satellite e.rows)) es

in-own : (p : List Observed → Bool) (s : Scale) (satellite : ℕ) (e : EpochTableView) (es : List EpochTableView) (c : ℕ) → bin_at s e.time ≡ c
    → some-in p s satellite (e ∷ es) c ≡ (p (observed_in satellite e.rows) || some-in p s satellite es c)
unfolding some-in
in-own p s satellite e es c at =
    ap (λ (b : Bool). (b && p (observed_in satellite e.rows)) || some_epoch (λ before now. p now.observed) s satellite es c) (eq-eqb (bin_at s e.time) c at)

in-other : (p : List Observed → Bool) (s : Scale) (satellite : ℕ) (e : EpochTableView) (es : List EpochTableView) (c : ℕ) → bin_at s e.time ≢ c
    → some-in p s satellite (e ∷ es) c ≡ some-in p s satellite es c
unfolding some-in
in-other p s satellite e es c apart =
    ap (λ (b : Bool). (b && p (observed_in satellite e.rows)) || some_epoch (λ before now. p now.observed) s satellite es c) (ne_eqb (bin_at s e.time) c apart)

in-neither : (p : List Observed → Bool) (s : Scale) (satellite : ℕ) (e : EpochTableView) (es : List EpochTableView) → p (observed_in satellite e.rows) ≡ false → (c : ℕ)
    → some-in p s satellite (e ∷ es) c ≡ some-in p s satellite es c
in-neither p s satellite e es fails c =
    elim (cases_eq (bin_at s e.time) c) [
      | inl at ↦ in-own p s satellite e es c at ∙ ap (λ (b : Bool). b || some-in p s satellite es c) fails
      | inr apart ↦ in-other p s satellite e es c apart
    ]

in-more : (p : List Observed → Bool) (s : Scale) (satellite : ℕ) (e : EpochTableView) (es : List EpochTableView) (b : Bool) → p (observed_in satellite e.rows) ≡ b → HasBin s e
    → list_any (some-in p s satellite es) (range_with_len 0 s.bins) ≡ some-of p satellite es
    → list_any (some-in p s satellite (e ∷ es)) (range_with_len 0 s.bins) ≡ (p (observed_in satellite e.rows) || some-of p satellite es)
in-more p s satellite e es true holds has rest =
    let from : 0 ≤ bin_at s e.time = omega arith in
    let to : bin_at s e.time < 0 + s.bins = omega (arith, has) in
    any-in-range (some-in p s satellite (e ∷ es)) 0 s.bins (bin_at s e.time) from to
    (in-own p s satellite e es (bin_at s e.time) refl ∙ ap (λ (b : Bool). b || some-in p s satellite es (bin_at s e.time)) holds)
    ∙ sym (ap (λ (b : Bool). b || some-of p satellite es) holds)
in-more p s satellite e es false fails has rest =
    any-same (some-in p s satellite (e ∷ es)) (some-in p s satellite es) 0 s.bins (in-neither p s satellite e es fails) ∙ rest
    ∙ sym (ap (λ (b : Bool). b || some-of p satellite es) fails)

in-none : (p : List Observed → Bool) (s : Scale) (satellite : ℕ) → list_any (some-in p s satellite []) (range_with_len 0 s.bins) ≡ false
unfolding some-in
in-none p s satellite = any-none 0 s.bins

-- some epoch of some bin passes exactly if some epoch does
in-bins : (p : List Observed → Bool) (s : Scale) (satellite : ℕ) (es : List EpochTableView) → All (HasBin s) es
    → list_any (some-in p s satellite es) (range_with_len 0 s.bins) ≡ some-of p satellite es
in-bins p s satellite [] has = in-none p s satellite
in-bins p s satellite (e ∷ es) has =
    in-more p s satellite e es (p (observed_in satellite e.rows)) refl (All-head (HasBin s) e es has) (in-bins p s satellite es (All-tail (HasBin s) e es has))

-- ---- satellites

pub tracking-of-bin : (s : Scale) (es : List EpochTableView) (c place : ℕ) → place < 32 → tracking_at place (bin_in s es c) ≡ tracking_in s (place + 1) es c
unfolding trackings_in
tracking-of-bin s es c place inside = at-place (λ (k : ℕ). tracking_in s (k + 1) es c) 32 place no_tracking inside

pub marks-of-tracking : (s : Scale) (satellite : ℕ) (es : List EpochTableView) (c code : ℕ) → code < 16
    → marks_at code (tracking_in s satellite es c) ≡ code_in s satellite es c code
unfolding codes_in
marks-of-tracking s satellite es c code inside = at-place (code_in s satellite es c) 16 code no_marks inside

seen-in-bin : (place : ℕ) (s : Scale) (es : List EpochTableView) → place < 32 → (c : ℕ)
    → (tracking_at place (bin_in s es c)).seen ≡ some-in is_seen s (place + 1) es c
unfolding some-in
seen-in-bin place s es inside c = ap (λ (x : Tracking). x.seen) (tracking-of-bin s es c place inside)

drawn-if-seen : (place : ℕ) (s : Scale) (es : List EpochTableView) → place < 32 → All (HasBin s) es
    → is_drawn (bins_of s es) place ≡ some-of is_seen (place + 1) es
unfolding is_drawn bins_of
drawn-if-seen place s es inside has =
    let seen = λ (bin : TimeBin). (tracking_at place bin).seen in
    any-map seen (bin_in s es) (range_with_len 0 s.bins)
    ∙ any-same (λ (c : ℕ). seen (bin_in s es c)) (some-in is_seen s (place + 1) es) 0 s.bins (seen-in-bin place s es inside)
    ∙ in-bins is_seen s (place + 1) es has

pub satellites-are : (s : Scale) (es : List EpochTableView) → All (HasBin s) es → satellites_in (bins_of s es) ≡ satellites_shown_in es
unfolding drawn_before satellites_shown_in
satellites-are s es has =
    count-same (is_drawn (bins_of s es)) (λ (place : ℕ). some-of is_seen (place + 1) es) 32
    (λ place inside. drawn-if-seen place s es inside has)

pub satellites-fit : (bins : List TimeBin) → satellites_in bins < 2 ^ 64
unfolding drawn_before
satellites-fit bins = let few = count-bound (is_drawn bins) 32 in omega (arith, few)

-- ---- codes

phase-in-bin : (place code : ℕ) (s : Scale) (es : List EpochTableView) → place < 32 → code < 16 → (c : ℕ)
    → (marks_at code (tracking_at place (bin_in s es c))).phase ≡ some-in (shows_phase code) s (place + 1) es c
unfolding some-in
phase-in-bin place code s es inside few c =
    ap (λ (x : Tracking). (marks_at code x).phase) (tracking-of-bin s es c place inside)
    ∙ ap (λ (m : CodeMarks). m.phase) (marks-of-tracking s (place + 1) es c code few)

-- a satellite has a code in its bins if it has it in its epochs
pub codes-are : (s : Scale) (es : List EpochTableView) (place code : ℕ) → place < 32 → code < 16 → All (HasBin s) es
    → has_code (bins_of s es) place code ≡ list_any (λ e. shows_phase code (observed_in (place + 1) e.rows)) es
unfolding has_code bins_of
codes-are s es place code inside few has =
    let phase = λ (bin : TimeBin). (marks_at code (tracking_at place bin)).phase in
    any-map phase (bin_in s es) (range_with_len 0 s.bins)
    ∙ any-same (λ (c : ℕ). phase (bin_in s es c)) (some-in (shows_phase code) s (place + 1) es) 0 s.bins (phase-in-bin place code s es inside few)
    ∙ in-bins (shows_phase code) s (place + 1) es has

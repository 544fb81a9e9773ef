-- The bins of a picture fill its room.
use Rattle.std.proofs.Common.{◌≡◌, ◌≤◌, ◌<◌, ◌+◌, ◌-◌, ◌*◌, ◌/◌, ℕ, Bool, Option, None, Some, List, [], ◌∷◌, ◌++◌, length, map, codes, refl, ap, ◌∙◌, inl, inr, arith, length-append}
use Rattle.std.specs.List.{range_with_len}
use Rattle.std.proofs.Math.Nat.{add-mul, zero-div, mul-div_cancel_left}
use Rattle.std.proofs.lemmas.Bool.{cases_lt}
use Rattle.std.proofs.lemmas.List.FromFn.{length-map-range_with_len}
use Rattle.std.proofs.lemmas.Nat.{mul-le, div-add-mod', mod_below}
use Rattle.rtk_rinex.specs.Record.{EpochTableView}
use Rattle.rtk_chart.specs.Scale.{IsScale, unit_of, half_of, intervals_of, scale_of}
use Rattle.rtk_chart.specs.Grid.{bin_in, bins_of, has_missing, gaps_of, recorded_of}
use Rattle.rtk_chart.specs.Ticks.{tick_at}
use Rattle.rtk_chart.specs.TextPicture.{character_at, row_head, satellite_row, gap_mark_at, gap_row, axis_mark, axis_row}
use Rattle.rtk_chart.specs.Laws.{FillsRoom, FillsWidth}
use Rattle.rtk_chart.specs.declared.groups.Names.{Names}
use Rattle.rtk_chart.specs.declared.scale.Scale.{Scale}
use Rattle.rtk_chart.specs.declared.time_bin.TimeBin.{TimeBin}
use Rattle.rtk_chart.proofs.ScaleLemmas.{mul-pos, bins-few}
use Rattle.rtk_chart.proofs.LawLemmas.{div-mono, shorter-too-many}

-- ---- how long a bin is

pub unit-some : (interval : Option ℕ) → 0 < unit_of interval
unit-some None = omega arith
unit-some (Some interval) = omega arith

fewer : (k n unit : ℕ) → k * unit < n * unit → k < n
fewer k n unit shorter =
    elim (cases_lt k n) [
      | inl less ↦ less
      | inr more ↦
          let same : unit ≤ unit = omega arith in
          let longer = mul-le n unit k unit more same in
          absurd (omega (arith, longer, shorter))
    ]

pub within : (first last half size t : ℕ) → 0 < size → t ≤ last → (t - first + half) / size < (last - first + half) / size + 1
within first last half size t some to =
    let sooner : t - first + half ≤ last - first + half = omega (arith, to) in
    let most = div-mono (t - first + half) (last - first + half) size some sooner in
    omega (arith, most)

pub scale-fills : (first last allowed : ℕ) (interval : Option ℕ) → 0 < allowed → FillsRoom (scale_of first last interval allowed) allowed
scale-fills first last allowed interval some =
    let unit = unit_of interval in
    let span = last - first + half_of unit in
    let n = intervals_of span unit allowed in
    let long = unit-some interval in
    let any : 0 < span / (allowed * unit) + 1 = omega arith in
    let size : 0 < n * unit = mul-pos n unit any long in
    record {
      few = bins-few span unit allowed some long;
      whole = (n, any, refl);
      least = λ k more shorter. shorter-too-many span unit allowed k long more (fewer k n unit shorter);
      each = λ t to. within first last (half_of unit) (n * unit) t size to;
      last = refl;
    }

-- ---- how many characters a row has

three-long : (a b c : List ℕ) → length ((a ++ b) ++ c) ≡ length a + length b + length c
three-long a b c = omega (arith, length-append (a ++ b) c, length-append a b)

row-long : (names : Names) (bins : List TimeBin) (outages : List Bool) (place n : ℕ) → length bins ≡ n → length (satellite_row names bins outages place) ≡ n + 6
unfolding satellite_row
row-long names bins outages place n many =
    let marks : List ℕ = map (character_at bins outages place) (range_with_len 0 (length bins)) in
    let same : length marks ≡ n = length-map-range_with_len (character_at bins outages place) 0 (length bins) ∙ many in
    three-long (row_head names.letter (names.before + place + 1)) marks (codes "|\n") ∙ ap (λ (k : ℕ). 4 + k + 2) same ∙ omega arith

gap-long : (recorded gaps : List Bool) (n : ℕ) → length gaps ≡ n → length (gap_row recorded gaps) ≡ n + 6
unfolding gap_row
gap-long recorded gaps n many =
    let marks : List ℕ = map (gap_mark_at recorded gaps) (range_with_len 0 (length gaps)) in
    let same : length marks ≡ n = length-map-range_with_len (gap_mark_at recorded gaps) 0 (length gaps) ∙ many in
    three-long (codes "gap|") marks (codes "|\n") ∙ ap (λ (k : ℕ). 4 + k + 2) same ∙ omega arith

axis-long : (s : Scale) (step : ℕ) → length (axis_row s step) ≡ s.bins + 5
unfolding axis_row
axis-long s step =
    let mark : ℕ → ℕ = λ c. axis_mark (tick_at s step c) in
    let same : length (map mark (range_with_len 0 s.bins)) ≡ s.bins = length-map-range_with_len mark 0 s.bins in
    three-long (codes "    ") (map mark (range_with_len 0 s.bins)) (10 ∷ []) ∙ ap (λ (k : ℕ). 4 + k + 1) same ∙ omega arith

bins-many : (s : Scale) (es : List EpochTableView) → length (bins_of s es) ≡ s.bins
unfolding bins_of
bins-many s es = length-map-range_with_len (bin_in s es) 0 s.bins

gaps-many : (s : Scale) (es : List EpochTableView) → length (gaps_of s es) ≡ s.bins
unfolding gaps_of
gaps-many s es = length-map-range_with_len (has_missing s es) 0 s.bins

pub rows-long : (s : Scale) (es : List EpochTableView) (names : Names) (outages : List Bool) (place step : ℕ)
    → (length (satellite_row names (bins_of s es) outages place) ≡ s.bins + 6) × (length (gap_row (recorded_of s es) (gaps_of s es)) ≡ s.bins + 6)
    × (length (axis_row s step) ≡ s.bins + 5)
rows-long s es names outages place step =
    (row-long names (bins_of s es) outages place s.bins (bins-many s es), gap-long (recorded_of s es) (gaps_of s es) s.bins (gaps-many s es), axis-long s step)

-- ---- how wide a column is

-- the share of one more
share-more : (a w n : ℕ) → 0 < n → ((a / n + w / n ≤ (a + w) / n) × ((a + w) / n ≤ a / n + w / n + 1))
share-more a w n some =
    let p = a / n in
    let q = w / n in
    let r = (a + w) / n in
    let of_a = div-add-mod' a n in
    let of_w = div-add-mod' w n in
    let of_both = div-add-mod' (a + w) n in
    let rest_a = mod_below a n some in
    let rest_w = mod_below w n some in
    let rest = mod_below (a + w) n some in
    let sum = add-mul p q n in
    let one : 1 * n ≡ n = omega arith in
    let two : 2 * n ≡ n + n = omega arith in (
      elim (cases_lt r (p + q)) [
        | inl less ↦
            let room : r + 1 ≤ p + q = omega arith in
            let same : n ≤ n = omega arith in
            let over = mul-le (r + 1) n (p + q) n room same in
            let next = add-mul r 1 n in
            absurd (omega (arith, over, next, one, sum, of_a, of_w, of_both, rest))
        | inr more ↦ more
      ],
      elim (cases_lt (p + q + 1) r) [
        | inl less ↦
            let room : p + q + 2 ≤ r = omega arith in
            let same : n ≤ n = omega arith in
            let over = mul-le (p + q + 2) n r n room same in
            let next = add-mul (p + q) 2 n in
            absurd (omega (arith, over, next, two, sum, of_a, of_w, of_both, rest_a, rest_w))
        | inr more ↦ more
      ],
    )

pub columns-filled : (s : Scale) → IsScale s → FillsWidth s.bins
columns-filled s is =
    let n = s.bins in
    let many = is.bins in
    let some : 0 < n = omega (arith, many) in
    let next : (c : ℕ) → (c + 1) * 1440 ≡ c * 1440 + 1440 = λ c. omega arith in
    record {
      begin = zero-div n;
      end = mul-div_cancel_left 1440 some;
      least = λ c. omega (arith, (share-more (c * 1440) 1440 n some).0, ap (λ (k : ℕ). k / n) (next c));
      most = λ c. omega (arith, (share-more (c * 1440) 1440 n some).1, ap (λ (k : ℕ). k / n) (next c));
    }

-- How high a picture in SVG is.
use Rattle.std.proofs.Common.{◌≡◌, ◌≤◌, ◌<◌, ℕ, zero, suc, ◌+◌, ◌*◌, Bool, true, false, cond, List, [], ◌∷◌, ◌++◌, length, map, refl, ap, ◌∙◌, append_assoc, arith}
use Rattle.std.specs.Prelude.{max, nat_lt, is_some, count_by}
use Rattle.std.specs.List.{range_with_len, sum_by}
use Rattle.std.proofs.Math.Nat.{mul-add}
use Rattle.std.proofs.lemmas.Bool.{ltb-false}
use Rattle.std.proofs.lemmas.List.{length-map}
use Rattle.std.proofs.lemmas.List.Sums.{sum_by-cons, count_by-le-length}
use Rattle.std.proofs.lemmas.List.FromFn.{length-range_with_len}
use Rattle.rtk_obs.specs.Code.{name_of}
use Rattle.rtk_obs.specs.declared.code.Band.TheVariants.{L1, L2, L5}
use Rattle.rtk_chart.specs.Signs.{is_drawn, has_code}
use Rattle.rtk_chart.specs.Means.{least_mean, bands_of, columns_of}
use Rattle.rtk_chart.specs.TextPicture.{drawn_before, satellites_in}
use Rattle.rtk_tracking.specs.Epochs.{capped}
use Rattle.rtk_tracking.specs.Interval.{missing_in}
use Rattle.rtk_chart.specs.Chart.{slips_at, returns_at, rises_at}
use Rattle.rtk_chart.specs.Grid.{bins_of, outages_of, gaps_of}
use Rattle.rtk_chart.specs.SvgStrip.{strip_height}
use Rattle.rtk_chart.specs.SvgPicture.{codes_before, lines_before, is_lacked, lacked_before, height_if_drawn, band_top, never_end, spacing_of, svg_start, svg_span, svg_numbers, svg_body, svg_picture}
use Rattle.rtk_chart.specs.Size.{rows_for, rows_if_drawn, rows_in, lanes_in, height_for, picture_height}
use Rattle.rtk_chart.specs.SizeLaws.{SvgHasItsHeight, HaveTwoBars, DaysFitScreen, NoneIsHigher}
use Rattle.rtk_chart.specs.declared.time_bin.TimeBin.{TimeBin}
use Rattle.rtk_chart.specs.declared.strengths.Strengths.{Strengths}
use Rattle.rtk_chart.specs.declared.spacing.Spacing.{Spacing}
use Rattle.rtk_chart.specs.declared.spacing.Spacing.TheVariants.{Wide, Close}

-- ---- the height is that of what it has

-- what each of a list takes, all of them take
sums-are : {X : Type 0} (high rows : X → ℕ) (drawn : X → Bool) (a b : ℕ)
    → ((x : X) → high x ≡ a * rows x + b * cond (drawn x) 1 0)
    → (xs : List X) → sum_by high xs ≡ a * sum_by rows xs + b * count_by drawn xs
sums-are high rows drawn a b each [] = omega arith
sums-are high rows drawn a b each (x ∷ xs) =
    let rest = sums-are high rows drawn a b each xs in
    let here = each x in
    let of_rows = mul-add a (rows x) (sum_by rows xs) in
    let of_drawn = mul-add b (cond (drawn x) 1 0) (count_by drawn xs) in
    rw (sum_by-cons high x xs, sum_by-cons rows x xs, sum_by-cons (λ y. cond (drawn y) 1 0) x xs)
    (omega (arith, rest, here, of_rows, of_drawn))

wide-band : (drawn : Bool) (bars : ℕ) → cond drawn (22 * max bars 1 + 14) 0 ≡ 22 * cond drawn (max bars 1) 0 + 14 * cond drawn 1 0
wide-band false bars = omega arith
wide-band true bars = omega arith

close-band : (drawn : Bool) (bars : ℕ) → cond drawn (10 * max bars 2 + 4) 0 ≡ 10 * cond drawn (max bars 2) 0 + 4 * cond drawn 1 0
close-band false bars = omega arith
close-band true bars = omega arith

-- the lanes of the bands
lanes : (a b c : Bool) → cond a 46 0 + cond b 46 0 + cond c 46 0 ≡ 46 * (((0 + cond a 1 0) + cond b 1 0) + cond c 1 0)
lanes false false false = refl
lanes false false true = refl
lanes false true false = refl
lanes false true true = refl
lanes true false false = refl
lanes true false true = refl
lanes true true false = refl
lanes true true true = refl

strip-lanes : (columns : List Strengths) → strip_height columns ≡ 46 * lanes_in columns
unfolding strip_height lanes_in
strip-lanes columns = lanes (is_some (least_mean L1 columns)) (is_some (least_mean L2 columns)) (is_some (least_mean L5 columns))

end-is : (spacing : Spacing) (bins : List TimeBin) (listed : ℕ) (columns : List Strengths)
    → never_end spacing bins listed + strip_height columns + 230
    ≡ height_for spacing (rows_in spacing bins listed) (satellites_in bins) (lacked_before bins listed) (lanes_in columns)
unfolding band_top rows_in drawn_before
end-is Wide bins listed columns =
    let strip = strip-lanes columns in
    let bands = sums-are (height_if_drawn Wide bins listed) (rows_if_drawn Wide bins listed) (is_drawn bins) 22 14
    (λ place. wide-band (is_drawn bins place) (codes_before bins place listed)) (range_with_len 0 32) in
    omega (arith, bands, strip)
end-is Close bins listed columns =
    let strip = strip-lanes columns in
    let bands = sums-are (height_if_drawn Close bins listed) (rows_if_drawn Close bins listed) (is_drawn bins) 10 4
    (λ place. close-band (is_drawn bins place) (codes_before bins place listed)) (range_with_len 0 32) in
    omega (arith, bands, strip)

pub height-is : (bins : List TimeBin) (listed : ℕ) (columns : List Strengths)
    → never_end (spacing_of bins listed) bins listed + strip_height columns + 230 ≡ picture_height bins listed columns
unfolding picture_height
height-is bins listed columns = end-is (spacing_of bins listed) bins listed columns

pub svg-has-its-height : SvgHasItsHeight
unfolding svg_picture
svg-has-its-height marker listed s es =
    let bins = bins_of s es in
    let columns = columns_of s (bands_of listed) es in
    let names : List (List ℕ) = map name_of listed in
    let spacing = spacing_of bins (length names) in
    let end = never_end spacing bins (length names) in
    let numbers : List ℕ = svg_numbers (capped (length es)) (satellites_in bins) (slips_at s es) (returns_at s es) (rises_at s es) (capped (missing_in s.unit es)) in
    let body : List ℕ = svg_body spacing names s bins (outages_of s es) (gaps_of s es) columns end in
    let start : List ℕ = svg_start marker (end + strip_height columns + 230) in
    let same = ap (λ (t : List ℕ). t ++ body) (append_assoc start (svg_span s) numbers) ∙ append_assoc start (svg_span s ++ numbers) body in
    let rest : List ℕ = svg_span s ++ numbers ++ body in (
      rest,
      same ∙ ap (λ (height : ℕ). svg_start marker height ++ rest) (height-is bins (length names) columns)
          ∙ ap (λ (n : ℕ). svg_start marker (picture_height bins n columns) ++ rest) (length-map listed name_of),
    )

-- ---- it is not high

-- a sum of terms that count so often, if each of them is no greater than another
sums-within : (often : ℕ) (f g : ℕ → ℕ) (from n : ℕ) → ((place : ℕ) → place < from + n → often * f place ≤ g place)
    → often * sum_by f (range_with_len from n) ≤ sum_by g (range_with_len from n)
sums-within often f g from zero each = omega arith
sums-within often f g from (suc n) each =
    let rest = sums-within often f g (from + 1) n (λ place within. each place (omega arith)) in
    let here = each from (omega arith) in
    let both = mul-add often (f from) (sum_by f (range_with_len (from + 1) n)) in
    rw (sum_by-cons f from (range_with_len (from + 1) n), sum_by-cons g from (range_with_len (from + 1) n)) (omega (arith, rest, here, both))

lanes-few : (columns : List Strengths) → lanes_in columns ≤ 3
unfolding lanes_in
lanes-few columns = count_by-le-length (λ band. is_some (least_mean band columns)) (L1 ∷ L2 ∷ L5 ∷ [])

-- two bars or more have no more rows, wide or close
rows-of-two : (spacing : Spacing) (drawn : Bool) (bars : ℕ) → (drawn ≡ true → 2 ≤ bars) → 1 * cond drawn (rows_for spacing bars) 0 ≤ bars
rows-of-two spacing false bars two = omega arith
rows-of-two Wide true bars two = let least = two refl in omega (arith, least)
rows-of-two Close true bars two = let least = two refl in omega (arith, least)

rows-are-bars : (spacing : Spacing) (bins : List TimeBin) (listed : ℕ) → HaveTwoBars bins listed → rows_in spacing bins listed ≤ lines_before bins listed 32
unfolding rows_in lines_before
rows-are-bars spacing bins listed two =
    let sums = sums-within 1 (rows_if_drawn spacing bins listed) (λ place. codes_before bins place listed) 0 32
    (λ place within. rows-of-two spacing (is_drawn bins place) (codes_before bins place listed) (two place within)) in
    omega (arith, sums)

one-of-two : (drawn : Bool) (bars : ℕ) → (drawn ≡ true → 2 ≤ bars) → 2 * cond drawn 1 0 ≤ bars
one-of-two false bars two = omega arith
one-of-two true bars two = two refl

satellites-of-bars : (bins : List TimeBin) (listed : ℕ) → HaveTwoBars bins listed → 2 * satellites_in bins ≤ lines_before bins listed 32
unfolding drawn_before lines_before
satellites-of-bars bins listed two =
    sums-within 2 (λ place. cond (is_drawn bins place) 1 0) (λ place. codes_before bins place listed) 0 32
    (λ place within. one-of-two (is_drawn bins place) (codes_before bins place listed) (two place within))

fits : (bins : List TimeBin) (listed : ℕ) (columns : List Strengths) (many : Bool) → nat_lt 48 (lines_before bins listed 32) ≡ many
    → satellites_in bins ≤ 40 → HaveTwoBars bins listed → lines_before bins listed 32 ≤ 130 → lacked_before bins listed ≤ 1
    → height_for (cond many Close Wide) (rows_in (cond many Close Wide) bins listed) (satellites_in bins) (lacked_before bins listed) (lanes_in columns) < 2000
fits bins listed columns true many satellites two bars nevers =
    let rows = rows-are-bars Close bins listed two in
    let few = lanes-few columns in
    omega (arith, rows, few)
fits bins listed columns false many satellites two bars nevers =
    let rows = rows-are-bars Wide bins listed two in
    let few = lanes-few columns in
    let halves = satellites-of-bars bins listed two in
    let least = ltb-false 48 (lines_before bins listed 32) many in
    omega (arith, rows, few, halves, least)

pub days-fit-screen : DaysFitScreen
unfolding picture_height
days-fit-screen bins listed columns satellites two bars nevers =
    fits bins listed columns (nat_lt 48 (lines_before bins listed 32)) refl satellites two bars nevers

-- ---- none is higher

pub satellites-few : (bins : List TimeBin) → satellites_in bins ≤ 32
unfolding drawn_before
satellites-few bins = count_by-le-length (is_drawn bins) (range_with_len 0 32)

pub nevers-few : (bins : List TimeBin) (listed : ℕ) → lacked_before bins listed ≤ listed
unfolding lacked_before
nevers-few bins listed = omega (arith, count_by-le-length (is_lacked bins) (range_with_len 0 listed), length-range_with_len 0 listed)

bars-few : (bins : List TimeBin) (place listed : ℕ) → codes_before bins place listed ≤ listed
unfolding codes_before
bars-few bins place listed = omega (arith, count_by-le-length (has_code bins place) (range_with_len 0 listed), length-range_with_len 0 listed)

close-rows : (drawn : Bool) (bars : ℕ) → bars ≤ 16 → 1 * cond drawn (max bars 2) 0 ≤ 16
close-rows false bars few = omega arith
close-rows true bars few = omega arith

rows-close-few : (bins : List TimeBin) (listed : ℕ) → listed ≤ 16 → rows_in Close bins listed ≤ 512
unfolding rows_in
rows-close-few bins listed few =
    let sums = sums-within 1 (rows_if_drawn Close bins listed) (λ place. 16) 0 32
    (λ place within. close-rows (is_drawn bins place) (codes_before bins place listed) (let bars = bars-few bins place listed in omega (arith, bars, few))) in
    omega (arith, sums)

wide-rows : (drawn : Bool) (bars : ℕ) → 1 * cond drawn (max bars 1) 0 ≤ bars + 1
wide-rows false bars = omega arith
wide-rows true bars = omega arith

-- one more for each term
with-one : (f : ℕ → ℕ) (from n : ℕ) → sum_by (λ place. f place + 1) (range_with_len from n) ≡ sum_by f (range_with_len from n) + n
with-one f from zero = refl
with-one f from (suc n) =
    let rest = with-one f (from + 1) n in
    rw (sum_by-cons (λ place. f place + 1) from (range_with_len (from + 1) n), sum_by-cons f from (range_with_len (from + 1) n)) (omega (arith, rest))

rows-wide-few : (bins : List TimeBin) (listed : ℕ) → rows_in Wide bins listed ≤ lines_before bins listed 32 + 32
unfolding rows_in lines_before
rows-wide-few bins listed =
    let sums = sums-within 1 (rows_if_drawn Wide bins listed) (λ place. codes_before bins place listed + 1) 0 32
    (λ place within. wide-rows (is_drawn bins place) (codes_before bins place listed)) in
    let more = with-one (λ place. codes_before bins place listed) 0 32 in
    omega (arith, sums, more)

none-higher : (bins : List TimeBin) (listed : ℕ) (columns : List Strengths) (many : Bool) → nat_lt 48 (lines_before bins listed 32) ≡ many → listed ≤ 16
    → height_for (cond many Close Wide) (rows_in (cond many Close Wide) bins listed) (satellites_in bins) (lacked_before bins listed) (lanes_in columns) ≤ 6140
none-higher bins listed columns true many few =
    let rows = rows-close-few bins listed few in
    let lanes = lanes-few columns in
    let satellites = satellites-few bins in
    let nevers = nevers-few bins listed in
    omega (arith, rows, lanes, satellites, nevers, few)
none-higher bins listed columns false many few =
    let rows = rows-wide-few bins listed in
    let lanes = lanes-few columns in
    let satellites = satellites-few bins in
    let nevers = nevers-few bins listed in
    let least = ltb-false 48 (lines_before bins listed 32) many in
    omega (arith, rows, lanes, satellites, nevers, few, least)

pub none-is-higher : NoneIsHigher
unfolding picture_height
none-is-higher bins listed columns few = none-higher bins listed columns (nat_lt 48 (lines_before bins listed 32)) refl few

-- How many bytes a picture in SVG has beside its bands.
use Rattle.std.proofs.Common.{◌≡◌, ◌≤◌, ◌<◌, ◌==◌, ℕ, zero, suc, ◌+◌, ◌-◌, ◌*◌, ◌/◌, ◌%◌, ◌^◌, Bool, true, false, cond, List, [], ◌∷◌, ◌++◌, Option, None, Some, length, get_or, map, codes, refl, ap, subst, arith, length-append}
use Rattle.std.specs.Prelude.{All, decimal, flat_map, max, min, unwrap_or, is_some}
use Rattle.std.specs.Option.{ForSome}
use Rattle.std.specs.List.{range_with_len, sum_by, fold}
use Rattle.std.specs.Ordering.{nat_cmp, is_lt}
use Rattle.std.proofs.lemmas.Fmt.{length-decimal-le}
use Rattle.std.proofs.lemmas.List.{get_or-map, length-map}
use Rattle.std.proofs.lemmas.List.Elements.{All-head, All-tail}
use Rattle.std.proofs.lemmas.List.Concat.{length-flat_map}
use Rattle.std.proofs.lemmas.List.Sums.{sum_by-cons, count_by-le-length}
use Rattle.std.proofs.lemmas.List.FromFn.{length-range_with_len, length-map-range_with_len}
use Rattle.rtk_obs.specs.Code.{name_of}
use Rattle.rtk_obs.specs.CivilText.{date_text, clock_text, civil_text, last_digits}
use Rattle.rtk_obs.specs.declared.time.Civil.{Civil}
use Rattle.rtk_obs.specs.declared.code.Band.{Band}
use Rattle.rtk_obs.specs.declared.code.Band.TheVariants.{L1, L2, L5}
use Rattle.rtk_obs.specs.declared.code.Code.{Code}
use Rattle.rtk_obs.specs.declared.code.Code.TheVariants.{G1C}
use Rattle.rtk_obs.specs.Reading.{reading_of}
use Rattle.rtk_rinex.specs.Record.{EpochTableView}
use Rattle.rtk_tracking.specs.Epochs.{capped}
use Rattle.rtk_tracking.specs.Extremes.{lesser, greater}
use Rattle.rtk_tracking.specs.Interval.{missing_in}
use Rattle.rtk_chart.specs.Chart.{slips_at, returns_at, rises_at, svg_at}
use Rattle.rtk_chart.specs.Heading.{seconds_text}
use Rattle.rtk_chart.specs.Scale.{IsScale}
use Rattle.rtk_chart.specs.Grid.{bin_in, bins_of, outages_of, gaps_of, has_missing, tracking_in, trackings_in}
use Rattle.rtk_chart.specs.Means.{bands_of, columns_of, bins_per_column, mean_of, mean_at, of_band, least_mean, greatest_mean}
use Rattle.rtk_chart.specs.Signs.{is_tracked, is_never}
use Rattle.rtk_chart.specs.Ticks.{tick_at, tick_label}
use Rattle.rtk_chart.specs.TextPicture.{gps_names, satellite_label, satellites_in}
use Rattle.rtk_chart.specs.SvgPath.{edge_of, tracked_in, tracked_counts, most_tracked, step_part, steps_from, steps_text}
use Rattle.rtk_chart.specs.SvgStrip.{reach_of, depth_of, depth_at, depths_of, depth_part, depths_from, depths_text, lane_start, strip_number, lane_text, lane_height, lane_if_measured, strip_height, strip_text}
use Rattle.rtk_chart.specs.SvgPicture.{xml_character, xml_text, number_between, runs_layer, lines_before, lacked_before, is_lacked, never_name, never_text, never_if_lacked, never_texts, bands_text, bands_end, never_end, spacing_of, gaps_band, satellites_band, svg_tick_step, label_start, tick_text, ticks_text, interval_text, svg_span, svg_numbers, svg_start, svg_legend, svg_body, svg_picture}
use Rattle.rtk_chart.specs.Size.{forms_in_bands}
use Rattle.rtk_chart.specs.SizeLaws.{PicturesAreSmall, DaysAreSmall}
use Rattle.rtk_chart.specs.declared.scale.Scale.{Scale}
use Rattle.rtk_chart.specs.declared.time_bin.TimeBin.{TimeBin}
use Rattle.rtk_chart.specs.declared.strengths.BandStrengths.{BandStrengths}
use Rattle.rtk_chart.specs.declared.strengths.Strengths.{Strengths}
use Rattle.rtk_chart.specs.declared.svg_strip.Reach.{Reach}
use Rattle.rtk_chart.specs.declared.spacing.Spacing.{Spacing}
use Rattle.rtk_chart.specs.declared.svg_picture.TheConstants.{STYLE, SYSTEM, LEGEND}
use Rattle.rtk_chart.proofs.SizeLemmas.{height-is, satellites-few, nevers-few, none-is-higher}
use Rattle.rtk_chart.proofs.BytesLemmas.{three-long, four-long, six-long, edge-few, over-within, two-characters, runs-layer-few}
use Rattle.rtk_chart.proofs.BandsLemmas.{place-few, top-few, seven-long, bands-small}

-- ---- pieces

wide-few : (before after : List ℕ) (n : ℕ) → n < 2 ^ 64 → length (number_between before n after) ≤ length before + length after + 20
wide-few before after n few =
    let digits = length-decimal-le 20 n (omega arith) (omega arith) few in
    omega (arith, digits, three-long before (decimal n) after)

capped-few : (n : ℕ) → capped n < 2 ^ 64
capped-few n = omega arith

if-few : (any : Bool) (text : List ℕ) (most : ℕ) → length text ≤ most → length (cond any text []) ≤ most
if-few false text most few = omega arith
if-few true text most few = few

-- a number of texts of which each has at most so many bytes
texts-few : (most : ℕ) (f : ℕ → List ℕ) (from n : ℕ) → ((x : ℕ) → x < from + n → length (f x) ≤ most)
    → sum_by (λ x. length (f x)) (range_with_len from n) ≤ n * most
texts-few most f from zero each = omega arith
texts-few most f from (suc n) each =
    let rest = texts-few most f (from + 1) n (λ x within. each x (omega (arith, within))) in
    let here = each from (omega arith) in
    rw (sum_by-cons (λ (x : ℕ). length (f x)) from (range_with_len (from + 1) n)) (omega (arith, rest, here))

-- ---- the beginning

pick-few : (a b c : Bool) (x : ℕ) → length (cond a (codes "&amp;") (cond b (codes "&lt;") (cond c (codes "&gt;") (x ∷ [])))) ≤ 5
pick-few true b c x = omega arith
pick-few false true c x = omega arith
pick-few false false true x = omega arith
pick-few false false false x = omega arith

characters-few : (text : List ℕ) → sum_by (λ x. length (xml_character x)) text ≤ 5 * length text
characters-few [] = omega arith
characters-few (x ∷ xs) =
    let rest = characters-few xs in
    let here = pick-few (x == 38) (x == 60) (x == 62) x in
    rw (sum_by-cons (λ (y : ℕ). length (xml_character y)) x xs) (omega (arith, rest, here))

xml-few : (text : List ℕ) → length (xml_text text) ≤ 5 * length text
unfolding xml_text
xml-few text = omega (arith, characters-few text, length-flat_map xml_character text)

style-few : length STYLE.now ≤ 4000
style-few = omega arith

legend-long : length LEGEND.now ≤ 3000
legend-long = omega arith

system-few : length SYSTEM.now ≤ 100
system-few = omega arith

start-few : (marker : List ℕ) (height : ℕ) → length marker ≤ 60 → height ≤ 6140 → length (svg_start marker height) ≤ 4900
unfolding svg_start
start-few marker height few low =
    let first = place-few (codes "<svg xmlns='http://www.w3.org/2000/svg' viewBox='0 0 1620 ") (codes "'>\n<title>") height (omega (arith, low)) in
    let second = place-few (codes "<rect class='page' width='1620' height='") (codes "'/>\n<text class='marker' x='110' y='42'>") height (omega (arith, low)) in
    let text = xml-few marker in
    let style = style-few in
    omega (
      arith,
      first,
      second,
      text,
      style,
      few,
      seven-long
          (number_between (codes "<svg xmlns='http://www.w3.org/2000/svg' viewBox='0 0 1620 ") height (codes "'>\n<title>"))
          (xml_text marker) (codes "</title>\n") STYLE.now
          (number_between (codes "<rect class='page' width='1620' height='") height (codes "'/>\n<text class='marker' x='110' y='42'>"))
          (xml_text marker) (codes "</text>\n"),
    )

civil-long : (c : Civil) → length (civil_text c) ≡ 23
unfolding civil_text date_text clock_text
civil-long c = refl

seconds-few : (ms : ℕ) → ms < 2 ^ 64 → length (seconds_text ms) ≤ 24
unfolding seconds_text
seconds-few ms few =
    let digits = length-decimal-le 20 (ms / 1000) (omega arith) (omega (arith, few)) (omega (arith, few)) in
    omega (arith, digits, length-append (decimal (ms / 1000)) (46 ∷ last_digits 3 ms))

five-long : (a b c d e : List ℕ) → length (a ++ b ++ c ++ d ++ e) ≡ length a + length b + length c + length d + length e
five-long a b c d e = omega (arith, length-append (a ++ b ++ c ++ d) e, four-long a b c d)

interval-few : (interval : Option ℕ) (bin_ms : ℕ) → ForSome interval (λ ms. ms < 2 ^ 64) → bin_ms < 2 ^ 64 → length (interval_text interval bin_ms) ≤ 90
interval-few None bin_ms some few = omega arith
interval-few (Some ms) bin_ms some few =
    let first = seconds-few ms (some ms refl) in
    let second = seconds-few bin_ms few in
    omega (arith, first, second, five-long (codes ", interval ") (seconds_text ms) (codes " s, column ") (seconds_text bin_ms) (codes " s"))

span-few : (s : Scale) → IsScale s → ForSome s.interval (λ ms. ms < 2 ^ 64) → length (svg_span s) ≤ 200
unfolding svg_span
span-few s is some =
    let bound = is.bin_bound in
    let interval = interval-few s.interval s.bin_ms some (omega (arith, bound)) in
    let first = civil-long (reading_of s.first) in
    let last = civil-long (reading_of s.last) in
    omega (
      arith,
      interval,
      first,
      last,
      six-long (codes "<text x='110' y='72'>") (civil_text (reading_of s.first)) (codes " to ")
          (civil_text (reading_of s.last)) (interval_text s.interval s.bin_ms) (codes "</text>\n"),
    )

numbers-few : (records satellites slips returns rises missing : ℕ) → records < 2 ^ 64 → satellites < 2 ^ 64 → slips < 2 ^ 64 → returns < 2 ^ 64 → rises < 2 ^ 64 → missing < 2 ^ 64
    → length (svg_numbers records satellites slips returns rises missing) ≤ 300
unfolding svg_numbers
numbers-few records satellites slips returns rises missing few-1 few-2 few-3 few-4 few-5 few-6 =
    let a = wide-few (codes "<text x='110' y='98'>records ") (codes ", satellites ") records few-1 in
    let b = wide-few [] (codes ", slips ") satellites few-2 in
    let c = wide-few [] (codes ", returns ") slips few-3 in
    let d = wide-few [] (codes ", rises ") returns few-4 in
    let e = wide-few [] (codes ", missing epochs ") rises few-5 in
    let f = wide-few [] (codes "</text>\n") missing few-6 in
    omega (
      arith,
      a,
      b,
      c,
      d,
      e,
      f,
      six-long
          (number_between (codes "<text x='110' y='98'>records ") records (codes ", satellites "))
          (number_between [] satellites (codes ", slips "))
          (number_between [] slips (codes ", returns "))
          (number_between [] returns (codes ", rises "))
          (number_between [] rises (codes ", missing epochs "))
          (number_between [] missing (codes "</text>\n")),
    )

-- ---- the lines `never`

never-name-few : (bins : List TimeBin) (at place : ℕ) → length (never_name gps_names bins at place) ≤ 4
never-name-few bins at place = if-few (is_never bins at place) (32 ∷ satellite_label 71 (0 + place + 1)) 4 (omega arith)

never-names-few : (bins : List TimeBin) (at : ℕ) → length (flat_map (never_name gps_names bins at) (range_with_len 0 32)) ≤ 128
never-names-few bins at =
    let sums = texts-few 4 (never_name gps_names bins at) 0 32 (λ place within. never-name-few bins at place) in
    omega (arith, sums, length-flat_map (never_name gps_names bins at) (range_with_len 0 32))

never-text-few : (bins : List TimeBin) (top at : ℕ) (name : List ℕ) → length name ≤ 2 → top ≤ 20_000 → at ≤ 16 → length (never_text gps_names bins top at name) ≤ 200
unfolding never_text
never-text-few bins top at name two low few =
    let lacked = nevers-few bins at in
    let first = place-few (codes "<text class='never' x='110' y='") (codes "'>never ") (top + 24 * lacked_before bins at) (omega (arith, low, few, lacked)) in
    let names = never-names-few bins at in
    omega (
      arith,
      first,
      two,
      names,
      five-long
          (number_between (codes "<text class='never' x='110' y='") (top + 24 * lacked_before bins at) (codes "'>never "))
          name (codes ":") (flat_map (never_name gps_names bins at) (range_with_len 0 32)) (codes "</text>\n"),
    )

never-texts-few : (bins : List TimeBin) (top at : ℕ) (cs : List (List ℕ)) → All (λ (name : List ℕ). length name ≤ 2) cs → top ≤ 20_000 → at + length cs ≤ 16 → length (never_texts gps_names bins top at cs) ≤ 200 * length cs
never-texts-few bins top at [] short low few = omega arith
never-texts-few bins top at (c ∷ cs) short low few =
    let rest = never-texts-few bins top (at + 1) cs (All-tail (λ (name : List ℕ). length name ≤ 2) c cs short) low (omega (arith, few)) in
    let here = if-few (is_lacked bins at) (never_text gps_names bins top at c) 200 (never-text-few bins top at c (All-head (λ (name : List ℕ). length name ≤ 2) c cs short) low (omega (arith, few))) in
    omega (arith, rest, here, length-append (never_if_lacked gps_names bins top at c) (never_texts gps_names bins top (at + 1) cs))

-- ---- missing epochs, and numbers of satellites

gaps-few : (top : ℕ) (gaps : List Bool) → top ≤ 20_000 → length gaps ≤ 1440 → length (gaps_band top gaps) ≤ 19_000
unfolding gaps_band
gaps-few top gaps low few =
    let first = place-few (codes "<g transform='translate(110 ") (codes ")'>\n<title>missing epochs</title>\n<text class='code' x='-6' y='18'>missing</text>\n") top (omega (arith, low)) in
    let runs = runs-layer-few 13 (codes "g") (codes " 12") [] gaps (omega arith) (omega arith) in
    let over = over-within gaps in
    let many = count_by-le-length (λ b. b) gaps in
    omega (
      arith,
      first,
      runs,
      over,
      many,
      few,
      three-long
          (number_between (codes "<g transform='translate(110 ") top (codes ")'>\n<title>missing epochs</title>\n<text class='code' x='-6' y='18'>missing</text>\n"))
          (runs_layer (codes "g") (codes " 12") [] gaps) (codes "</g>\n"),
    )

step-if : (same : Bool) (x y : ℕ) → x ≤ 1440 → y ≤ 40 → length (cond same [] (codes "H" ++ decimal x ++ codes "V" ++ decimal y)) ≤ 8
step-if true x y few low = omega arith
step-if false x y few low =
    let long = length-decimal-le 4 x (omega arith) (omega arith) (omega arith) in
    let short = length-decimal-le 2 y (omega arith) (omega arith) (omega arith) in
    omega (arith, long, short, four-long (codes "H") (decimal x) (codes "V") (decimal y))

steps-few : (most n c was : ℕ) (counts : List ℕ) → 0 < n → c + length counts ≤ n → length (steps_from most n c was counts) ≤ 8 * length counts
steps-few most n c was [] some within = omega arith
steps-few most n c was (k ∷ ks) some within =
    let rest = steps-few most n (c + 1) k ks some (omega (arith, within)) in
    let here = step-if (k == was) (edge_of n c) (40 - k * 40 / max most 1) (edge-few n c some (omega (arith, within))) (omega arith) in
    omega (arith, rest, here, length-append (step_part most (edge_of n c) was k) (steps_from most n (c + 1) k ks))

all-steps-few : (counts : List ℕ) → length (steps_text counts) ≤ 8 * length counts
unfolding steps_text
all-steps-few [] = omega arith
all-steps-few (k ∷ ks) = steps-few (most_tracked (k ∷ ks)) (length (k ∷ ks)) 0 0 (k ∷ ks) (omega arith) (omega arith)

tracked-few : (s : Scale) (es : List EpochTableView) (c : ℕ) → tracked_in (bin_in s es c) ≤ 32
unfolding trackings_in
tracked-few s es c =
    omega (arith, count_by-le-length is_tracked (trackings_in s es c), length-map-range_with_len (λ place. tracking_in s (place + 1) es c) 0 32)

most-few : (s : Scale) (es : List EpochTableView) (most : ℕ) (xs : List ℕ) → most ≤ 32 → fold (λ m n. max m n) most (tracked_counts (map (bin_in s es) xs)) ≤ 32
most-few s es most [] few = few
most-few s es most (x ∷ xs) few =
    let here = tracked-few s es x in
    most-few s es (max most (tracked_in (bin_in s es x))) xs (omega (arith, few, here))

satellites-band-few : (top : ℕ) (counts : List ℕ) → top ≤ 20_000 → most_tracked counts ≤ 32 → length counts ≤ 1440 → length (satellites_band top counts) ≤ 12_000
unfolding satellites_band
satellites-band-few top counts low most few =
    let first = place-few (codes "<g transform='translate(110 ") (codes ")'>\n<title>satellites with a phase</title>\n<text class='code' x='-6' y='18'>satellites</text>\n") top (omega (arith, low)) in
    let second = place-few (codes "<text class='code' x='-6' y='38'>at most ") (codes "</text>\n<path class='n' d='M0 40") (most_tracked counts) (omega (arith, most)) in
    let steps = all-steps-few counts in
    omega (
      arith,
      first,
      second,
      steps,
      few,
      four-long
          (number_between (codes "<g transform='translate(110 ") top (codes ")'>\n<title>satellites with a phase</title>\n<text class='code' x='-6' y='18'>satellites</text>\n"))
          (number_between (codes "<text class='code' x='-6' y='38'>at most ") (most_tracked counts) (codes "</text>\n<path class='n' d='M0 40"))
          (steps_text counts) (codes "H1440V40z'/>\n</g>\n"),
    )

-- ---- the strip

abbrev few_or_none : Option ℕ → Type 0
few_or_none o = unwrap_or o 0 ≤ 63_750

either-few : (first : Bool) (a b : ℕ) → a ≤ 63_750 → b ≤ 63_750 → cond first a b ≤ 63_750
either-few true a b x y = x
either-few false a b x y = y

lesser-few : (a b : Option ℕ) → few_or_none a → few_or_none b → few_or_none (lesser a b)
lesser-few None b x y = y
lesser-few (Some a) None x y = x
lesser-few (Some a) (Some b) x y = either-few (is_lt (nat_cmp b a)) b a y x

greater-few : (a b : Option ℕ) → few_or_none a → few_or_none b → few_or_none (greater a b)
greater-few None b x y = y
greater-few (Some a) None x y = x
greater-few (Some a) (Some b) x y = either-few (is_lt (nat_cmp b a)) a b x y

mean-if : (none : Bool) (x : ℕ) → unwrap_or (cond none None (Some (min x 63_750))) 0 ≤ 63_750
mean-if true x = omega arith
mean-if false x = omega arith

mean-few : (b : BandStrengths) → few_or_none (mean_of b)
mean-few b = mean-if (b.count == 0) (b.sum / b.count)

least-few : (band : Band) (least : Option ℕ) (columns : List Strengths) → few_or_none least → few_or_none (fold (λ l column. lesser l (mean_at band column)) least columns)
least-few band least [] few = few
least-few band least (column ∷ columns) few =
    least-few band (lesser least (mean_at band column)) columns (lesser-few least (mean_at band column) few (mean-few (of_band band column)))

greatest-few : (band : Band) (greatest : Option ℕ) (columns : List Strengths) → few_or_none greatest → few_or_none (fold (λ g column. greater g (mean_at band column)) greatest columns)
greatest-few band greatest [] few = few
greatest-few band greatest (column ∷ columns) few =
    greatest-few band (greater greatest (mean_at band column)) columns (greater-few greatest (mean_at band column) few (mean-few (of_band band column)))

depth-few : (reach : Reach) (mean : Option ℕ) → unwrap_or (depth_of reach mean) 0 ≤ 40
depth-few reach None = omega arith
depth-few reach (Some mean) = omega arith

two-digits : (n : ℕ) → n ≤ 40 → length (decimal n) ≤ 2
two-digits n few = length-decimal-le 2 n (omega arith) (omega arith) (omega arith)

four-digits : (n : ℕ) → n ≤ 1440 → length (decimal n) ≤ 4
four-digits n few = length-decimal-le 4 n (omega arith) (omega arith) (omega arith)

depth-if : (same : Bool) (x now : ℕ) → x ≤ 1440 → now ≤ 40 → length (cond same [] (codes "H" ++ decimal x ++ codes "V" ++ decimal now)) ≤ 11
depth-if same x now few low = let short = step-if same x now few low in omega (arith, short)

depth-part-few : (x : ℕ) (was now : Option ℕ) → x ≤ 1440 → unwrap_or now 0 ≤ 40 → length (depth_part x was now) ≤ 11
depth-part-few x None None few low = omega arith
depth-part-few x None (Some now) few low =
    omega (arith, four-digits x few, two-digits now low, four-long (codes "M") (decimal x) (codes " 44V") (decimal now))
depth-part-few x (Some was) None few low = omega (arith, four-digits x few, three-long (codes "H") (decimal x) (codes "V44z"))
depth-part-few x (Some was) (Some now) few low = depth-if (now == was) x now few low

depths-few : (f : ℕ → Option ℕ) → ((x : ℕ) → unwrap_or (f x) 0 ≤ 40) → (n c : ℕ) (was : Option ℕ) (xs : List ℕ) → c + length xs ≤ n
    → length (depths_from n c was (map f xs)) ≤ 11 * length xs + 11
depths-few f each n c was [] within = let last = depth-part-few 1440 was None (omega arith) (omega arith) in omega (arith, last)
depths-few f each n c was (x ∷ xs) within =
    let rest = depths-few f each n (c + 1) (f x) xs (omega (arith, within)) in
    let here = depth-part-few (edge_of n c) was (f x) (edge-few n c (omega (arith, within)) (omega (arith, within))) (each x) in
    omega (arith, rest, here, length-append (depth_part (edge_of n c) was (f x)) (depths_from n (c + 1) (f x) (map f xs)))

depths-text-few : (band : Band) (columns : List Strengths) (reach : Reach) (each n : ℕ) → n ≤ 1440 → length (depths_text (depths_of band columns reach each n)) ≤ 15_851
unfolding depths_text
depths-text-few band columns reach each n few =
    let long = length-map-range_with_len (depth_at band columns reach each) 0 n in
    let size = length-range_with_len 0 n in
    let forms = depths-few (depth_at band columns reach each) (λ bin. depth-few reach _) (length (depths_of band columns reach each n)) 0 None (range_with_len 0 n)
    (omega (arith, long, size)) in
    omega (arith, forms, size, few)

five-digits : (n : ℕ) → n < 100_000 → length (decimal n) ≤ 5
five-digits n few = length-decimal-le 5 n (omega arith) (omega arith) (omega arith)

lane-start-few : (top number : ℕ) (reach : Reach) → top ≤ 20_000 → number ≤ 9 → reach.until < 100_000 → reach.from < 100_000 → length (lane_start top number reach) ≤ 400
unfolding lane_start
lane-start-few top number reach low few until from =
    let a = five-digits top (omega (arith, low)) in
    let b = five-digits number (omega (arith, few)) in
    let c = five-digits reach.until until in
    let d = five-digits reach.from from in
    let first : List ℕ = codes "<g transform='translate(110 " ++ decimal top ++ codes ")'>\n<title>mean strength of band " in
    let second : List ℕ = decimal number ++ codes " in dB-Hz</title>\n<text class='code' x='-6' y='18'>strength</text>\n<text class='code' x='-6' y='38'>of band " in
    let third : List ℕ = decimal number ++ codes "</text>\n<text class='side' x='1446' y='16'>" in
    let fourth : List ℕ = decimal reach.until ++ codes "</text>\n<text class='side' x='1446' y='40'>" in
    let fifth : List ℕ = decimal reach.from ++ codes "</text>\n<path class='k' d='" in
    omega (
      arith,
      a,
      b,
      c,
      d,
      five-long first second third fourth fifth,
      three-long (codes "<g transform='translate(110 ") (decimal top) (codes ")'>\n<title>mean strength of band "),
      length-append (decimal number) (codes " in dB-Hz</title>\n<text class='code' x='-6' y='18'>strength</text>\n<text class='code' x='-6' y='38'>of band "),
      length-append (decimal number) (codes "</text>\n<text class='side' x='1446' y='16'>"),
      length-append (decimal reach.until) (codes "</text>\n<text class='side' x='1446' y='40'>"),
      length-append (decimal reach.from) (codes "</text>\n<path class='k' d='"),
    )

strip-number-few : (upper : Bool) (band : Band) → strip_number upper band ≤ 8
strip-number-few true L1 = omega arith
strip-number-few true L2 = omega arith
strip-number-few true L5 = omega arith
strip-number-few false L1 = omega arith
strip-number-few false L2 = omega arith
strip-number-few false L5 = omega arith

lane-few : (upper : Bool) (top : ℕ) (band : Band) (columns : List Strengths) (each n : ℕ) → top ≤ 20_000 → n ≤ 1440 → length (lane_text upper top band columns each n) ≤ 16_300
unfolding lane_text
lane-few upper top band columns each n low few =
    let least : unwrap_or (least_mean band columns) 0 ≤ 63_750 = least-few band None columns (omega arith) in
    let greatest : unwrap_or (greatest_mean band columns) 0 ≤ 63_750 = greatest-few band None columns (omega arith) in
    let start = lane-start-few top (strip_number upper band) (reach_of band columns) low (omega (arith, strip-number-few upper band)) (omega (arith, least, greatest)) (omega (arith, least)) in
    let depths = depths-text-few band columns (reach_of band columns) each n few in
    omega (
      arith,
      start,
      depths,
      three-long (lane_start top (strip_number upper band) (reach_of band columns))
          (depths_text (depths_of band columns (reach_of band columns) each n)) (codes "'/>\n</g>\n"),
    )

lane-if-few : (upper : Bool) (top : ℕ) (band : Band) (columns : List Strengths) (each n : ℕ) → top ≤ 20_000 → n ≤ 1440 → length (lane_if_measured upper top band columns each n) ≤ 16_300
lane-if-few upper top band columns each n low few =
    if-few (is_some (least_mean band columns)) (lane_text upper top band columns each n) 16_300 (lane-few upper top band columns each n low few)

high-if : (measured : Bool) → cond measured 46 0 ≤ 46
high-if true = omega arith
high-if false = omega arith

strip-few : (upper : Bool) (top : ℕ) (columns : List Strengths) (each n : ℕ) → top ≤ 19_000 → n ≤ 1440 → length (strip_text upper top columns each n) ≤ 48_900
unfolding strip_text
strip-few upper top columns each n low few =
    let one = high-if (is_some (least_mean L1 columns)) in
    let two = high-if (is_some (least_mean L2 columns)) in
    let first = lane-if-few upper top L1 columns each n (omega (arith, low)) few in
    let second = lane-if-few upper (top + lane_height L1 columns) L2 columns each n (omega (arith, low, one)) few in
    let third = lane-if-few upper (top + lane_height L1 columns + lane_height L2 columns) L5 columns each n (omega (arith, low, one, two)) few in
    omega (
      arith,
      first,
      second,
      third,
      three-long (lane_if_measured upper top L1 columns each n) (lane_if_measured upper (top + lane_height L1 columns) L2 columns each n)
          (lane_if_measured upper (top + lane_height L1 columns + lane_height L2 columns) L5 columns each n),
    )

strip-low : (columns : List Strengths) → strip_height columns ≤ 138
unfolding strip_height
strip-low columns =
    omega (arith, high-if (is_some (least_mean L1 columns)), high-if (is_some (least_mean L2 columns)), high-if (is_some (least_mean L5 columns)))

-- ---- ticks, and the legend

label-if : (short : Bool) (c : Civil) → length (cond short (clock_text c) (date_text c)) ≤ 10
unfolding clock_text date_text
label-if true c = omega arith
label-if false c = omega arith

label-few : (step t : ℕ) → length (tick_label step t) ≤ 10
unfolding tick_label
label-few step t = label-if _ (reading_of t)

start-if : (even : Bool) → length (cond even (codes "<text class='tick' x='") (codes "<text class='tick odd' x='")) ≤ 26
start-if true = omega arith
start-if false = omega arith

tick-few : (top step x : ℕ) (tick : Option ℕ) → top ≤ 20_000 → x ≤ 9999 → length (tick_text top step x tick) ≤ 110
tick-few top step x None low few = omega arith
tick-few top step x (Some t) low few =
    let first = place-few (codes "<path class='t' d='M") (codes " 106V") x (omega (arith, few)) in
    let second = place-few [] (codes "'/>\n") top (omega (arith, low)) in
    let start = start-if (t / step % 2 == 0) in
    let third = place-few (label_start step t) (codes "' y='") x (omega (arith, few)) in
    let fourth = place-few [] (codes "'>") (top + 22) (omega (arith, low)) in
    let label = label-few step t in
    omega (
      arith,
      first,
      second,
      third,
      fourth,
      start,
      label,
      six-long
          (number_between (codes "<path class='t' d='M") x (codes " 106V")) (number_between [] top (codes "'/>\n"))
          (number_between (label_start step t) x (codes "' y='")) (number_between [] (top + 22) (codes "'>")) (tick_label step t) (codes "</text>\n"),
    )

ticks-few : (s : Scale) (step top : ℕ) → top ≤ 20_000 → s.bins ≤ 1440 → length (ticks_text s step top) ≤ 158_400
unfolding ticks_text
ticks-few s step top low few =
    let sums = texts-few 110 (λ c. tick_text top step (110 + edge_of s.bins c) (tick_at s step c)) 0 s.bins
    (λ c within. tick-few top step (110 + edge_of s.bins c) (tick_at s step c) low
    (let edge = edge-few s.bins c (omega (arith, within)) (omega (arith, within)) in omega (arith, edge))) in
    omega (arith, sums, few, length-flat_map (λ c. tick_text top step (110 + edge_of s.bins c) (tick_at s step c)) (range_with_len 0 s.bins))

legend-few : (top : ℕ) → top ≤ 20_000 → length (svg_legend top) ≤ 3100
unfolding svg_legend
legend-few top low =
    let first = place-few (codes "<g transform='translate(110 ") (codes ")'>\n") top (omega (arith, low)) in
    let legend = legend-long in
    omega (arith, first, legend, three-long (number_between (codes "<g transform='translate(110 ") top (codes ")'>\n")) LEGEND.now (codes "</g>\n"))

-- ---- the picture

end-low : (spacing : Spacing) (bins : List TimeBin) (listed : ℕ) → listed ≤ 16 → never_end spacing bins listed ≤ 13_000
end-low spacing bins listed few =
    let top = top-few spacing bins listed 32 few (omega arith) in
    let lacked = nevers-few bins listed in
    omega (arith, top, lacked, few)

nine-long : (a b c d e f g h i : List ℕ)
    → length (a ++ b ++ c ++ d ++ e ++ f ++ g ++ h ++ i) ≡ length a + length b + length c + length d + length e + length f + length g + length h + length i
nine-long a b c d e f g h i = omega (arith, length-append (a ++ b ++ c ++ d ++ e ++ f ++ g ++ h) i, length-append (a ++ b ++ c ++ d ++ e ++ f ++ g) h, seven-long a b c d e f g)

bins-many : (s : Scale) (es : List EpochTableView) → length (bins_of s es) ≡ s.bins
unfolding bins_of
bins-many s es = length-map-range_with_len (bin_in s es) 0 s.bins

gaps-many : (s : Scale) (es : List EpochTableView) → length (gaps_of s es) ≡ s.bins
unfolding gaps_of
gaps-many s es = length-map-range_with_len (has_missing s es) 0 s.bins

most-tracked-few : (s : Scale) (es : List EpochTableView) → most_tracked (tracked_counts (bins_of s es)) ≤ 32
unfolding bins_of
most-tracked-few s es = most-few s es 0 (range_with_len 0 s.bins) (omega arith)

body-few : (spacing : Spacing) (listed : List (List ℕ)) (s : Scale) (es : List EpochTableView) (columns : List Strengths) → All (λ (name : List ℕ). length name ≤ 2) listed → length listed ≤ 16 → IsScale s
    → length (svg_body spacing listed s (bins_of s es) (outages_of s es) (gaps_of s es) columns (never_end spacing (bins_of s es) (length listed)))
    ≤ 245_000 + 260 * satellites_in (bins_of s es) + 620 * lines_before (bins_of s es) (length listed) 32
    + 22 * forms_in_bands (bins_of s es) (outages_of s es) (length listed)
unfolding svg_body
body-few spacing listed s es columns short few is =
    let bins : List TimeBin = bins_of s es in
    let many = bins-many s es in
    let bound = is.few in
    let size : length (bins_of s es) ≤ 1440 = omega (arith, many, bound) in
    let end : ℕ = never_end spacing bins (length listed) in
    let low = end-low spacing (bins_of s es) (length listed) few in
    let top = top-few spacing (bins_of s es) (length listed) 32 few (omega arith) in
    let strip = strip-low columns in
    let a = system-few in
    let b = bands-small gps_names spacing listed (bins_of s es) (outages_of s es) short few size in
    let c = never-texts-few (bins_of s es) (bands_end spacing (bins_of s es) (length listed) + 18) 0 listed short (omega (arith, top)) (omega (arith, few)) in
    let d = gaps-few end (gaps_of s es) (omega (arith, low)) (omega (arith, gaps-many s es, bound)) in
    let counted : length (tracked_counts (bins_of s es)) ≡ length (bins_of s es) = length-map (bins_of s es) tracked_in in
    let e = satellites-band-few (end + 26) (tracked_counts (bins_of s es)) (omega (arith, low)) (most-tracked-few s es) (omega (arith, counted, size)) in
    let f = strip-few false (end + 72) columns (bins_per_column s) (length (bins_of s es)) (omega (arith, low)) size in
    let g = ticks-few s (svg_tick_step s) (end + strip_height columns + 72) (omega (arith, low, strip)) bound in
    let h = legend-few (end + strip_height columns + 104) (omega (arith, low, strip)) in
    omega (
      arith,
      a,
      b,
      c,
      d,
      e,
      f,
      g,
      h,
      few,
      nine-long
          SYSTEM.now (bands_text gps_names spacing listed (bins_of s es) (outages_of s es)) (never_texts gps_names (bins_of s es) (bands_end spacing (bins_of s es) (length listed) + 18) 0 listed)
          (gaps_band end (gaps_of s es)) (satellites_band (end + 26) (tracked_counts (bins_of s es)))
          (strip_text false (end + 72) columns (bins_per_column s) (length (bins_of s es)))
          (ticks_text s (svg_tick_step s) (end + strip_height columns + 72)) (svg_legend (end + strip_height columns + 104)) (codes "</svg>\n"),
    )

-- the names of codes of GPS have two characters
names-short : (listed : List Code) → All (λ (name : List ℕ). length name ≤ 2) (map name_of listed)
names-short listed k d lt =
    let within : k < length listed = omega (arith, length-map listed name_of, lt) in
    let two = two-characters (get_or listed k G1C) in
    let same : length (get_or (map name_of listed) k d) ≡ length (name_of (get_or listed k G1C)) = ap (λ (n : List ℕ). length n) (get_or-map name_of listed k G1C d within) in
    omega (arith, two, same)

-- a picture of codes with these names
picture-few : (marker : List ℕ) (listed : List (List ℕ)) (s : Scale) (es : List EpochTableView) (columns : List Strengths)
    → All (λ (name : List ℕ). length name ≤ 2) listed → length marker ≤ 60 → length listed ≤ 16 → IsScale s → ForSome s.interval (λ ms. ms < 2 ^ 64)
    → length (svg_picture marker listed s (capped (length es)) (slips_at s es) (returns_at s es) (rises_at s es) (capped (missing_in s.unit es)) (bins_of s es) (outages_of s es) (gaps_of s es) columns)
    ≤ 260_000 + 260 * satellites_in (bins_of s es) + 620 * lines_before (bins_of s es) (length listed) 32
    + 22 * forms_in_bands (bins_of s es) (outages_of s es) (length listed)
unfolding svg_picture
picture-few marker listed s es columns names short few is some =
    let bins : List TimeBin = bins_of s es in
    let spacing : Spacing = spacing_of (bins_of s es) (length listed) in
    let height : ℕ = never_end spacing bins (length listed) + strip_height columns + 230 in
    let high = height-is (bins_of s es) (length listed) columns in
    let low = none-is-higher (bins_of s es) (length listed) columns few in
    let a = start-few marker height short (omega (arith, high, low)) in
    let b = span-few s is some in
    let there = satellites-few (bins_of s es) in
    let c = numbers-few (capped (length es)) (satellites_in (bins_of s es)) (slips_at s es) (returns_at s es) (rises_at s es) (capped (missing_in s.unit es))
    (omega arith) (omega (arith, there)) (omega arith) (omega arith) (omega arith) (omega arith) in
    let d = body-few spacing listed s es columns names few is in
    omega (
      arith,
      a,
      b,
      c,
      d,
      four-long (svg_start marker height) (svg_span s)
          (svg_numbers (capped (length es)) (satellites_in (bins_of s es)) (slips_at s es) (returns_at s es) (rises_at s es) (capped (missing_in s.unit es)))
          (svg_body spacing listed s (bins_of s es) (outages_of s es) (gaps_of s es) columns (never_end spacing (bins_of s es) (length listed))),
    )

pub pictures-small : PicturesAreSmall
pictures-small marker listed s es short few is some =
    let many : length (map name_of listed) ≡ length listed = length-map listed name_of in
    subst (λ (n : ℕ). length (svg_at marker listed s es)
    ≤ 260_000 + 260 * satellites_in (bins_of s es) + 620 * lines_before (bins_of s es) n 32 + 22 * forms_in_bands (bins_of s es) (outages_of s es) n) many
    (picture-few marker (map name_of listed) s es (columns_of s (bands_of listed) es) (names-short listed) short (omega (arith, many, few)) is some)

pub days-small : DaysAreSmall
days-small marker listed s es short few is some satellites bars forms =
    let picture = pictures-small marker listed s es short few is some in
    omega (arith, picture, satellites, bars, forms)

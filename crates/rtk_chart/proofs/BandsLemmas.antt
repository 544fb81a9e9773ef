-- How many bytes the bands of a picture in SVG have.
use Rattle.std.proofs.Common.{◌≡◌, ◌≤◌, ◌<◌, ℕ, zero, suc, ◌+◌, ◌*◌, ◌/◌, ◌%◌, ◌-◌, Bool, true, false, cond, List, [], ◌∷◌, ◌++◌, length, codes, arith, length-append}
use Rattle.std.specs.Prelude.{decimal, count_by, All}
use Rattle.std.specs.List.{range_with_len, sum_by}
use Rattle.std.proofs.lemmas.Fmt.{length-decimal-le}
use Rattle.std.proofs.lemmas.List.Elements.{All-head, All-tail}
use Rattle.std.proofs.lemmas.List.Concat.{length-flat_map}
use Rattle.std.proofs.lemmas.List.Sums.{sum_by-cons}
use Rattle.rtk_chart.specs.Signs.{is_drawn, has_code}
use Rattle.rtk_chart.specs.TextPicture.{satellite_label, drawn_before}
use Rattle.rtk_chart.specs.SvgPicture.{number_between, codes_before, lines_before, line_if_had, code_line, code_lines, height_of, height_if_drawn, band_top, name_start, name_drop, band_start, outage_flags, outage_boxes, band_text, band_if_drawn, bands_text}
use Rattle.rtk_chart.specs.Size.{boxes_over, forms_in_bar, forms_if_had, forms_in_band, forms_if_drawn, forms_in_bands}
use Rattle.rtk_chart.specs.SizeLaws.{BandsAreSmall}
use Rattle.rtk_chart.specs.declared.groups.Names.{Names}
use Rattle.rtk_chart.specs.declared.time_bin.TimeBin.{TimeBin}
use Rattle.rtk_chart.specs.declared.spacing.Spacing.{Spacing}
use Rattle.rtk_chart.specs.declared.spacing.Spacing.TheVariants.{Wide, Close}
use Rattle.rtk_chart.proofs.BytesLemmas.{three-long, four-long, six-long, runs-layer-few, lines-few, bars-small}

-- ---- the lines of the codes of a satellite

line-if : (had : Bool) (line : List ℕ) (forms : ℕ) → length line ≤ 620 + 22 * forms → length (cond had line []) ≤ 620 * cond had 1 0 + 22 * cond had forms 0
line-if false line forms few = omega arith
line-if true line forms few = omega (arith, few)

code-lines-few : (names : Names) (spacing : Spacing) (bins : List TimeBin) (place at : ℕ) (cs : List (List ℕ)) → All (λ (name : List ℕ). length name ≤ 2) cs → length bins ≤ 1440 → at + length cs ≤ 16
    → length (code_lines names spacing bins place at cs)
    ≤ 620 * count_by (has_code bins place) (range_with_len at (length cs)) + 22 * sum_by (forms_if_had bins place) (range_with_len at (length cs))
code-lines-few names spacing bins place at [] short few listed = omega arith
code-lines-few names spacing bins place at (c ∷ cs) short few listed =
    let rest = code-lines-few names spacing bins place (at + 1) cs (All-tail (λ (name : List ℕ). length name ≤ 2) c cs short) few (omega (arith, listed)) in
    let line = bars-small names spacing bins place at c (All-head (λ (name : List ℕ). length name ≤ 2) c cs short) few (omega (arith, listed)) in
    let here = line-if (has_code bins place at) (code_line names spacing bins place at c) (forms_in_bar bins place at) line in
    let both = length-append (line_if_had names spacing bins place at c) (code_lines names spacing bins place (at + 1) cs) in
    rw (
      sum_by-cons (λ (code : ℕ). cond (has_code bins place code) 1 0) at (range_with_len (at + 1) (length cs)),
      sum_by-cons (forms_if_had bins place) at (range_with_len (at + 1) (length cs)),
    )
    (omega (arith, rest, here, both))

-- ---- the beginning of a band

height-few : (spacing : Spacing) (bins : List TimeBin) (listed place : ℕ) → listed ≤ 16 → height_of spacing bins listed place ≤ 366
height-few Wide bins listed place few = let lines = lines-few bins place listed in omega (arith, lines, few)
height-few Close bins listed place few = let lines = lines-few bins place listed in omega (arith, lines, few)

if-drawn : (drawn : Bool) (height : ℕ) → height ≤ 366 → cond drawn height 0 ≤ 366
if-drawn false height few = omega arith
if-drawn true height few = few

pub heights-few : (f : ℕ → ℕ) (from n : ℕ) → ((place : ℕ) → f place ≤ 366) → sum_by f (range_with_len from n) ≤ 366 * n
heights-few f from zero each = omega arith
heights-few f from (suc n) each =
    let rest = heights-few f (from + 1) n each in
    let here = each from in
    rw (sum_by-cons f from (range_with_len (from + 1) n)) (omega (arith, rest, here))

pub top-few : (spacing : Spacing) (bins : List TimeBin) (listed place : ℕ) → listed ≤ 16 → place ≤ 32 → band_top spacing bins listed place ≤ 11_852
unfolding band_top
top-few spacing bins listed place few within =
    let sums = heights-few (height_if_drawn spacing bins listed) 0 place
    (λ p. if-drawn (is_drawn bins p) (height_of spacing bins listed p) (height-few spacing bins listed p few)) in
    omega (arith, sums, within)

pub place-few : (before after : List ℕ) (n : ℕ) → n < 100_000 → length (number_between before n after) ≤ length before + length after + 5
place-few before after n few =
    let digits = length-decimal-le 5 n (omega arith) (omega arith) (omega arith) in
    omega (arith, digits, three-long before (decimal n) after)

start-few : (spacing : Spacing) → length (name_start spacing) ≤ 35
start-few Wide = omega arith
start-few Close = omega arith

drop-few : (spacing : Spacing) → name_drop spacing ≤ 9
drop-few Wide = omega arith
drop-few Close = omega arith

pub seven-long : (a b c d e f g : List ℕ)
    → length (a ++ b ++ c ++ d ++ e ++ f ++ g) ≡ length a + length b + length c + length d + length e + length f + length g
seven-long a b c d e f g = omega (arith, length-append (a ++ b ++ c ++ d ++ e ++ f) g, six-long a b c d e f)

band-start-few : (spacing : Spacing) (top letter number stripe height : ℕ) → top ≤ 11_852 → stripe < 2 → height ≤ 366
    → length (band_start spacing top letter number stripe height) ≤ 200
unfolding band_start
band-start-few spacing top letter number stripe height low even high =
    let first = place-few (codes "<g transform='translate(110 ") (codes ")'>\n<title>") top (omega (arith, low)) in
    let second = place-few (codes "</title>\n<rect class='b") (codes "' x='-110' width='1620'") stripe (omega (arith, even)) in
    let third = place-few (codes " height='") (codes "'/>\n") height (omega (arith, high)) in
    let drop = drop-few spacing in
    let name = start-few spacing in
    let fourth = place-few (name_start spacing) (codes "'>") (height / 2 + name_drop spacing) (omega (arith, high, drop)) in
    omega (
      arith,
      first,
      second,
      third,
      fourth,
      name,
      seven-long
          (number_between (codes "<g transform='translate(110 ") top (codes ")'>\n<title>"))
          (satellite_label letter number)
          (number_between (codes "</title>\n<rect class='b") stripe (codes "' x='-110' width='1620'"))
          (number_between (codes " height='") height (codes "'/>\n"))
          (number_between (name_start spacing) (height / 2 + name_drop spacing) (codes "'>"))
          (satellite_label letter number) (codes "</text>\n"),
    )

outages-few : (outages : List Bool) (n place high : ℕ) → high ≤ 366 → length (outage_boxes outages n place high) ≤ 24 + 22 * boxes_over (outage_flags outages n place)
unfolding outage_boxes
outages-few outages n place high few =
    let digits = length-decimal-le 3 high (omega arith) (omega arith) (omega arith) in
    let begin = three-long (codes " 4v") (decimal high) [] in
    let end = three-long (codes "v-") (decimal high) (codes "z") in
    runs-layer-few 22 (codes "o") (number_between (codes " 4v") high []) (number_between (codes "v-") high (codes "z")) (outage_flags outages n place)
    (omega (arith, digits, begin, end)) (omega arith)

-- ---- the bands

band-few : (names : Names) (spacing : Spacing) (listed : List (List ℕ)) (bins : List TimeBin) (outages : List Bool) (place before : ℕ)
    → All (λ (name : List ℕ). length name ≤ 2) listed → length listed ≤ 16 → length bins ≤ 1440 → place < 32
    → length (band_text names spacing listed bins outages place before) ≤ 260 + 620 * codes_before bins place (length listed) + 22 * forms_in_band bins outages (length listed) place
unfolding band_text forms_in_band codes_before
band-few names spacing listed bins outages place before short few many within =
    let high = height-few spacing bins (length listed) place few in
    let start = band-start-few spacing (band_top spacing bins (length listed) place) names.letter (names.before + place + 1) (before % 2) (height_of spacing bins (length listed) place)
    (top-few spacing bins (length listed) place few (omega (arith, within))) (omega arith) high in
    let boxes = outages-few outages (length bins) place (height_of spacing bins (length listed) place - 8) (omega (arith, high)) in
    let lines = code-lines-few names spacing bins place 0 listed short many (omega (arith, few)) in
    omega (
      arith,
      start,
      boxes,
      lines,
      four-long
          (band_start spacing (band_top spacing bins (length listed) place) names.letter (names.before + place + 1) (before % 2) (height_of spacing bins (length listed) place))
          (outage_boxes outages (length bins) place (height_of spacing bins (length listed) place - 8))
          (code_lines names spacing bins place 0 listed) (codes "</g>\n"),
    )

band-if : (drawn : Bool) (text : List ℕ) (bars forms : ℕ) → length text ≤ 260 + 620 * bars + 22 * forms
    → length (cond drawn text []) ≤ 260 * cond drawn 1 0 + 620 * bars + 22 * cond drawn forms 0
band-if false text bars forms few = omega arith
band-if true text bars forms few = omega (arith, few)

sums-of-bands : (f drawn bars forms : ℕ → ℕ) (from n : ℕ) → ((place : ℕ) → place < from + n → f place ≤ 260 * drawn place + 620 * bars place + 22 * forms place)
    → sum_by f (range_with_len from n) ≤ 260 * sum_by drawn (range_with_len from n) + 620 * sum_by bars (range_with_len from n) + 22 * sum_by forms (range_with_len from n)
sums-of-bands f drawn bars forms from zero each = omega arith
sums-of-bands f drawn bars forms from (suc n) each =
    let rest = sums-of-bands f drawn bars forms (from + 1) n (λ place within. each place (omega (arith, within))) in
    let here = each from (omega arith) in
    rw (
      sum_by-cons f from (range_with_len (from + 1) n),
      sum_by-cons drawn from (range_with_len (from + 1) n),
      sum_by-cons bars from (range_with_len (from + 1) n),
      sum_by-cons forms from (range_with_len (from + 1) n),
    )
    (omega (arith, rest, here))

pub bands-small : BandsAreSmall
unfolding bands_text lines_before forms_in_bands drawn_before
bands-small names spacing listed bins outages short few many =
    let sums = sums-of-bands (λ place. length (band_if_drawn names spacing listed bins outages place)) (λ place. cond (is_drawn bins place) 1 0)
    (λ place. codes_before bins place (length listed)) (forms_if_drawn bins outages (length listed)) 0 32
    (λ place within. band-if (is_drawn bins place) (band_text names spacing listed bins outages place (drawn_before bins place))
    (codes_before bins place (length listed)) (forms_in_band bins outages (length listed) place)
    (band-few names spacing listed bins outages place (drawn_before bins place) short few many (omega (arith, within)))) in
    omega (arith, sums, length-flat_map (band_if_drawn names spacing listed bins outages) (range_with_len 0 32))

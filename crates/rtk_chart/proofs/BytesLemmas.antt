-- How many bytes the line of a code has in a picture in SVG.
use Rattle.std.proofs.Common.{◌≡◌, ◌≤◌, ◌<◌, ◌==◌, ℕ, zero, suc, ◌+◌, ◌*◌, ◌&&◌, Bool, true, false, cond, inl, inr, List, [], ◌∷◌, ◌++◌, length, codes, refl, arith, length-append}
use Rattle.std.specs.Prelude.{decimal, count_by, unwrap_or}
use Rattle.std.specs.List.{range_with_len, sum_by, list_any}
use Rattle.std.proofs.Math.Nat.{mul-add, mul-div_cancel_left}
use Rattle.std.proofs.lemmas.Bool.{cases_eq, eq-eqb, ne_eqb}
use Rattle.std.proofs.lemmas.Fmt.{length-decimal-le}
use Rattle.std.proofs.lemmas.List.{length-map}
use Rattle.std.proofs.lemmas.List.Concat.{length-flat_map}
use Rattle.std.proofs.lemmas.List.Sums.{sum_by-cons, sum_by-le-sum_by, count_by-le-length}
use Rattle.std.proofs.lemmas.List.FromFn.{length-range_with_len}
use Rattle.rtk_obs.specs.Code.{name_of}
use Rattle.rtk_obs.specs.declared.code.Code.{Code}
use Rattle.rtk_obs.specs.declared.code.Code.TheVariants.{G1C, G1P, G1W, G1S, G1L, G1X, G2C, G2D, G2P, G2W, G2S, G2L, G2X, G5I, G5Q, G5X}
use Rattle.rtk_chart.specs.Grid.{tracking_at, marks_at}
use Rattle.rtk_chart.specs.Layers.{shows}
use Rattle.rtk_chart.specs.Signs.{has_code}
use Rattle.rtk_chart.specs.TextPicture.{satellite_label}
use Rattle.rtk_chart.specs.SvgPath.{edge_of, middle_of, runs_from, runs_text, marks_from, marks_text}
use Rattle.rtk_chart.specs.SvgPicture.{number_between, layer_flags, columns_of, path_start, runs_path, runs_layer, marks_path, marks_layer, level_path, level_paths, missing_paths, lock_paths, column_numbers, code_numbers, drawn_bar, codes_before, line_top, line_start, code_start, code_line}
use Rattle.rtk_chart.specs.Size.{boxes_from, boxes_over, forms_in_bar}
use Rattle.rtk_chart.specs.SizeLaws.{BarsAreSmall, NoBarIsLarger}
use Rattle.rtk_chart.specs.declared.time_bin.TimeBin.{TimeBin}
use Rattle.rtk_chart.specs.declared.layer.Layer.{Layer}
use Rattle.rtk_chart.specs.declared.layer.Layer.TheVariants.{Phase, Level, Missing, Part, Absent, Slip, Return, Rise, Half}
use Rattle.rtk_chart.specs.declared.spacing.Spacing.{Spacing}
use Rattle.rtk_chart.specs.declared.spacing.Spacing.TheVariants.{Wide, Close}
use Rattle.rtk_chart.proofs.LawLemmas.{div-mono}

pub three-long : (a b c : List ℕ) → length (a ++ b ++ c) ≡ length a + length b + length c
three-long a b c = omega (arith, length-append (a ++ b) c, length-append a b)

-- ---- numbers

pub edge-few : (n c : ℕ) → 0 < n → c ≤ n → edge_of n c ≤ 1440
edge-few n c some within =
    let scaled : c * 1440 ≤ n * 1440 = omega (arith, within) in
    let most = div-mono (c * 1440) (n * 1440) n some scaled in
    let whole = mul-div_cancel_left 1440 some in
    omega (arith, most, whole)

four : (n : ℕ) → n ≤ 1440 → length (decimal n) ≤ 4
four n few = length-decimal-le 4 n (omega arith) (omega arith) (omega arith)

pub between-few : (before after : List ℕ) (n : ℕ) → n ≤ 1440 → length (number_between before n after) ≤ length before + length after + 4
between-few before after n few = let digits = four n few in omega (arith, digits, three-long before (decimal n) after)

-- ---- paths

-- boxes that have at most so many bytes, each with two letters and two numbers
runs-few : (most : ℕ) (begin end : List ℕ) → 10 + length begin + length end ≤ most
    → (n c : ℕ) (was : Bool) (bs : List Bool) → 0 < n → c + length bs ≤ n
    → length (runs_from begin end n c was bs) ≤ most * boxes_from was bs + cond was (5 + length end) 0
runs-few most begin end room n c false [] some within = omega arith
runs-few most begin end room n c true [] some within = let last = between-few (codes "H") end 1440 (omega arith) in omega (arith, last)
runs-few most begin end room n c false (false ∷ bs) some within = runs-few most begin end room n (c + 1) false bs some (omega (arith, within))
runs-few most begin end room n c true (true ∷ bs) some within = runs-few most begin end room n (c + 1) true bs some (omega (arith, within))
runs-few most begin end room n c false (true ∷ bs) some within =
    let rest = runs-few most begin end room n (c + 1) true bs some (omega (arith, within)) in
    let here = between-few (codes "M") begin (edge_of n c) (edge-few n c some (omega (arith, within))) in
    let both = mul-add most 1 (boxes_from true bs) in
    omega (arith, rest, here, both, length-append (codes "M" ++ decimal (edge_of n c) ++ begin) (runs_from begin end n (c + 1) true bs))
runs-few most begin end room n c true (false ∷ bs) some within =
    let rest = runs-few most begin end room n (c + 1) false bs some (omega (arith, within)) in
    let here = between-few (codes "H") end (edge_of n c) (edge-few n c some (omega (arith, within))) in
    omega (arith, rest, here, length-append (codes "H" ++ decimal (edge_of n c) ++ end) (runs_from begin end n (c + 1) false bs))

-- marks that have at most so many bytes, each with a letter and a number
marks-few : (most : ℕ) (form : List ℕ) → 5 + length form ≤ most
    → (n c : ℕ) (bs : List Bool) → 0 < n → c + length bs ≤ n → length (marks_from form n c bs) ≤ most * count_by (λ b. b) bs
marks-few most form room n c [] some within = omega arith
marks-few most form room n c (false ∷ bs) some within =
    let rest = marks-few most form room n (c + 1) bs some (omega (arith, within)) in
    let none = mul-add most 0 (count_by (λ b. b) bs) in
    rw (sum_by-cons (λ (b : Bool). cond b 1 0) false bs) (omega (arith, rest, none))
marks-few most form room n c (true ∷ bs) some within =
    let rest = marks-few most form room n (c + 1) bs some (omega (arith, within)) in
    let begin = edge-few n c some (omega (arith, within)) in
    let end = edge-few n (c + 1) some (omega (arith, within)) in
    let here = between-few (codes "M") form (middle_of n c) (omega (arith, begin, end)) in
    let both = mul-add most 1 (count_by (λ b. b) bs) in
    rw (sum_by-cons (λ (b : Bool). cond b 1 0) true bs)
    (omega (arith, rest, here, both, length-append (codes "M" ++ decimal (middle_of n c) ++ form) (marks_from form n (c + 1) bs)))

-- a path, if there is any
if-any : (any : Bool) (path : List ℕ) (most : ℕ) → length path ≤ most → length (cond any path []) ≤ most
if-any false path most few = omega arith
if-any true path most few = few

path-few : (class form : List ℕ) (most : ℕ) → length class ≤ 2 → length form ≤ most → length (path_start class ++ form ++ codes "'/>\n") ≤ 24 + most
unfolding path_start
path-few class form most short few =
    omega (arith, three-long (path_start class) form (codes "'/>\n"), three-long (codes "<path class='") class (codes "' d='"), short, few)

runs-path-few : (most : ℕ) (class begin end : List ℕ) (bs : List Bool) → 10 + length begin + length end ≤ most → length class ≤ 2 → 0 < length bs
    → length (runs_path class begin end bs) ≤ 24 + most * boxes_over bs
unfolding runs_path runs_text boxes_over
runs-path-few most class begin end bs room short some =
    let runs = runs-few most begin end room (length bs) 0 false bs some (omega arith) in
    path-few class (runs_from begin end (length bs) 0 false bs) (most * boxes_from false bs) short (omega (arith, runs))

pub runs-layer-few : (most : ℕ) (class begin end : List ℕ) (bs : List Bool) → 10 + length begin + length end ≤ most → length class ≤ 2
    → length (runs_layer class begin end bs) ≤ 24 + most * boxes_over bs
runs-layer-few most class begin end [] room short = omega arith
runs-layer-few most class begin end (b ∷ bs) room short =
    if-any (list_any (λ x. x) (b ∷ bs)) (runs_path class begin end (b ∷ bs)) (24 + most * boxes_over (b ∷ bs))
    (runs-path-few most class begin end (b ∷ bs) room short (omega arith))

marks-path-few : (most : ℕ) (class form : List ℕ) (bs : List Bool) → 5 + length form ≤ most → length class ≤ 2 → 0 < length bs
    → length (marks_path class form bs) ≤ 24 + most * count_by (λ b. b) bs
unfolding marks_path marks_text
marks-path-few most class form bs room short some =
    path-few class (marks_from form (length bs) 0 bs) (most * count_by (λ b. b) bs) short (marks-few most form room (length bs) 0 bs some (omega arith))

marks-layer-few : (most : ℕ) (class form : List ℕ) (bs : List Bool) → 5 + length form ≤ most → length class ≤ 2
    → length (marks_layer class form bs) ≤ 24 + most * count_by (λ b. b) bs
marks-layer-few most class form [] room short = omega arith
marks-layer-few most class form (b ∷ bs) room short =
    if-any (list_any (λ x. x) (b ∷ bs)) (marks_path class form (b ∷ bs)) (24 + most * count_by (λ x. x) (b ∷ bs))
    (marks-path-few most class form (b ∷ bs) room short (omega arith))

-- ---- the parts of a bar

sums-few : (f g : ℕ → ℕ) (xs : List ℕ) → ((x : ℕ) → f x ≤ 24 + 13 * g x) → sum_by f xs ≤ 24 * length xs + 13 * sum_by g xs
sums-few f g [] each = omega arith
sums-few f g (x ∷ xs) each =
    let rest = sums-few f g xs each in
    let here = each x in
    rw (sum_by-cons f x xs, sum_by-cons g x xs) (omega (arith, rest, here))

abbrev level_boxes : List TimeBin → ℕ → ℕ → ℕ → ℕ
level_boxes bins place code level = boxes_over (layer_flags bins place code (Level level))

level-few : (bins : List TimeBin) (place code level : ℕ) → length (level_path bins place code level) ≤ 24 + 13 * level_boxes bins place code level
level-few bins place code level =
    runs-layer-few 13 (108 ∷ (48 + level) ∷ []) (codes " 10") [] (layer_flags bins place code (Level level)) (omega arith) (omega arith)

levels-few : (bins : List TimeBin) (place code : ℕ) → length (level_paths bins place code) ≤ 240 + 13 * sum_by (level_boxes bins place code) (range_with_len 0 10)
unfolding level_paths
levels-few bins place code =
    let sums = sums-few (λ level. length (level_path bins place code level)) (level_boxes bins place code) (range_with_len 0 10) (level-few bins place code) in
    omega (arith, sums, length-flat_map (level_path bins place code) (range_with_len 0 10))

missing-few : (bins : List TimeBin) (place code : ℕ)
    → length (missing_paths bins place code) ≤ 48 + 22 * boxes_over (layer_flags bins place code Part) + 22 * boxes_over (layer_flags bins place code Absent)
unfolding missing_paths
missing-few bins place code =
    let part = runs-layer-few 22 (codes "p") (codes " 10v-6") (codes "v6z") (layer_flags bins place code Part) (omega arith) (omega arith) in
    let absent = runs-layer-few 22 (codes "m") (codes " 16v-12") (codes "v12z") (layer_flags bins place code Absent) (omega arith) (omega arith) in
    omega (
      arith,
      part,
      absent,
      length-append (runs_layer (codes "p") (codes " 10v-6") (codes "v6z") (layer_flags bins place code Part))
          (runs_layer (codes "m") (codes " 16v-12") (codes "v12z") (layer_flags bins place code Absent)),
    )

pub four-long : (a b c d : List ℕ) → length (a ++ b ++ c ++ d) ≡ length a + length b + length c + length d
four-long a b c d = omega (arith, length-append (a ++ b ++ c) d, three-long a b c)

locks-few : (bins : List TimeBin) (place code : ℕ)
    → length (lock_paths bins place code)
    ≤ 96 + 22 * columns_of bins place code Slip + 22 * columns_of bins place code Half + 22 * columns_of bins place code Return + 22 * columns_of bins place code Rise
unfolding lock_paths
locks-few bins place code =
    let slips = marks-layer-few 22 (codes "s") (codes " 20l-7-21h14z") (layer_flags bins place code Slip) (omega arith) (omega arith) in
    let halves = marks-layer-few 22 (codes "h") (codes " 8l6 6l-6 6l-6-6z") (layer_flags bins place code Half) (omega arith) (omega arith) in
    let returns = marks-layer-few 22 (codes "a") (codes " 10l-9-5v10z") (layer_flags bins place code Return) (omega arith) (omega arith) in
    let rises = marks-layer-few 22 (codes "r") (codes " 5l9 5l-9 5z") (layer_flags bins place code Rise) (omega arith) (omega arith) in
    omega (
      arith,
      slips,
      halves,
      returns,
      rises,
      four-long
          (marks_layer (codes "s") (codes " 20l-7-21h14z") (layer_flags bins place code Slip))
          (marks_layer (codes "h") (codes " 8l6 6l-6 6l-6-6z") (layer_flags bins place code Half))
          (marks_layer (codes "a") (codes " 10l-9-5v10z") (layer_flags bins place code Return))
          (marks_layer (codes "r") (codes " 5l9 5l-9 5z") (layer_flags bins place code Rise)),
    )

columns-few : (bins : List TimeBin) (place code : ℕ) (layer : Layer) → columns_of bins place code layer ≤ length bins
columns-few bins place code layer =
    omega (arith, count_by-le-length (λ b. b) (layer_flags bins place code layer), length-map bins (λ bin. shows layer (marks_at code (tracking_at place bin))))

pub six-long : (a b c d e f : List ℕ) → length (a ++ b ++ c ++ d ++ e ++ f) ≡ length a + length b + length c + length d + length e + length f
six-long a b c d e f = omega (arith, length-append (a ++ b ++ c ++ d ++ e) f, length-append (a ++ b ++ c ++ d) e, four-long a b c d)

column-numbers-few : (phases missing slips returns rises halves : ℕ) → phases ≤ 1440 → missing ≤ 1440 → slips ≤ 1440 → returns ≤ 1440 → rises ≤ 1440 → halves ≤ 1440
    → length (column_numbers phases missing slips returns rises halves) ≤ 104
unfolding column_numbers
column-numbers-few phases missing slips returns rises halves few-1 few-2 few-3 few-4 few-5 few-6 =
    let a = between-few (codes ": columns with phase ") (codes ", missing ") phases few-1 in
    let b = between-few [] (codes ", slips ") missing few-2 in
    let c = between-few [] (codes ", returns ") slips few-3 in
    let d = between-few [] (codes ", rises ") returns few-4 in
    let e = between-few [] (codes ", half cycles ") rises few-5 in
    let f = between-few [] (codes "</title>\n") halves few-6 in
    omega (
      arith,
      a,
      b,
      c,
      d,
      e,
      f,
      six-long
          (number_between (codes ": columns with phase ") phases (codes ", missing "))
          (number_between [] missing (codes ", slips "))
          (number_between [] slips (codes ", returns "))
          (number_between [] returns (codes ", rises "))
          (number_between [] rises (codes ", half cycles "))
          (number_between [] halves (codes "</title>\n")),
    )

numbers-few : (bins : List TimeBin) (place code : ℕ) → length bins ≤ 1440 → length (code_numbers bins place code) ≤ 104
unfolding code_numbers
numbers-few bins place code few =
    let within : (layer : Layer) → columns_of bins place code layer ≤ 1440 = λ layer. let most = columns-few bins place code layer in omega (arith, most, few) in
    column-numbers-few (columns_of bins place code Phase) (columns_of bins place code Missing) (columns_of bins place code Slip)
    (columns_of bins place code Return) (columns_of bins place code Rise) (columns_of bins place code Half)
    (within Phase) (within Missing) (within Slip) (within Return) (within Rise) (within Half)

bar-few : (bins : List TimeBin) (place code : ℕ) → length bins ≤ 1440 → length (drawn_bar bins place code) ≤ 488 + 22 * forms_in_bar bins place code
unfolding drawn_bar forms_in_bar
bar-few bins place code few =
    let numbers = numbers-few bins place code few in
    let levels = levels-few bins place code in
    let missing = missing-few bins place code in
    let locks = locks-few bins place code in
    omega (arith, numbers, levels, missing, locks, four-long (code_numbers bins place code) (level_paths bins place code) (missing_paths bins place code) (lock_paths bins place code))

-- ---- the line

pub two-characters : (c : Code) → length (name_of c) ≡ 2
two-characters G1C = refl
two-characters G1P = refl
two-characters G1W = refl
two-characters G1S = refl
two-characters G1L = refl
two-characters G1X = refl
two-characters G2C = refl
two-characters G2D = refl
two-characters G2P = refl
two-characters G2W = refl
two-characters G2S = refl
two-characters G2L = refl
two-characters G2X = refl
two-characters G5I = refl
two-characters G5Q = refl
two-characters G5X = refl

start-few : (spacing : Spacing) → length (line_start spacing) ≤ 22
start-few Wide = omega arith
start-few Close = omega arith

name-few : (spacing : Spacing) → length (code_start spacing) ≤ 60
name-few Wide = omega arith
name-few Close = omega arith

top-few : (spacing : Spacing) (lines : ℕ) → lines ≤ 16 → line_top spacing lines ≤ 999
top-few Wide lines few = omega arith
top-few Close lines few = omega arith

pub lines-few : (bins : List TimeBin) (place at : ℕ) → codes_before bins place at ≤ at
unfolding codes_before
lines-few bins place at = omega (arith, count_by-le-length (has_code bins place) (range_with_len 0 at), length-range_with_len 0 at)

place-few : (before after : List ℕ) (n : ℕ) → n ≤ 999 → length (number_between before n after) ≤ length before + length after + 3
place-few before after n few =
    let digits = length-decimal-le 3 n (omega arith) (omega arith) (omega arith) in
    omega (arith, digits, three-long before (decimal n) after)

eight-long : (a b c d e f g h : List ℕ)
    → length (a ++ b ++ c ++ d ++ e ++ f ++ g ++ h) ≡ length a + length b + length c + length d + length e + length f + length g + length h
eight-long a b c d e f g h = omega (arith, length-append (a ++ b ++ c ++ d ++ e ++ f ++ g) h, length-append (a ++ b ++ c ++ d ++ e ++ f) g, six-long a b c d e f)

pub bars-small : BarsAreSmall
unfolding code_line
bars-small names spacing bins place at name two few listed =
    let before : List ℕ = number_between (codes "<g transform='translate(0 ") (line_top spacing (codes_before bins place at)) (line_start spacing) in
    let lines = lines-few bins place at in
    let top = place-few (codes "<g transform='translate(0 ") (line_start spacing) (line_top spacing (codes_before bins place at))
    (top-few spacing (codes_before bins place at) (omega (arith, lines, listed))) in
    let start = start-few spacing in
    let start_of = name-few spacing in
    let bar = bar-few bins place at few in
    omega (
      arith,
      top,
      start,
      start_of,
      two,
      bar,
      eight-long before (satellite_label names.letter (names.before + place + 1)) (codes " ") name (drawn_bar bins place at)
          (code_start spacing) name (codes "</text>\n</g>\n"),
    )

-- ---- no bar is larger

pub boxes-within : (was : Bool) (bs : List Bool) → boxes_from was bs ≤ count_by (λ b. b) bs
boxes-within was [] = omega arith
boxes-within was (false ∷ bs) = let rest = boxes-within false bs in rw (sum_by-cons (λ (b : Bool). cond b 1 0) false bs) (omega (arith, rest))
boxes-within false (true ∷ bs) = let rest = boxes-within true bs in rw (sum_by-cons (λ (b : Bool). cond b 1 0) true bs) (omega (arith, rest))
boxes-within true (true ∷ bs) = let rest = boxes-within true bs in rw (sum_by-cons (λ (b : Bool). cond b 1 0) true bs) (omega (arith, rest))

pub over-within : (bs : List Bool) → boxes_over bs ≤ count_by (λ b. b) bs
unfolding boxes_over
over-within bs = boxes-within false bs

none-after : (x from n : ℕ) → x < from → sum_by (λ level. cond (x == level) 1 0) (range_with_len from n) ≡ 0
none-after x from zero below = refl
none-after x from (suc n) below =
    let rest = none-after x (from + 1) n (omega (arith, below)) in
    let other : (x == from) ≡ false = ne_eqb x from (λ same. absurd (omega (arith, same, below))) in
    rw (sum_by-cons (λ (level : ℕ). cond (x == level) 1 0) from (range_with_len (from + 1) n), other) (omega (arith, rest))

-- a number is one of several at most once
once : (x from n : ℕ) → sum_by (λ level. cond (x == level) 1 0) (range_with_len from n) ≤ 1
once x from zero = omega arith
once x from (suc n) =
    rw (sum_by-cons (λ (level : ℕ). cond (x == level) 1 0) from (range_with_len (from + 1) n)) (
    elim (cases_eq x from) [
      | inl same ↦
          let rest = none-after x (from + 1) n (omega (arith, same)) in
          rw (eq-eqb x from same) (omega (arith, rest))
      | inr other ↦
          let rest = once x (from + 1) n in
          rw (ne_eqb x from other) (omega (arith, rest))
    ]
    )

no-level : (n from : ℕ) → sum_by (λ level. 0) (range_with_len from n) ≡ 0
no-level zero from = refl
no-level (suc n) from = let rest = no-level n (from + 1) in rw (sum_by-cons (λ (level : ℕ). 0) from (range_with_len (from + 1) n)) (omega (arith, rest))

one-level : (phase : Bool) (x : ℕ) → sum_by (λ level. cond (phase && (x == level)) 1 0) (range_with_len 0 10) ≤ 1
one-level false x = let none = no-level 10 0 in omega (arith, none)
one-level true x = once x 0 10

sum-two : (f g : ℕ → ℕ) (xs : List ℕ) → sum_by (λ x. f x + g x) xs ≡ sum_by f xs + sum_by g xs
sum-two f g [] = refl
sum-two f g (x ∷ xs) =
    let rest = sum-two f g xs in
    rw (sum_by-cons (λ (y : ℕ). f y + g y) x xs, sum_by-cons f x xs, sum_by-cons g x xs) (omega (arith, rest))

abbrev level_columns : List TimeBin → ℕ → ℕ → ℕ → ℕ
level_columns bins place code level = columns_of bins place code (Level level)

-- a bin has its strength in one level
levels-within : (bins : List TimeBin) (place code : ℕ) → sum_by (level_columns bins place code) (range_with_len 0 10) ≤ length bins
levels-within [] place code = let none = no-level 10 0 in omega (arith, none)
levels-within (bin ∷ bins) place code =
    let rest = levels-within bins place code in
    let marks = marks_at code (tracking_at place bin) in
    let here = one-level marks.phase (unwrap_or marks.least 0) in
    let one : ℕ → ℕ = λ level. cond (shows (Level level) marks) 1 0 in
    let sums = sum_by-le-sum_by (level_columns (bin ∷ bins) place code) (λ level. one level + level_columns bins place code level) (range_with_len 0 10)
    (λ level. rw (sum_by-cons (λ (b : Bool). cond b 1 0) (shows (Level level) marks) (layer_flags bins place code (Level level))) (omega arith)) in
    let both = sum-two one (level_columns bins place code) (range_with_len 0 10) in
    omega (arith, rest, here, sums, both)

forms-few : (bins : List TimeBin) (place code : ℕ) → length bins ≤ 1440 → forms_in_bar bins place code ≤ 10_080
unfolding forms_in_bar
forms-few bins place code few =
    let levels = levels-within bins place code in
    let boxes = sum_by-le-sum_by (level_boxes bins place code) (level_columns bins place code) (range_with_len 0 10)
    (λ level. over-within (layer_flags bins place code (Level level))) in
    let part = over-within (layer_flags bins place code Part) in
    let absent = over-within (layer_flags bins place code Absent) in
    let within = columns-few bins place code in
    omega (arith, levels, boxes, part, absent, few, within Part, within Absent, within Slip, within Half, within Return, within Rise)

pub no-bar-larger : NoBarIsLarger
no-bar-larger names spacing bins place at name two few listed =
    let line = bars-small names spacing bins place at name two few listed in
    let forms = forms-few bins place at few in
    omega (arith, line, forms)

-- The ten lines that are read in the place of a text that ends within them.
use Rattle.std.proofs.Common.{◌≡◌, ◌<◌, ◌≤◌, ℕ, ◌+◌, ◌-◌, ◌*◌, List, [], ◌++◌, length, take, drop, ap, sym, arith, refl, ◌∙◌, inl, inr}
use Rattle.std.specs.Fmt.{digits}
use Rattle.std.proofs.Math.Seq.{take-append-add}
use Rattle.std.proofs.lemmas.Bool.{cases_order}
use Rattle.std.proofs.lemmas.List.{drop_at, drop-drop, take-append-drop, take-append-le, drop-append-le, length-drop}
use Rattle.rtk_rinex.specs.Columns.{left}
use Rattle.rtk_rinex.specs.Header.{header_line, header_text}
use Rattle.rtk_obs.specs.Reading.{date_after}
use Rattle.rtk_label.specs.Steps.Fronts.{plain_file}
use Rattle.rtk_label.specs.Steps.Shown.{IsNumberIn}
use Rattle.rtk_label.proofs.ChoiceLemmas.{blank_or_filled}
use Rattle.rtk_label.proofs.FieldLemmas.{blank_field}
use Rattle.rtk_label.proofs.FrontLemmas.{type_line}
use Rattle.rtk_label.proofs.NumberLemmas.{no_number}

piece_more : (k w : ℕ) (text rest : List ℕ) → k + w ≤ length text → take w (drop k (text ++ rest)) ≡ take w (drop k text)
piece_more k w text rest h =
    ap (take w) (drop-append-le k text rest (omega (arith, h))) ∙ take-append-le w (drop k text) rest (omega (arith, h, length-drop k text))

-- the fourth of its lines, if it has four

type_no_number : IsNumberIn type_line []
type_no_number = record {
  good = blank_field 20;
  some = λ h. absurd (omega (arith, h));
  all = λ g good some e. absurd (no_number g good some e);
}

plain_fourth : take 81 (drop 243 plain_file) ≡ type_line
unfolding type_line header_text header_line left
plain_fourth = refl

behind : (lines more : List ℕ) (n d : ℕ) → length lines + d ≡ n → drop n (lines ++ drop (length lines) more) ≡ drop n more
behind lines more n d sum =
    ap (λ (k : ℕ). drop k (lines ++ drop (length lines) more)) (sym sum) ∙ sym (drop-drop d (length lines) (lines ++ drop (length lines) more))
    ∙ ap (drop d) (drop_at lines (drop (length lines) more) (length lines) refl) ∙ drop-drop d (length lines) more ∙ ap (λ (k : ℕ). drop k more) sum

fourth_is : (lines more ten : List ℕ) (from : ℕ) → ten ≡ take 810 (lines ++ more) → length ten ≡ 810 → take 81 (drop 243 ten) ≡ take 81 (drop 243 (lines ++ more))
fourth_is lines more ten from e size =
    sym (piece_more 243 81 ten (drop 810 (lines ++ more)) (omega (arith, size)))
    ∙ ap (λ (t : List ℕ). take 81 (drop 243 (t ++ drop 810 (lines ++ more)))) e
    ∙ ap (λ (t : List ℕ). take 81 (drop 243 t)) (take-append-drop 810 (lines ++ more))

four_lines : (lines more number ten : List ℕ) (from : ℕ) → ten ≡ take 810 (lines ++ more) → length ten ≡ 810 → 324 ≤ length lines
    → IsNumberIn (take 81 (drop 243 lines)) number → IsNumberIn (take 81 (drop 243 ten)) number
four_lines lines more number ten from e size four is =
    let line : take 81 (drop 243 ten) ≡ take 81 (drop 243 lines) = fourth_is lines more ten from e size ∙ piece_more 243 81 lines more (omega (arith, four)) in
    rw line is

few_lines : (lines number ten : List ℕ) (from k : ℕ) → ten ≡ take 810 (lines ++ drop (length lines - from) plain_file) → length ten ≡ 810 → length lines ≡ 81 * k
    → length lines < 324 → number ≡ [] → from ≡ 0 → IsNumberIn (take 81 (drop 243 ten)) number
few_lines lines number ten from k e size multiple few none zero =
    let same : length lines - from ≡ length lines = omega (arith, zero) in
    let at : ten ≡ take 810 (lines ++ drop (length lines) plain_file) = e ∙ ap (λ (n : ℕ). take 810 (lines ++ drop n plain_file)) same in
    let sum : length lines + (243 - length lines) ≡ 243 = omega (arith, multiple, few) in
    let line : take 81 (drop 243 ten) ≡ type_line =
    fourth_is lines (drop (length lines) plain_file) ten from at size ∙ ap (take 81) (behind lines plain_file 243 (243 - length lines) sum) ∙ plain_fourth in
    rw (line, none) type_no_number

pub cut_number : (lines number ten : List ℕ) (from k : ℕ) → ten ≡ take 810 (lines ++ drop (length lines - from) plain_file) → length ten ≡ 810 → length lines ≡ 81 * k
    → (length lines < 324 → number ≡ []) → (324 ≤ length lines → IsNumberIn (take 81 (drop 243 lines)) number) → (length number ≡ 0 → from ≡ 0)
    → IsNumberIn (take 81 (drop 243 ten)) number
cut_number lines number ten from k e size multiple few four blank =
    elim (cases_order (length lines) 324) [
      | inl same ↦ four_lines lines (drop (length lines - from) plain_file) number ten from e size (omega (arith, same)) (four (omega (arith, same)))
      | inr (inl below) ↦ few_lines lines number ten from k e size multiple below (few below) (blank (ap length (few below)))
      | inr (inr above) ↦ four_lines lines (drop (length lines - from) plain_file) number ten from e size (omega (arith, above)) (four (omega (arith, above)))
    ]

-- the line of the number is among them
pub number_within : (lines number : List ℕ) (from : ℕ) → (length lines < 324 → number ≡ []) → (length number ≡ 0 → from ≡ 0) → (0 < length number → from ≡ 81)
    → (from ≤ length lines) × (from ≤ 81)
number_within lines number from few blank filled =
    elim (cases_order (length lines) 324) [
      | inl same ↦ elim (blank_or_filled number) [ inl none ↦ (omega (arith, blank none), omega (arith, blank none)) | inr some ↦ (omega (arith, filled some, same), omega (arith, filled some)) ]
      | inr (inl below) ↦ let zero : from ≡ 0 = blank (ap length (few below)) in (omega (arith, zero), omega (arith, zero))
      | inr (inr above) ↦ elim (blank_or_filled number) [ inl none ↦ (omega (arith, blank none), omega (arith, blank none)) | inr some ↦ (omega (arith, filled some, above), omega (arith, filled some)) ]
    ]

plain_long : length (take 810 plain_file) ≡ 810
unfolding header_text header_line left date_after digits
plain_long = refl

-- the first lines of the plain file
pub filled_up : (lines : List ℕ) (from : ℕ) → length lines ≤ 729 → from ≤ length lines
    → lines ++ take (810 - length lines) (drop (length lines - from) (take 810 plain_file)) ≡ take 810 (lines ++ drop (length lines - from) plain_file)
filled_up lines from few fits =
    let d : ℕ = length lines - from in
    let n : ℕ = 810 - length lines in
    let front : List ℕ = take 810 plain_file in
    let long : length front ≡ 810 = plain_long in
    let piece : take n (drop d front) ≡ take n (drop d plain_file) =
    sym (piece_more d n front (drop 810 plain_file) (omega (arith, long, few, fits))) ∙ ap (λ (t : List ℕ). take n (drop d t)) (take-append-drop 810 plain_file) in
    let sum : length lines + n ≡ 810 = omega (arith, few) in
    ap (λ (t : List ℕ). lines ++ t) piece ∙ sym (take-append-add lines (drop d plain_file) n) ∙ ap (λ (k : ℕ). take k (lines ++ drop d plain_file)) sum

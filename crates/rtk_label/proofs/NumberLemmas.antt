-- The line of the marker's number.
use Rattle.std.proofs.Common.{◌≡◌, ◌≢◌, ◌<◌, ◌≤◌, ℕ, List, [], ◌∷◌, ◌++◌, length, take, get_or, codes, ap, sym, arith, refl, ◌∙◌, append_assoc, replicate}
use Rattle.std.proofs.lemmas.List.{take_at, get_or-append_right}
use Rattle.rtk_rinex.specs.Columns.{left, IsField}
use Rattle.rtk_rinex.specs.Header.{header_line}
use Rattle.rtk_label.specs.Fields.{marker_number_line}
use Rattle.rtk_label.specs.Steps.Shown.{IsFieldIn, IsNumberIn}
use Rattle.rtk_label.proofs.ChoiceLemmas.{if_filled}
use Rattle.rtk_label.proofs.FieldLemmas.{blank_field, length-left}
use Rattle.rtk_label.proofs.LineLemmas.{line_end, line_of, length-line}
use Rattle.rtk_label.proofs.FrontLemmas.{type_line}

-- ---- the line of the marker's number is no other line

type_byte : get_or type_line 67 0 ≡ 84
unfolding type_line header_line left
type_byte = refl

number_byte : (n : List ℕ) → IsField 20 n → 0 < length n → get_or (marker_number_line n) 67 0 ≡ 78
unfolding line_end left
number_byte n is some =
    let size = length-left 20 n is.0 in
    let line : marker_number_line n ≡ left 20 n ++ line_end 40 (codes "MARKER NUMBER") =
    if_filled n [] (header_line (left 20 n) (codes "MARKER NUMBER")) some ∙ line_of (left 20 n) (codes "MARKER NUMBER") 20 40 size refl in
    ap (λ (t : List ℕ). get_or t 67 0) line ∙ get_or-append_right (left 20 n) (line_end 40 (codes "MARKER NUMBER")) 20 67 0 size (omega arith)

pub no_number : (n : List ℕ) → IsField 20 n → 0 < length n → type_line ≢ marker_number_line n
no_number n is some e =
    let same : 84 ≡ 78 = sym type_byte ∙ ap (λ (t : List ℕ). get_or t 67 0) e ∙ number_byte n is some in
    omega (arith, same)

pub length-number : (n : List ℕ) → IsField 20 n → 0 < length n → length (marker_number_line n) ≡ 81
length-number n is some =
    ap length (if_filled n [] (header_line (left 20 n) (codes "MARKER NUMBER")) some)
    ∙ length-line (left 20 n) (codes "MARKER NUMBER") (omega (arith, length-left 20 n is.0)) (omega arith)

pub number_cut : (n : List ℕ) → length n ≤ 20 → 0 < length n → marker_number_line n ≡ left 20 n ++ line_end 40 (codes "MARKER NUMBER")
number_cut n fits some =
    if_filled n [] (header_line (left 20 n) (codes "MARKER NUMBER")) some ∙ line_of (left 20 n) (codes "MARKER NUMBER") 20 40 (length-left 20 n fits) refl

-- it is written in three parts
number_end : line_end 40 (codes "MARKER NUMBER") ≡ replicate 40 32 ++ (codes "MARKER NUMBER       " ++ 10 ∷ [])
unfolding line_end left
number_end = refl

pub number_text : (out n : List ℕ) → length n ≤ 20 → 0 < length n
    → ((out ++ left 20 n) ++ replicate 40 32) ++ (codes "MARKER NUMBER       " ++ 10 ∷ []) ≡ out ++ marker_number_line n
number_text out n fits some =
    append_assoc (out ++ left 20 n) (replicate 40 32) (codes "MARKER NUMBER       " ++ 10 ∷ [])
    ∙ append_assoc out (left 20 n) (replicate 40 32 ++ (codes "MARKER NUMBER       " ++ 10 ∷ []))
    ∙ ap (λ (t : List ℕ). out ++ t) (sym (number_cut n fits some ∙ ap (λ (t : List ℕ). left 20 n ++ t) number_end))

number_front : (g : List ℕ) → IsField 20 g → 0 < length g → take 20 (marker_number_line g) ≡ left 20 g
number_front g good some = ap (take 20) (number_cut g good.0 some) ∙ take_at (left 20 g) (line_end 40 (codes "MARKER NUMBER")) 20 (length-left 20 g good.0)

pub number-none : (line field : List ℕ) → IsFieldIn 20 (take 20 line) field → line ≢ marker_number_line field → IsNumberIn line []
number-none line field is unlike = record {
  good = blank_field 20;
  some = λ h. absurd (omega (arith, h));
  all = λ g good some e.
      let same : field ≡ g = is.all g good (ap (take 20) e ∙ number_front g good some) in
      absurd (unlike (e ∙ ap (λ (x : List ℕ). marker_number_line x) (sym same)));
}

pub number-some : (line field : List ℕ) → IsFieldIn 20 (take 20 line) field → line ≡ marker_number_line field → IsNumberIn line field
number-some line field is own = record {
  good = is.good;
  some = λ h. own;
  all = λ g good some e. is.all g good (ap (take 20) e ∙ number_front g good some);
}

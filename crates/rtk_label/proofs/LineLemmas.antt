-- Lines of a header: 81 bytes each.
use Rattle.std.proofs.Common.{◌≡◌, ◌<◌, ◌≤◌, ℕ, zero, suc, ◌+◌, ◌-◌, ◌/◌, ◌%◌, List, [], ◌∷◌, ◌++◌, length, replicate, ℤ, pos, negsuc, true, false, ap, arith, refl, ◌∙◌, append_assoc, length-append}
use Rattle.std.proofs.lemmas.Fmt.{length-decimal-le}
use Rattle.std.proofs.lemmas.Int.{ints}
use Rattle.rtk_obs.specs.declared.time.Civil.{Civil}
use Rattle.rtk_obs.specs.CivilText.{last_digits}
use Rattle.rtk_obs.specs.Coordinates.{IsCoordinate}
use Rattle.rtk_rinex.specs.Columns.{left, decimals, fixed}
use Rattle.rtk_rinex.specs.Header.{header_line, made_text}
use Rattle.rtk_label.proofs.FieldLemmas.{length-left}
use Rattle.rtk_label.proofs.OffsetLemmas.{length-right}

-- what stands after the content: k blanks, the label, LF
unfoldable pub line_end : ℕ → List ℕ → List ℕ
line_end k label = replicate k 32 ++ (left 20 label ++ 10 ∷ [])

line_parts : (content label : List ℕ) → header_line content label ≡ content ++ (replicate (60 - length content) 32 ++ (left 20 label ++ 10 ∷ []))
unfolding header_line left
line_parts content label = simp append_assoc

pub line_of : (content label : List ℕ) (n k : ℕ) → length content ≡ n → n + k ≡ 60 → header_line content label ≡ content ++ line_end k label
unfolding line_end
line_of content label n k e f =
    let d : 60 - length content ≡ k = omega (arith, e, f) in
    line_parts content label ∙ ap (λ (j : ℕ). content ++ (replicate {A = ℕ} j 32 ++ (left 20 label ++ 10 ∷ []))) d

pub length-line : (content label : List ℕ) → length content ≤ 60 → length label ≤ 20 → length (header_line content label) ≡ 81
unfolding header_line
length-line content label h g =
    let a = length-append (left 60 content ++ left 20 label) (10 ∷ []) in
    let b = length-append (left 60 content) (left 20 label) in
    omega (arith, a, b, length-left 60 content h, length-left 20 label g)

-- ---- widths

pub length-last_digits : (k n : ℕ) → length (last_digits k n) ≡ k
length-last_digits zero n = refl
length-last_digits (suc k) n =
    length-append (last_digits k (n / 10)) ((48 + n % 10) ∷ []) ∙ omega (arith, length-last_digits k (n / 10))

pub length-made : (c : Civil) → length (made_text c) ≡ 20
length-made c = refl

pub length-fixed : (v : ℤ) → IsCoordinate v → length (fixed 4 14 v) ≡ 14
length-fixed (pos n) h =
    let low : n ≤ 137_438_953_471 = omega (arith, ints, h.greatest) in
    let digits = length-decimal-le 8 (n / 10_000) (omega arith) (omega arith) (omega arith) in
    length-right 14 (decimals 4 false n) (simp length-append (omega arith))
length-fixed (negsuc n) h =
    let low : suc n ≤ 137_438_953_472 = omega (arith, ints, h.least) in
    let digits = length-decimal-le 8 (suc n / 10_000) (omega arith) (omega arith) (omega arith) in
    length-right 14 (decimals 4 true (suc n)) (simp length-append (omega arith))

pub height_coordinate : (h : ℕ) → h < 65_536 → IsCoordinate (pos h)
height_coordinate h small = record { least = omega (arith, ints); greatest = omega (arith, ints) }

-- What a text begins with: two words that differ, and lines of counts that may be left out.
use Rattle.std.proofs.Common.{◌≡◌, ◌≢◌, ◌<◌, ◌^◌, ◌==◌, ℕ, Bool, true, false, cond, List, [], ◌∷◌, ◌++◌, codes, decimal, sym, ap, ◌∙◌, append_assoc, inl, inr, arith, ne_eqb}
use Rattle.std.specs.Prelude.{flat_map}
use Rattle.std.specs.List.{AllByRecursion}
use Rattle.std.proofs.Math.Nat.{eq-zero-or-pos}
use Rattle.std.proofs.lemmas.Bool.{cases_Bool, eqb-false}
use Rattle.std.proofs.lemmas.List.{append_cancel_left}
use Rattle.rtk_survey.specs.SummaryText.{number_line, counted_line, numbered_line}
use Rattle.rtk_message.proofs.PublicLaws.{number-then}

-- ---- words that differ

-- the words differ at a place that both have
abbrev pub differ : List ℕ → List ℕ → Bool
differ [] v = false
differ (a ∷ w) [] = false
differ (a ∷ w) (b ∷ v) = cond (a == b) (differ w v) true

-- no text begins with both
abbrev pub AreApart : List ℕ → List ℕ → Type 0
AreApart w v = (r q : List ℕ) → w ++ r ≡ v ++ q → ⊥

pub apart : (w v : List ℕ) → differ w v ≡ true → AreApart w v
apart [] v other = λ r q same. cc
apart (a ∷ w) [] other = λ r q same. cc
apart (a ∷ w) (b ∷ v) other = elim (cases_Bool (a == b)) [
  | inl is ↦ λ r q same.
      let more : w ++ r ≡ v ++ q = cc in
      apart w v (sym (ap (λ (c : Bool). cond c (differ w v) true) is) ∙ other) r q more
  | inr fails ↦ λ r q same.
      let first : a ≡ b = cc in
      eqb-false a b fails first
]

-- the text does not begin with these words
abbrev pub IsNotHeaded : List ℕ → List ℕ → Type 0
IsNotHeaded w text = (rest : List ℕ) → text ≡ w ++ rest → ⊥

longer : (w v u : List ℕ) → AreApart w v → AreApart w (v ++ u)
longer w v u other = λ r q same. other r (u ++ q) (same ∙ append_assoc v u q)

-- ---- a line

pub opened : (words digits rest : List ℕ) (x : ℕ) → (words ++ digits ++ x ∷ []) ++ rest ≡ words ++ (digits ++ x ∷ rest)
opened words digits rest x = simp append_assoc

-- words and a number, and what stands behind their line
pub line-then : (words : List ℕ) (m n : ℕ) (s t : List ℕ) → m < 2 ^ 64 → n < 2 ^ 64 → number_line words m ++ s ≡ number_line words n ++ t → (m ≡ n) × (s ≡ t)
line-then words m n s t held fits same =
    number-then m n 10 s t held fits (λ digit. omega (arith, digit))
    (append_cancel_left words (decimal m ++ 10 ∷ s) (decimal n ++ 10 ∷ t) (sym (opened words (decimal m) s 10) ∙ same ∙ opened words (decimal n) t 10))

pub none-then : (words : List ℕ) (n : ℕ) (s : List ℕ) → n ≡ 0 → counted_line words n ++ s ≡ s
none-then words n s none = ap (λ (k : ℕ). counted_line words k ++ s) none

pub some-then : (words : List ℕ) (n : ℕ) (s : List ℕ) → 0 < n → counted_line words n ++ s ≡ words ++ (decimal n ++ 10 ∷ s)
some-then words n s some =
    let above : (n == 0) ≡ false = ne_eqb n 0 (λ is. omega (arith, is, some)) in
    ap (λ (b : Bool). cond b [] (number_line words n) ++ s) above ∙ opened words (decimal n) s 10

-- a count, which may have no line, and what stands behind it
pub counted-then : (words : List ℕ) (m n : ℕ) (s t : List ℕ) → m < 2 ^ 64 → n < 2 ^ 64 → IsNotHeaded words s → IsNotHeaded words t
    → counted_line words m ++ s ≡ counted_line words n ++ t → (m ≡ n) × (s ≡ t)
counted-then words m n s t held fits here there same = elim (eq-zero-or-pos m) [
  | inl none ↦ elim (eq-zero-or-pos n) [
    | inl nil ↦ (none ∙ sym nil, sym (none-then words m s none) ∙ same ∙ none-then words n t nil)
    | inr some ↦ absurd (here (decimal n ++ 10 ∷ t) (sym (none-then words m s none) ∙ same ∙ some-then words n t some))
  ]
  | inr some ↦ elim (eq-zero-or-pos n) [
    | inl nil ↦ absurd (there (decimal m ++ 10 ∷ s) (sym (none-then words n t nil) ∙ sym same ∙ some-then words m s some))
    | inr more ↦ number-then m n 10 s t held fits (λ digit. omega (arith, digit))
        (append_cancel_left words (decimal m ++ 10 ∷ s) (decimal n ++ 10 ∷ t) (sym (some-then words m s some) ∙ same ∙ some-then words n t more))
  ]
]

-- the line of a count does not begin with other words
pub not-headed-line : (w words : List ℕ) (n : ℕ) (s : List ℕ) → AreApart w words → IsNotHeaded w s → IsNotHeaded w (counted_line words n ++ s)
not-headed-line w words n s other behind = elim (eq-zero-or-pos n) [
  | inl none ↦ λ rest is. behind rest (sym (none-then words n s none) ∙ is)
  | inr some ↦ λ rest is. other rest (decimal n ++ 10 ∷ s) (sym is ∙ some-then words n s some)
]

-- ---- lines of counts by number

abbrev pub lines_by_number : List ℕ → (ℕ → ℕ) → List ℕ → List ℕ
lines_by_number words count numbers = flat_map (λ n. numbered_line words n (count n)) numbers

abbrev pub words_of : List ℕ → ℕ → List ℕ
words_of words number = words ++ decimal number ++ codes " "

-- the first of the numbers, if there is one, is greater
abbrev pub FirstIsAbove : ℕ → List ℕ → Type 0
FirstIsAbove n [] = Unit {0}
FirstIsAbove n (m ∷ ms) = n < m

-- the numbers rise, and a u64 holds them
abbrev pub NumbersRise : List ℕ → Type 0
NumbersRise [] = Unit {0}
NumbersRise (n ∷ ns) = (n < 2 ^ 64) × FirstIsAbove n ns × NumbersRise ns

still-above : (a n : ℕ) (ns : List ℕ) → a < n → FirstIsAbove n ns → FirstIsAbove a ns
still-above a n [] above first = tt
still-above a n (m ∷ ms) above first = omega (arith, above, first)

-- two numbers behind the same words
numbers-apart : (words : List ℕ) (a b : ℕ) → a < 2 ^ 64 → b < 2 ^ 64 → a ≢ b → AreApart (words_of words a) (words_of words b)
numbers-apart words a b held fits other = λ r q same.
    other (number-then a b 32 r q held fits (λ digit. omega (arith, digit))
    (append_cancel_left words (decimal a ++ 32 ∷ r) (decimal b ++ 32 ∷ q) (sym (opened words (decimal a) r 32) ∙ same ∙ opened words (decimal b) q 32))).0

-- the lines of greater numbers
not-headed-greater : (words : List ℕ) (a : ℕ) (count : ℕ → ℕ) (ns s : List ℕ) → a < 2 ^ 64 → FirstIsAbove a ns → NumbersRise ns → IsNotHeaded words s
    → IsNotHeaded (words_of words a) (lines_by_number words count ns ++ s)
not-headed-greater words a count [] s held above rise behind = λ rest is. behind (decimal a ++ 32 ∷ rest) (is ∙ opened words (decimal a) rest 32)
not-headed-greater words a count (n ∷ ns) s held above rise behind =
    let line : List ℕ = numbered_line words n (count n) in
    let more : List ℕ = lines_by_number words count ns in
    let later = not-headed-greater words a count ns s held (still-above a n ns above rise.1) rise.2 behind in
    let here = not-headed-line (words_of words a) (words_of words n) (count n) (more ++ s) (numbers-apart words a n held rise.0 (λ is. omega (arith, is, above))) later in
    λ rest is. here rest (sym (append_assoc line more s) ∙ is)

-- lines of numbers behind other words
pub not-headed-table : (w words : List ℕ) (count : ℕ → ℕ) (ns s : List ℕ) → AreApart w words → IsNotHeaded w s → IsNotHeaded w (lines_by_number words count ns ++ s)
not-headed-table w words count [] s other behind = behind
not-headed-table w words count (n ∷ ns) s other behind =
    let line : List ℕ = numbered_line words n (count n) in
    let more : List ℕ = lines_by_number words count ns in
    let later = not-headed-table w words count ns s other behind in
    let here = not-headed-line w (words_of words n) (count n) (more ++ s) (longer w (words ++ decimal n) (codes " ") (longer w words (decimal n) other)) later in
    λ rest is. here rest (sym (append_assoc line more s) ∙ is)

-- the lines tell each count, and what stands behind them
pub table-then : (words : List ℕ) (f g : ℕ → ℕ) (ns s t : List ℕ) → NumbersRise ns → ((n : ℕ) → f n < 2 ^ 64) → ((n : ℕ) → g n < 2 ^ 64) → IsNotHeaded words s → IsNotHeaded words t
    → lines_by_number words f ns ++ s ≡ lines_by_number words g ns ++ t → AllByRecursion (λ n. f n ≡ g n) ns × (s ≡ t)
table-then words f g [] s t rise held fits here there same = (tt, same)
table-then words f g (n ∷ ns) s t rise held fits here there same =
    let left : List ℕ = lines_by_number words f ns in
    let right : List ℕ = lines_by_number words g ns in
    let one = counted-then (words_of words n) (f n) (g n) (left ++ s) (right ++ t) (held n) (fits n)
    (not-headed-greater words n f ns s rise.0 rise.1 rise.2 here) (not-headed-greater words n g ns t rise.0 rise.1 rise.2 there)
    (sym (append_assoc (numbered_line words n (f n)) left s) ∙ same ∙ append_assoc (numbered_line words n (g n)) right t) in
    let more = table-then words f g ns s t rise.2 held fits here there one.1 in
    ((one.0, more.0), more.1)

-- Each line of a record ends in its only LF.
use Rattle.std.proofs.Common.{◌≡◌, ◌≢◌, ℕ, zero, suc, ◌+◌, ◌-◌, ◌/◌, ◌^◌, ◌<◌, ◌≤◌, Bool, true, false, Option, Some, None, List, [], ◌∷◌, ◌++◌, length, take, drop, get_or, replicate, decimal, codes, refl, sym, ◌∙◌, ap, arith, append_assoc, flat_map}
use Rattle.std.specs.Prelude.{MatchOption, All}
use Rattle.memchr.specs.Find.{IsFirstByte, is_byte}
use Rattle.std.proofs.lemmas.Bool.Decides.{nat_tests}
use Rattle.std.proofs.lemmas.Grind.{take_at_read}
use Rattle.std.proofs.lemmas.List.{take_all, length-take, get_or-take}
use Rattle.std.proofs.lemmas.List.Elements.{All-nil, All-cons, All-head, All-tail, All-append, All-replicate}
use Rattle.rtk_obs.specs.declared.time.Civil.{Civil}
use Rattle.rtk_rinex.specs.declared.epoch_table.SatelliteRow.{SatelliteRow}
use Rattle.rtk_obs.specs.CivilText.{last_digits}
use Rattle.rtk_rinex.specs.Columns.{right, decimals, seconds_of}
use Rattle.rtk_obs.specs.Reading.{IsMoment, reading_of}
use Rattle.rtk_rinex.specs.Record.{observations, trim_end, satellite_line, epoch_date_text, epoch_columns, epoch_line}
use Rattle.rtk_rinex.specs.Lines.{HasNoEnd, IsLine}
use Rattle.rtk_rinex.specs.Steps.ReadRecords.{HasNoMark}
use Rattle.rtk_rinex.proofs.PlainLemmas.{IsPlain, no-end, plain-line, plain-both, plain-decimal, plain-last_digits, plain-decimals, plain-codes, plain-trimmed}
use Rattle.rtk_rinex.proofs.ReadingLemmas.{FitsColumns-reading_of}

abbrev pub IsNoEnd : ℕ → Type 0
IsNoEnd x = x ≢ 10

pub one : (x : ℕ) → x ≢ 10 → HasNoEnd (x ∷ [])
one x h = All-cons IsNoEnd x [] h (All-nil IsNoEnd)

pub both : (xs ys : List ℕ) → HasNoEnd xs → HasNoEnd ys → HasNoEnd (xs ++ ys)
both xs ys h g = All-append IsNoEnd xs ys h g

pub blanks : (k : ℕ) → HasNoEnd (replicate k 32)
blanks k = All-replicate IsNoEnd k 32 (λ e. omega (arith, e))

pub of_decimal : (n : ℕ) → n < 2 ^ 64 → HasNoEnd (decimal n)
of_decimal n h = no-end (decimal n) (plain-decimal n h)

pub of_last_digits : (k n : ℕ) → HasNoEnd (last_digits k n)
of_last_digits k n = no-end (last_digits k n) (plain-last_digits k n)

pub of_right : (w : ℕ) (text : List ℕ) → HasNoEnd text → HasNoEnd (right w text)
of_right w text h = both (replicate (w - length text) 32) text (blanks (w - length text)) h

pub of_decimals : (k : ℕ) (b : Bool) (n : ℕ) → n / 10 ^ k < 2 ^ 64 → HasNoEnd (decimals k b n)
of_decimals k b n h = no-end (decimals k b n) (plain-decimals k b n h)

-- the line of a satellite without its LF
plain-front : (r : SatelliteRow) → All IsPlain (trim_end ((71 ∷ last_digits 2 r.satellite) ++ flat_map observations r.observed.items))
plain-front r =
    let front : List ℕ = 71 ∷ last_digits 2 r.satellite in
    plain-trimmed (front ++ flat_map observations r.observed.items)
    (plain-both front (flat_map observations r.observed.items) (All-cons IsPlain 71 (last_digits 2 r.satellite) (omega arith, λ e. omega (arith, e)) (plain-last_digits 2 r.satellite))
    (plain-codes false r.observed.items))

pub satellite_line-line : (r : SatelliteRow) → IsLine (satellite_line r)
satellite_line-line r =
    let front : List ℕ = trim_end ((71 ∷ last_digits 2 r.satellite) ++ flat_map observations r.observed.items) in
    (front, no-end front (plain-front r), refl)

pub satellite_line-row : (r : SatelliteRow) → HasNoMark (satellite_line r)
satellite_line-row r = plain-line (trim_end ((71 ∷ last_digits 2 r.satellite) ++ flat_map observations r.observed.items)) (plain-front r)

of_date : (c : Civil) → HasNoEnd (epoch_date_text c)
of_date c =
    let blank : 32 ≢ 10 = λ e. omega (arith, e) in
    let two = λ (n : ℕ). All-cons IsNoEnd 32 (last_digits 2 n) blank (of_last_digits 2 n) in
    let year : List ℕ = 62 ∷ 32 ∷ last_digits 4 c.year in
    let head : HasNoEnd year = All-cons IsNoEnd 62 (32 ∷ last_digits 4 c.year) (λ e. omega (arith, e)) (All-cons IsNoEnd 32 (last_digits 4 c.year) blank (of_last_digits 4 c.year)) in
    let b : List ℕ = 32 ∷ last_digits 2 c.month in
    let d : List ℕ = 32 ∷ last_digits 2 c.day in
    let f : List ℕ = 32 ∷ last_digits 2 c.hour in
    let g : List ℕ = 32 ∷ last_digits 2 c.minute in
    both (((year ++ b) ++ d) ++ f) g (both ((year ++ b) ++ d) f (both (year ++ b) d (both year b head (two c.month)) (two c.day)) (two c.hour)) (two c.minute)

pub epoch_line-line : (t n : ℕ) → IsMoment t → n < 1000 → IsLine (epoch_line (reading_of t) n)
epoch_line-line t n h small =
    let c = reading_of t in
    let fits = FitsColumns-reading_of t h in
    let s : List ℕ = right 11 (decimals 7 false (seconds_of c)) in
    let z : List ℕ = codes "  0" in
    let k : List ℕ = right 3 (decimal n) in
    let zero : HasNoEnd z = All-cons IsNoEnd 32 (32 ∷ 48 ∷ []) (λ e. omega (arith, e)) (All-cons IsNoEnd 32 (48 ∷ []) (λ e. omega (arith, e)) (one 48 (λ e. omega (arith, e)))) in
    let seconds : HasNoEnd s = of_right 11 (decimals 7 false (seconds_of c)) (of_decimals 7 false (seconds_of c) (omega (arith, fits.second, fits.millisecond))) in (
      epoch_columns c n,
      both ((epoch_date_text c ++ s) ++ z) k (both (epoch_date_text c ++ s) z (both (epoch_date_text c) s (of_date c) seconds) zero) (of_right 3 (decimal n) (of_decimal n (omega arith))),
      refl,
    )

-- ---- the first line of a text is one

pub no_front : (front rest : List ℕ) → HasNoEnd (front ++ 10 ∷ rest) → ⊥
no_front [] rest h = All-head IsNoEnd 10 rest h refl
no_front (x ∷ front) rest h = no_front front rest (All-tail IsNoEnd x (front ++ 10 ∷ rest) h)

pub no_line : (text line rest : List ℕ) → HasNoEnd text → IsLine line → text ≡ line ++ rest → ⊥
no_line text line rest h l e =
    let whole : text ≡ l.0 ++ (10 ∷ rest) = e ∙ ap (λ (t : List ℕ). t ++ rest) l.2 ∙ append_assoc l.0 (10 ∷ []) rest in
    let inside = rw whole at h in
    no_front l.0 rest inside

pub same_front : (f g x y : List ℕ) → HasNoEnd f → HasNoEnd g → f ++ 10 ∷ x ≡ g ++ 10 ∷ y → (f ≡ g) × (x ≡ y)
same_front [] [] x y h k e = (refl, cc)
same_front [] (b ∷ g) x y h k e = absurd (let same : 10 ≡ b = ap (λ (xs : List ℕ). get_or xs 0 0) e in All-head IsNoEnd b g k (sym same))
same_front (a ∷ f) [] x y h k e = absurd (let same : a ≡ 10 = ap (λ (xs : List ℕ). get_or xs 0 0) e in All-head IsNoEnd a f h same)
same_front (a ∷ f) (b ∷ g) x y h k e =
    let first : a ≡ b = ap (λ (xs : List ℕ). get_or xs 0 0) e in
    let rest : f ++ 10 ∷ x ≡ g ++ 10 ∷ y = ap (drop 1) e in
    let s = same_front f g x y (All-tail IsNoEnd a f h) (All-tail IsNoEnd b g k) rest in
    (rw (first, s.0) refl, s.1)

pub same_line : (l m x y : List ℕ) → IsLine l → IsLine m → l ++ x ≡ m ++ y → (l ≡ m) × (x ≡ y)
same_line l m x y h k e =
    let left : l ++ x ≡ h.0 ++ 10 ∷ x = ap (λ (t : List ℕ). t ++ x) h.2 ∙ append_assoc h.0 (10 ∷ []) x in
    let right : m ++ y ≡ k.0 ++ 10 ∷ y = ap (λ (t : List ℕ). t ++ y) k.2 ∙ append_assoc k.0 (10 ∷ []) y in
    let s = same_front h.0 k.0 x y h.1 k.1 (sym left ∙ e ∙ right) in
    (h.2 ∙ ap (λ (t : List ℕ). t ++ 10 ∷ []) s.0 ∙ sym k.2, s.1)

-- ---- the end of the first line

no_end : (text : List ℕ) → ((k : ℕ) → k < length text → get_or text k 0 ≢ 10) → HasNoEnd text
no_end [] h = All-nil IsNoEnd
no_end (x ∷ text) h = All-cons IsNoEnd x text (h 0 (omega arith)) (no_end text (λ k lt. h (suc k) (omega (arith, lt))))

is_end : (text : List ℕ) (k : ℕ) → get_or text k 0 ≡ 10 → is_byte 10 (get_or text k 0) ≡ true
is_end text k e = rw e refl

before : (text : List ℕ) (n : ℕ) → n ≤ length text → ((k : ℕ) → 0 ≤ k → k < n → ¬ (is_byte 10 (get_or text k 0) ≡ true)) → HasNoEnd (take n text)
before text n fits h =
    no_end (take n text) (λ k lt e.
    let inside : k < n = omega (arith, lt, length-take n text) in
    h k (omega arith) inside (is_end text k (sym (get_or-take n text k 0 inside) ∙ e)))

end_is : (x : ℕ) → is_byte 10 x ≡ true → x ≡ 10
end_is x e = grind (arith, nat_tests)

pub ends-line : (text : List ℕ) (r : Option ℕ) → IsFirstByte (is_byte 10) text r → MatchOption r (HasNoEnd text) (λ n. n < length text × IsLine (take (n + 1) text))
ends-line text None h = let all : take (length text) text ≡ text = take_all (length text) text (omega arith) in rw all at (before text (length text) (omega arith) h)
ends-line text (Some n) h =
    let inside = h.0.high in
    let next = (take_at_read text n 0 inside).1 in (
      inside,
      (take n text, before text n (omega (arith, inside)) h.0.before, next ∙ ap (λ (x : ℕ). take n text ++ x ∷ []) (end_is (get_or text n 0) h.1)),
    )

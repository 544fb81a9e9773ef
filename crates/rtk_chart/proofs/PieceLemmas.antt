-- Equal texts have equal pieces: what stands before a character, a number, a length of time, a moment.
use Rattle.std.proofs.Common.{◌≡◌, ◌≢◌, ◌≤◌, ◌<◌, ◌+◌, ◌/◌, ◌%◌, ◌^◌, ℕ, Bool, true, false, cond, Option, Some, None, List, [], ◌∷◌, ◌++◌, get_or, drop, decimal, codes, refl, sym, ap, subst, ◌∙◌, append_assoc, lit<, lit≤, arith, pos, ◌≤ℤ◌}
use Rattle.std.specs.Int.{IsInRange}
use Rattle.std.specs.Prelude.{All}
use Rattle.std.proofs.lemmas.Int.{ints}
use Rattle.std.proofs.lemmas.Fmt.{decimal_injective}
use Rattle.std.proofs.lemmas.List.{append_cancel_left, append_cancel_right}
use Rattle.std.proofs.lemmas.List.Elements.{All-head, All-tail}
use Rattle.rtk_message.proofs.PublicLaws.{number-then}
use Rattle.rtk_obs.specs.declared.time.Civil.{Civil}
use Rattle.rtk_obs.specs.Calendar.{ReadsAs}
use Rattle.rtk_obs.proofs.PublicLaws.{one_moment}
use Rattle.rtk_obs.specs.CivilText.{last_digits, date_text, clock_text, civil_text}
use Rattle.rtk_obs.specs.Reading.{reading_of}
use Rattle.rtk_tracking.specs.Epochs.{capped}
use Rattle.rtk_chart.specs.Heading.{seconds_text, interval_lines}
use Rattle.rtk_chart.specs.TextPicture.{named_count_line, moment_line}
use Rattle.rtk_chart.specs.SvgPicture.{number_between, interval_text}
use Rattle.rtk_chart.specs.HeadingLaws.{HaveSameBins}

-- ---- counts

pub capped-is : (n : ℕ) → n < 2 ^ 64 → capped n ≡ n
capped-is n h = omega (arith, h)

pub capped-fits : (n : ℕ) → capped n < 2 ^ 64
capped-fits n = omega arith

pub same-capped : (m n : ℕ) → m < 2 ^ 64 → n < 2 ^ 64 → capped m ≡ capped n → m ≡ n
same-capped m n h k same = sym (capped-is m h) ∙ same ∙ capped-is n k

-- ---- up to a character

-- a text without this character
abbrev pub Lacks : ℕ → List ℕ → Type 0
Lacks e [] = Unit {0}
Lacks e (x ∷ xs) = (x ≢ e) × Lacks e xs

-- a marker has no line end
pub lacks-printable : (xs : List ℕ) → All (λ x. IsInRange 32 126 x) xs → Lacks 10 xs
lacks-printable [] h = tt
lacks-printable (x ∷ xs) h =
    let low : 32 ≤ x = (All-head (λ (y : ℕ). IsInRange 32 126 y) x xs h).0 in
    ((λ same. omega (arith, same, low)), lacks-printable xs (All-tail (λ (y : ℕ). IsInRange 32 126 y) x xs h))

pub same-until : (e : ℕ) (f g x y : List ℕ) → Lacks e f → Lacks e g → f ++ e ∷ x ≡ g ++ e ∷ y → (f ≡ g) × (x ≡ y)
same-until e [] [] x y h k same = (refl, ap (drop 1) same)
same-until e [] (b ∷ g) x y h k same = absurd (let first : e ≡ b = ap (λ (xs : List ℕ). get_or xs 0 0) same in k.0 (sym first))
same-until e (a ∷ f) [] x y h k same = absurd (let first : a ≡ e = ap (λ (xs : List ℕ). get_or xs 0 0) same in h.0 first)
same-until e (a ∷ f) (b ∷ g) x y h k same =
    let first : a ≡ b = ap (λ (xs : List ℕ). get_or xs 0 0) same in
    let rest : f ++ e ∷ x ≡ g ++ e ∷ y = ap (drop 1) same in
    let s = same-until e f g x y h.1 k.1 rest in
    (rw (first, s.0) refl, s.1)

-- ---- numbers

pub same-number : (e m n : ℕ) (x y : List ℕ) → e < 48 → m < 2 ^ 64 → n < 2 ^ 64 → decimal m ++ e ∷ x ≡ decimal n ++ e ∷ y → (m ≡ n) × (x ≡ y)
same-number e m n x y low h k same = number-then m n e x y h k (λ digit. omega (arith, digit, low)) same

-- words, a text and a line end, before another text
line-apart : (w b x : List ℕ) → ((w ++ b) ++ 10 ∷ []) ++ x ≡ w ++ (b ++ 10 ∷ x)
line-apart w b x = append_assoc (w ++ b) (10 ∷ []) x ∙ append_assoc w b (10 ∷ x)

same-line-body : (w b d x y : List ℕ) → ((w ++ b) ++ 10 ∷ []) ++ x ≡ ((w ++ d) ++ 10 ∷ []) ++ y → b ++ 10 ∷ x ≡ d ++ 10 ∷ y
same-line-body w b d x y same = append_cancel_left w (b ++ 10 ∷ x) (d ++ 10 ∷ y) (sym (line-apart w b x) ∙ same ∙ line-apart w d y)

pub same-count : (w : List ℕ) (m n : ℕ) (x y : List ℕ) → m < 2 ^ 64 → n < 2 ^ 64 → named_count_line w m ++ x ≡ named_count_line w n ++ y → (m ≡ n) × (x ≡ y)
same-count w m n x y h k same = same-number 10 m n x y (lit< tt) h k (same-line-body w (decimal m) (decimal n) x y same)

pub same-last-count : (w : List ℕ) (m n : ℕ) → m < 2 ^ 64 → n < 2 ^ 64 → named_count_line w m ≡ named_count_line w n → m ≡ n
same-last-count w m n h k same = (same-count w m n [] [] h k (ap (λ (t : List ℕ). t ++ []) same)).0

-- words, a text and a character with others, before another text
between-apart : (w b : List ℕ) (e : ℕ) (after x : List ℕ) → ((w ++ b) ++ e ∷ after) ++ x ≡ w ++ (b ++ e ∷ (after ++ x))
between-apart w b e after x = append_assoc (w ++ b) (e ∷ after) x ∙ append_assoc w b (e ∷ (after ++ x))

pub same-between : (w : List ℕ) (m n e : ℕ) (after x y : List ℕ) → e < 48 → m < 2 ^ 64 → n < 2 ^ 64
    → number_between w m (e ∷ after) ++ x ≡ number_between w n (e ∷ after) ++ y → (m ≡ n) × (x ≡ y)
same-between w m n e after x y low h k same =
    let body = append_cancel_left w (decimal m ++ e ∷ (after ++ x)) (decimal n ++ e ∷ (after ++ y))
    (sym (between-apart w (decimal m) e after x) ∙ same ∙ between-apart w (decimal n) e after y) in
    let s = same-number e m n (after ++ x) (after ++ y) low h k body in
    (s.0, append_cancel_left after x y s.1)

pub same-last-between : (after : List ℕ) (m n : ℕ) → m < 2 ^ 64 → n < 2 ^ 64 → number_between [] m after ≡ number_between [] n after → m ≡ n
same-last-between after m n h k same = decimal_injective m n h k (append_cancel_right (decimal m) (decimal n) after same)

-- ---- the last digits of numbers

same-two : (m n : ℕ) → 48 + m / 10 % 10 ≡ 48 + n / 10 % 10 → 48 + m % 10 ≡ 48 + n % 10 → m % 100 ≡ n % 100
same-two m n a b = omega (arith, a, b)

same-three : (m n : ℕ) → 48 + m / 10 / 10 % 10 ≡ 48 + n / 10 / 10 % 10 → 48 + m / 10 % 10 ≡ 48 + n / 10 % 10 → 48 + m % 10 ≡ 48 + n % 10
    → m % 1000 ≡ n % 1000
same-three m n a b c = omega (arith, a, b, c)

same-four : (m n : ℕ) → 48 + m / 10 / 10 / 10 % 10 ≡ 48 + n / 10 / 10 / 10 % 10 → 48 + m / 10 / 10 % 10 ≡ 48 + n / 10 / 10 % 10
    → 48 + m / 10 % 10 ≡ 48 + n / 10 % 10 → 48 + m % 10 ≡ 48 + n % 10 → m % 10_000 ≡ n % 10_000
same-four m n a b c d = omega (arith, a, b, c, d)

-- ---- lengths of time

seconds-apart : (m : ℕ) (x : List ℕ) → seconds_text m ++ x ≡ decimal (m / 1000) ++ 46 ∷ (last_digits 3 m ++ x)
unfolding seconds_text
seconds-apart m x = append_assoc (decimal (m / 1000)) (46 ∷ last_digits 3 m) x

same-thousandths : (m n : ℕ) (x y : List ℕ) → last_digits 3 m ++ x ≡ last_digits 3 n ++ y → (m % 1000 ≡ n % 1000) × (x ≡ y)
same-thousandths m n x y same =
    let a : 48 + m / 10 / 10 % 10 ≡ 48 + n / 10 / 10 % 10 = ap (λ (xs : List ℕ). get_or xs 0 0) same in
    let b : 48 + m / 10 % 10 ≡ 48 + n / 10 % 10 = ap (λ (xs : List ℕ). get_or xs 1 0) same in
    let c : 48 + m % 10 ≡ 48 + n % 10 = ap (λ (xs : List ℕ). get_or xs 2 0) same in
    (same-three m n a b c, ap (drop 3) same)

whole-from-parts : (m n : ℕ) → m / 1000 ≡ n / 1000 → m % 1000 ≡ n % 1000 → m ≡ n
whole-from-parts m n a b = omega (arith, a, b)

thousandth-fits : (m : ℕ) → m < 2 ^ 64 → m / 1000 < 2 ^ 64
thousandth-fits m h = omega arith

pub same-seconds : (m n : ℕ) (x y : List ℕ) → m < 2 ^ 64 → n < 2 ^ 64 → seconds_text m ++ x ≡ seconds_text n ++ y → (m ≡ n) × (x ≡ y)
same-seconds m n x y h k same =
    let s = same-number 46 (m / 1000) (n / 1000) (last_digits 3 m ++ x) (last_digits 3 n ++ y) (lit< tt) (thousandth-fits m h) (thousandth-fits n k)
    (sym (seconds-apart m x) ∙ same ∙ seconds-apart n y) in
    let ms = same-thousandths m n x y s.1 in
    (whole-from-parts m n s.0 ms.0, ms.1)

-- ---- the interval

abbrev pub Fits : Option ℕ → Type 0
Fits i = (ms : ℕ) → i ≡ Some ms → ms < 2 ^ 64

-- texts that begin with the same character
first-of : (x y : List ℕ) → x ≡ y → get_or x 0 0 ≡ get_or y 0 0
first-of x y same = ap (λ (xs : List ℕ). get_or xs 0 0) same

apart_5 : (a b c d e x : List ℕ) → ((((a ++ b) ++ c) ++ d) ++ e) ++ x ≡ a ++ (b ++ (c ++ (d ++ (e ++ x))))
apart_5 a b c d e x = simp append_assoc

interval-lines-apart : (m b : ℕ) (x : List ℕ) → interval_lines (Some m) b ++ x ≡ codes "interval " ++ (seconds_text m ++ 10 ∷ (codes "column " ++ (seconds_text b ++ 10 ∷ x)))
unfolding interval_lines
interval-lines-apart m b x = apart_5 (codes "interval ") (seconds_text m) (codes "\ncolumn ") (seconds_text b) (10 ∷ []) x

no-interval-lines : (b : ℕ) (x : List ℕ) → interval_lines None b ++ x ≡ x
unfolding interval_lines
no-interval-lines b x = refl

-- what a heading tells of the interval and the bins; what follows begins with an r
pub same-interval : (i j : Option ℕ) (b c : ℕ) (x y : List ℕ) → Fits i → Fits j → b < 2 ^ 64 → c < 2 ^ 64 → get_or x 0 0 ≡ 114 → get_or y 0 0 ≡ 114
    → interval_lines i b ++ x ≡ interval_lines j c ++ y → (i ≡ j) × HaveSameBins i b c × (x ≡ y)
same-interval None None b c x y h k hb hc fx fy same = (refl, tt, sym (no-interval-lines b x) ∙ same ∙ no-interval-lines c y)
same-interval None (Some n) b c x y h k hb hc fx fy same =
    absurd (let first = first-of x _ (sym (no-interval-lines b x) ∙ same ∙ interval-lines-apart n c y) in omega (arith, first, fx))
same-interval (Some m) None b c x y h k hb hc fx fy same =
    absurd (let first = first-of y _ (sym (no-interval-lines c y) ∙ sym same ∙ interval-lines-apart m b x) in omega (arith, first, fy))
same-interval (Some m) (Some n) b c x y h k hb hc fx fy same =
    let s = same-seconds m n (10 ∷ (codes "column " ++ (seconds_text b ++ 10 ∷ x))) (10 ∷ (codes "column " ++ (seconds_text c ++ 10 ∷ y))) (h m refl) (k n refl)
    (ap (drop 9) (sym (interval-lines-apart m b x) ∙ same ∙ interval-lines-apart n c y)) in
    let t = same-seconds b c (10 ∷ x) (10 ∷ y) hb hc (ap (drop 8) s.1) in
    (ap (λ (ms : ℕ). Some ms) s.0, t.0, ap (drop 1) t.1)

interval-text-apart : (m b : ℕ) (x : List ℕ) → interval_text (Some m) b ++ x ≡ codes ", interval " ++ (seconds_text m ++ 32 ∷ (codes "s, column " ++ (seconds_text b ++ 32 ∷ 115 ∷ x)))
interval-text-apart m b x = apart_5 (codes ", interval ") (seconds_text m) (codes " s, column ") (seconds_text b) (codes " s") x

-- the same in SVG, where what follows begins with an end of markup
pub same-interval-text : (i j : Option ℕ) (b c : ℕ) (x y : List ℕ) → Fits i → Fits j → b < 2 ^ 64 → c < 2 ^ 64 → get_or x 0 0 ≡ 60 → get_or y 0 0 ≡ 60
    → interval_text i b ++ x ≡ interval_text j c ++ y → (i ≡ j) × HaveSameBins i b c × (x ≡ y)
same-interval-text None None b c x y h k hb hc fx fy same = (refl, tt, same)
same-interval-text None (Some n) b c x y h k hb hc fx fy same =
    absurd (let first = first-of x _ (same ∙ interval-text-apart n c y) in omega (arith, first, fx))
same-interval-text (Some m) None b c x y h k hb hc fx fy same =
    absurd (let first = first-of y _ (sym same ∙ interval-text-apart m b x) in omega (arith, first, fy))
same-interval-text (Some m) (Some n) b c x y h k hb hc fx fy same =
    let s = same-seconds m n (32 ∷ (codes "s, column " ++ (seconds_text b ++ 32 ∷ 115 ∷ x))) (32 ∷ (codes "s, column " ++ (seconds_text c ++ 32 ∷ 115 ∷ y))) (h m refl) (k n refl)
    (ap (drop 11) (sym (interval-text-apart m b x) ∙ same ∙ interval-text-apart n c y)) in
    let t = same-seconds b c (32 ∷ 115 ∷ x) (32 ∷ 115 ∷ y) hb hc (ap (drop 11) s.1) in
    (ap (λ (ms : ℕ). Some ms) s.0, t.0, ap (drop 2) t.1)

-- ---- moments

-- two readings with the same digits
record SameDigits (c d : Civil) : Type 0 where
  year : c.year % 10_000 ≡ d.year % 10_000
  month : c.month % 100 ≡ d.month % 100
  day : c.day % 100 ≡ d.day % 100
  hour : c.hour % 100 ≡ d.hour % 100
  minute : c.minute % 100 ≡ d.minute % 100
  second : c.second % 100 ≡ d.second % 100
  millisecond : c.millisecond % 1000 ≡ d.millisecond % 1000

same-digits : (c d : Civil) (x y : List ℕ) → civil_text c ++ x ≡ civil_text d ++ y → SameDigits c d × (x ≡ y)
unfolding civil_text date_text clock_text
same-digits c d x y same = (
  record {
    year = same-four c.year d.year (ap (λ (xs : List ℕ). get_or xs 0 0) same) (ap (λ (xs : List ℕ). get_or xs 1 0) same) (ap (λ (xs : List ℕ). get_or xs 2 0) same) (ap (λ (xs : List ℕ). get_or xs 3 0) same);
    month = same-two c.month d.month (ap (λ (xs : List ℕ). get_or xs 5 0) same) (ap (λ (xs : List ℕ). get_or xs 6 0) same);
    day = same-two c.day d.day (ap (λ (xs : List ℕ). get_or xs 8 0) same) (ap (λ (xs : List ℕ). get_or xs 9 0) same);
    hour = same-two c.hour d.hour (ap (λ (xs : List ℕ). get_or xs 11 0) same) (ap (λ (xs : List ℕ). get_or xs 12 0) same);
    minute = same-two c.minute d.minute (ap (λ (xs : List ℕ). get_or xs 14 0) same) (ap (λ (xs : List ℕ). get_or xs 15 0) same);
    second = same-two c.second d.second (ap (λ (xs : List ℕ). get_or xs 17 0) same) (ap (λ (xs : List ℕ). get_or xs 18 0) same);
    millisecond = same-three c.millisecond d.millisecond (ap (λ (xs : List ℕ). get_or xs 20 0) same) (ap (λ (xs : List ℕ). get_or xs 21 0) same) (ap (λ (xs : List ℕ). get_or xs 22 0) same);
  },
  ap (drop 23) same,
)

abbrev civil_with : ℕ → ℕ → ℕ → ℕ → ℕ → ℕ → ℕ → Civil
civil_with y m d h i s f = record { year = y; month = m; day = d; hour = h; minute = i; second = s; millisecond = f }

same_parts : (y m d h i s f y₂ m₂ d₂ h₂ i₂ s₂ f₂ : ℕ) → y ≡ y₂ → m ≡ m₂ → d ≡ d₂ → h ≡ h₂ → i ≡ i₂ → s ≡ s₂ → f ≡ f₂
    → civil_with y m d h i s f ≡ civil_with y₂ m₂ d₂ h₂ i₂ s₂ f₂
same_parts y m d h i s f y₂ m₂ d₂ h₂ i₂ s₂ f₂ e₁ e₂ e₃ e₄ e₅ e₆ e₇ = cc

same_civil : (c d : Civil) → c.year ≡ d.year → c.month ≡ d.month → c.day ≡ d.day → c.hour ≡ d.hour → c.minute ≡ d.minute
    → c.second ≡ d.second → c.millisecond ≡ d.millisecond → c ≡ d
same_civil c d year month day hour minute second millisecond =
    same_parts c.year c.month c.day c.hour c.minute c.second c.millisecond d.year d.month d.day d.hour d.minute d.second d.millisecond
    year month day hour minute second millisecond

low-year : (n : ℕ) → pos n ≤ℤ pos 9999 → n < 10_000
low-year n h = omega (arith, ints, h)

few-days : (d : ℕ) (a b e : Bool) → d ≤ cond a (cond b 29 28) (cond e 30 31) → d < 100
few-days d true true e h = omega (arith, h)
few-days d true false e h = omega (arith, h)
few-days d false b true h = omega (arith, h)
few-days d false b false h = omega (arith, h)

below : (m n b : ℕ) → b ≤ 100 → m < b → n < b → m % 100 ≡ n % 100 → m ≡ n
below m n b few h k same = omega (arith, few, h, k, same)

at-most : (m n b : ℕ) → b < 100 → m ≤ b → n ≤ b → m % 100 ≡ n % 100 → m ≡ n
at-most m n b few h k same = omega (arith, few, h, k, same)

years : (m n : ℕ) → m < 10_000 → n < 10_000 → m % 10_000 ≡ n % 10_000 → m ≡ n
years m n h k same = omega (arith, h, k, same)

thousandths : (m n : ℕ) → m < 1000 → n < 1000 → m % 1000 ≡ n % 1000 → m ≡ n
thousandths m n h k same = omega (arith, h, k, same)

same-reading : (c d : Civil) (t u : ℕ) → ReadsAs t c → ReadsAs u d → SameDigits c d → c ≡ d
same-reading c d t u p q same =
    same_civil c d (years c.year d.year (low-year c.year p.0.0.0.1) (low-year d.year q.0.0.0.1) same.year)
    (at-most c.month d.month 12 (lit< tt) p.0.0.1.1 q.0.0.1.1 same.month)
    (below c.day d.day 100 (lit≤ tt) (few-days c.day _ _ _ p.0.0.2.1) (few-days d.day _ _ _ q.0.0.2.1) same.day)
    (below c.hour d.hour 24 (lit≤ tt) p.1.0 q.1.0 same.hour)
    (below c.minute d.minute 60 (lit≤ tt) p.1.1 q.1.1 same.minute)
    (below c.second d.second 60 (lit≤ tt) p.1.2 q.1.2 same.second)
    (thousandths c.millisecond d.millisecond p.1.3 q.1.3 same.millisecond)

pub same-moment : (t u : ℕ) (x y : List ℕ) → ReadsAs t (reading_of t) → ReadsAs u (reading_of u)
    → civil_text (reading_of t) ++ x ≡ civil_text (reading_of u) ++ y → (t ≡ u) × (x ≡ y)
same-moment t u x y p q same =
    let s = same-digits (reading_of t) (reading_of u) x y same in
    let r = same-reading (reading_of t) (reading_of u) t u p q s.0 in
    (one_moment t u (reading_of t) p (subst (λ (c : Civil). ReadsAs u c) (sym r) q), s.1)

-- words, a moment and other words, before another text
moment-apart : (w b after x : List ℕ) → ((w ++ b) ++ after) ++ x ≡ w ++ (b ++ (after ++ x))
moment-apart w b after x = append_assoc (w ++ b) after x ∙ append_assoc w b (after ++ x)

pub same-moment-line : (w : List ℕ) (t u : ℕ) (x y : List ℕ) → ReadsAs t (reading_of t) → ReadsAs u (reading_of u)
    → moment_line w t ++ x ≡ moment_line w u ++ y → (t ≡ u) × (x ≡ y)
same-moment-line w t u x y p q same =
    let after : List ℕ = codes " GPS time\n" in
    let s = same-moment t u (after ++ x) (after ++ y) p q
    (append_cancel_left w (civil_text (reading_of t) ++ (after ++ x)) (civil_text (reading_of u) ++ (after ++ y))
    (sym (moment-apart w (civil_text (reading_of t)) after x) ∙ same ∙ moment-apart w (civil_text (reading_of u)) after y)) in
    (s.0, append_cancel_left after x y s.1)

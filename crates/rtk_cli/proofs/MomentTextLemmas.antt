-- The digits of a reading's text, and the reading that they are of.
use Rattle.std.proofs.Common.{◌≡◌, ℕ, ◌+◌, ◌*◌, ◌/◌, ◌%◌, ◌<◌, ◌≤◌, List, get_or, arith, sym, ap, subst, ◌∙◌, Option, None, Some, MatchOption}
use Rattle.rtk_obs.specs.declared.time.TheConstants.{LAST_MS}
use Rattle.rtk_obs.specs.Calendar.{ReadsAs}
use Rattle.rtk_obs.specs.declared.time.Civil.{Civil}
use Rattle.rtk_cli.specs.Steps.MomentText.{moment_text, HasDigits, WritesMoment, HasMoment}

-- what two digits are read as
abbrev pub IsRead : ℕ → ℕ → ℕ → Type 0
IsRead tens ones read = (n : ℕ) → n < 100 → tens ≡ 48 + n / 10 % 10 → ones ≡ 48 + n % 10 → read ≡ n

two-same : (n m : ℕ) → n < 100 → m < 100 → 48 + n / 10 % 10 ≡ 48 + m / 10 % 10 → 48 + n % 10 ≡ 48 + m % 10 → n ≡ m
two-same n m few less tens ones = omega (arith, few, less, tens, ones)

four-same : (n m : ℕ) → n < 10_000 → m < 10_000 → 48 + n / 10 / 10 / 10 % 10 ≡ 48 + m / 10 / 10 / 10 % 10
    → 48 + n / 10 / 10 % 10 ≡ 48 + m / 10 / 10 % 10 → 48 + n / 10 % 10 ≡ 48 + m / 10 % 10 → 48 + n % 10 ≡ 48 + m % 10 → n ≡ m
four-same n m few less a b c d = omega (arith, few, less, a, b, c, d)

abbrev civil_with : ℕ → ℕ → ℕ → ℕ → ℕ → ℕ → ℕ → Civil
civil_with y m d h i s f = record { year = y; month = m; day = d; hour = h; minute = i; second = s; millisecond = f }

same_parts : (y m d h i s f y₂ m₂ d₂ h₂ i₂ s₂ f₂ : ℕ) → y ≡ y₂ → m ≡ m₂ → d ≡ d₂ → h ≡ h₂ → i ≡ i₂ → s ≡ s₂ → f ≡ f₂
    → civil_with y m d h i s f ≡ civil_with y₂ m₂ d₂ h₂ i₂ s₂ f₂
same_parts y m d h i s f y₂ m₂ d₂ h₂ i₂ s₂ f₂ e₁ e₂ e₃ e₄ e₅ e₆ e₇ = cc

-- one text has one reading
pub one-reading : (c d : Civil) → HasDigits c → HasDigits d → moment_text c ≡ moment_text d → c ≡ d
one-reading c d h k e =
    let at : (i : ℕ) → get_or (moment_text c) i 0 ≡ get_or (moment_text d) i 0 = λ i. ap (λ (text : List ℕ). get_or text i 0) e in
    same_parts c.year c.month c.day c.hour c.minute c.second c.millisecond d.year d.month d.day d.hour d.minute d.second d.millisecond
    (four-same c.year d.year h.0 k.0 (at 0) (at 1) (at 2) (at 3))
    (two-same c.month d.month h.1 k.1 (at 5) (at 6))
    (two-same c.day d.day h.2 k.2 (at 8) (at 9))
    (two-same c.hour d.hour h.3 k.3 (at 11) (at 12))
    (two-same c.minute d.minute h.4 k.4 (at 14) (at 15))
    (two-same c.second d.second h.5 k.5 (at 17) (at 18))
    (h.6 ∙ sym k.6)

-- the reading of the digits of a reading's text is that reading
pub reads-back : (text : List ℕ) (century rest month day hour minute second : ℕ)
    → IsRead (get_or text 0 0) (get_or text 1 0) century → IsRead (get_or text 2 0) (get_or text 3 0) rest
    → IsRead (get_or text 5 0) (get_or text 6 0) month → IsRead (get_or text 8 0) (get_or text 9 0) day
    → IsRead (get_or text 11 0) (get_or text 12 0) hour → IsRead (get_or text 14 0) (get_or text 15 0) minute
    → IsRead (get_or text 17 0) (get_or text 18 0) second
    → (c : Civil) → HasDigits c → text ≡ moment_text c
    → civil_with (century * 100 + rest) month day hour minute second 0 ≡ c
reads-back text century rest month day hour minute second r₀ r₁ r₂ r₃ r₄ r₅ r₆ c h e =
    let at : (i : ℕ) → get_or text i 0 ≡ get_or (moment_text c) i 0 = λ i. ap (λ (t : List ℕ). get_or t i 0) e in
    let high : century ≡ c.year / 100 = r₀ (c.year / 100) (omega (arith, h.0)) (at 0 ∙ omega arith) (at 1 ∙ omega arith) in
    let low : rest ≡ c.year % 100 = r₁ (c.year % 100) (omega arith) (at 2 ∙ omega arith) (at 3 ∙ omega arith) in
    same_parts (century * 100 + rest) month day hour minute second 0 c.year c.month c.day c.hour c.minute c.second c.millisecond
    (omega (arith, high, low))
    (r₂ c.month h.1 (at 5) (at 6)) (r₃ c.day h.2 (at 8) (at 9)) (r₄ c.hour h.3 (at 11) (at 12))
    (r₅ c.minute h.4 (at 14) (at 15)) (r₆ c.second h.5 (at 17) (at 18)) (sym h.6)

written-once : (text : List ℕ) (r : Civil) → HasDigits r → text ≡ moment_text r → (t : ℕ) → WritesMoment text t → ReadsAs t r
written-once text r h e t (c, reads, k, f) = subst (λ (x : Civil). ReadsAs t x) (one-reading c r k h (sym f ∙ e)) reads

-- a text writes the moment of its date and time
pub writes : (o : Option ℕ) (text : List ℕ) (r : Civil) → HasDigits r → text ≡ moment_text r
    → MatchOption o ((t : ℕ) → t ≤ LAST_MS → ¬ (ReadsAs t r)) (λ t. ReadsAs t r)
    → MatchOption o ((t : ℕ) → t ≤ LAST_MS → ¬ (WritesMoment text t)) (λ t. WritesMoment text t)
writes None text r h e none = λ t late w. none t late (written-once text r h e t w)
writes (Some t) text r h e reads = (r, reads, h, e)

-- a text that is the same writes no moment either
pub no-moment : (written text : List ℕ) → text ≡ written → ((t : ℕ) → t ≤ LAST_MS → ¬ (WritesMoment text t)) → ¬ (HasMoment written)
no-moment written text same none (t, within, writes) = none t within (subst (λ (x : List ℕ). WritesMoment x t) (sym same) writes)

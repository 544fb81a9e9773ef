-- The lines of a summary tell their numbers.
use Rattle.std.proofs.Common.{◌≡◌, ◌≢◌, ◌≤◌, ◌<◌, ◌^◌, ◌==◌, ℕ, Bool, true, false, cond, not, ◌&&◌, List, [], ◌∷◌, ◌++◌, length, length-append, codes, decimal, Option, None, Some, refl, sym, ap, ◌∙◌, append_assoc, inl, inr, arith}
use Rattle.std.specs.Prelude.{unwrap_or}
use Rattle.std.specs.Fmt.{digits}
use Rattle.std.specs.List.{AllByRecursion}
use Rattle.std.specs.Str.Parse.{AllDigits}
use Rattle.std.proofs.Math.Nat.{eq-zero-or-pos}
use Rattle.std.proofs.lemmas.Bool.{cases_Bool}
use Rattle.std.proofs.lemmas.Fmt.{decimal_is_IsNumeral}
use Rattle.std.proofs.lemmas.List.{append-nil, append_cancel_left}
use Rattle.std.proofs.lemmas.Str.Parse.{digit_from_value}
use Rattle.rtk_message.specs.declared.msm_kind.MsmKind.{MsmKind}
use Rattle.rtk_message.specs.declared.msm_kind.MsmKind.TheVariants.{Msm4, Msm5, Msm6, Msm7}
use Rattle.rtk_message.specs.Systems.{number_of_kind}
use Rattle.rtk_obs.specs.declared.code.Code.TheVariants.{G2P, G2W}
use Rattle.rtk_survey.specs.Counting.{shown_count}
use Rattle.rtk_survey.specs.NumberLaws.{IsHeld, NumberLineTells, CountedLineTells, NumberedLineTells, TimesAreAlike, TimeLinesTell, ProposalLinesTell, EpochsAreCounted}
use Rattle.rtk_survey.specs.Proposal.{proposed}
use Rattle.rtk_survey.specs.SummaryText.{number_line, counted_line, numbered_line, time_line, time_lines, second_frequency_line, other_msm_lines, words_text, auto_line, next_lines, proposal_lines, all_codes_text}
use Rattle.rtk_survey.specs.Tracing.{oldest_time, newest_time, change_from, changes_in}
use Rattle.rtk_message.proofs.PublicLaws.{number-then}
use Rattle.rtk_survey.proofs.HeadLemmas.{AreApart, apart, IsNotHeaded, not-headed-table, line-then, some-then, lines_by_number, words_of, NumbersRise, table-then, opened}

-- ---- a line

pub number-tells : NumberLineTells
number-tells words m n held fits same =
    (line-then words m n [] [] held fits (append-nil (number_line words m) ∙ same ∙ sym (append-nil (number_line words n)))).0

-- a count above 0 has a line
not-empty : (words : List ℕ) (n : ℕ) → 0 < n → counted_line words n ≡ [] → ⊥
not-empty words n some empty =
    let text : [] ≡ words ++ (decimal n ++ 10 ∷ []) = sym (ap (λ (t : List ℕ). t ++ []) empty) ∙ some-then words n [] some in
    omega (arith, ap (λ (t : List ℕ). length t) text, length-append words (decimal n ++ 10 ∷ []), length-append (decimal n) (10 ∷ []))

both-some : (words other : List ℕ) (m n : ℕ) → 0 < m → 0 < n → counted_line words m ≡ counted_line other n → words ++ (decimal m ++ 10 ∷ []) ≡ other ++ (decimal n ++ 10 ∷ [])
both-some words other m n some more same = sym (some-then words m [] some) ∙ ap (λ (t : List ℕ). t ++ []) same ∙ some-then other n [] more

pub counted-tells : CountedLineTells
counted-tells words m n held fits same = elim (eq-zero-or-pos m) [
  | inl none ↦ elim (eq-zero-or-pos n) [
    | inl nil ↦ none ∙ sym nil
    | inr some ↦ absurd (not-empty words n some (sym same ∙ ap (λ (k : ℕ). counted_line words k) none))
  ]
  | inr some ↦ elim (eq-zero-or-pos n) [
    | inl nil ↦ absurd (not-empty words m some (same ∙ ap (λ (k : ℕ). counted_line words k) nil))
    | inr more ↦ (number-then m n 10 [] [] held fits (λ digit. omega (arith, digit))
        (append_cancel_left words (decimal m ++ 10 ∷ []) (decimal n ++ 10 ∷ []) (both-some words words m n some more same))).0
  ]
]

pub numbered-tells : NumberedLineTells
numbered-tells words number other m n named known held fits same = elim (eq-zero-or-pos m) [
  | inl none ↦ elim (eq-zero-or-pos n) [
    | inl nil ↦ (none ∙ sym nil, λ some. absurd (omega (arith, none, some)))
    | inr some ↦ absurd (not-empty (words_of words other) n some (sym same ∙ ap (λ (k : ℕ). numbered_line words number k) none))
  ]
  | inr some ↦ elim (eq-zero-or-pos n) [
    | inl nil ↦ absurd (not-empty (words_of words number) m some (same ∙ ap (λ (k : ℕ). numbered_line words other k) nil))
    | inr more ↦
        let here : List ℕ = decimal m ++ 10 ∷ [] in
        let there : List ℕ = decimal n ++ 10 ∷ [] in
        let text = sym (opened words (decimal number) here 32) ∙ both-some (words_of words number) (words_of words other) m n some more same ∙ opened words (decimal other) there 32 in
        let numbers = number-then number other 32 here there named known (λ digit. omega (arith, digit)) (append_cancel_left words (decimal number ++ 32 ∷ here) (decimal other ++ 32 ∷ there) text) in
        ((number-then m n 10 [] [] held fits (λ digit. omega (arith, digit)) numbers.1).0, λ some. numbers.0)
  ]
]

-- ---- times

no-hyphen : (ds s t : List ℕ) → 0 < length ds → AllDigits 10 ds → ds ++ s ≡ 45 ∷ t → ⊥
no-hyphen [] s t some digits is = omega (arith, some)
no-hyphen (d ∷ ds) s t some digits is =
    let first : d ≡ 45 = cc in
    let digit = digit_from_value d digits.0 in
    omega (arith, first, digit)

number-no-hyphen : (n : ℕ) (s t : List ℕ) → n < 2 ^ 64 → decimal n ++ s ≡ 45 ∷ t → ⊥
number-no-hyphen n s t held is = let numeral = decimal_is_IsNumeral n held in no-hyphen (decimal n) s t numeral.0.0 numeral.0.1 is

times-regrouped : (w a b v s : List ℕ) → ((w ++ a ++ (32 ∷ []) ++ b ++ 10 ∷ []) ++ v) ++ s ≡ w ++ (a ++ 32 ∷ (b ++ 10 ∷ (v ++ s)))
times-regrouped w a b v s = simp append_assoc

-- the lines of some times
some-times : (first last changes : ℕ) (s : List ℕ) → (time_line (Some first) (Some last) ++ number_line (codes " changes-of-time ") changes) ++ s
    ≡ codes " time-of-week " ++ (decimal first ++ 32 ∷ (decimal last ++ 10 ∷ (number_line (codes " changes-of-time ") changes ++ s)))
some-times first last changes s = times-regrouped (codes " time-of-week ") (decimal first) (decimal last) (number_line (codes " changes-of-time ") changes) s

no-times : (s : List ℕ) → time_lines [] ++ s ≡ codes " time-of-week " ++ (45 ∷ 10 ∷ (number_line (codes " changes-of-time ") 0 ++ s))
no-times s = refl

change-one : (before : Option ℕ) (t : ℕ) → change_from before t ≤ 1
change-one None t = omega arith
change-one (Some b) t = elim (cases_Bool (b == t)) [
  | inl is ↦ rw is (omega arith)
  | inr fails ↦ rw fails (omega arith)
]

changes-few : (ts : List ℕ) → changes_in ts ≤ length ts
changes-few [] = omega arith
changes-few (t ∷ before) =
    let few = changes-few before in
    let one = change-one (newest_time before) t in
    omega (arith, few, one)

oldest-held : (ts : List ℕ) (t : ℕ) → IsHeld t → AllByRecursion IsHeld ts → IsHeld (unwrap_or (oldest_time ts) t)
oldest-held [] t held all = held
oldest-held (u ∷ before) t held all = oldest-held before u all.0 all.1

pub times-then : (ts us s t : List ℕ) → AllByRecursion IsHeld ts → AllByRecursion IsHeld us → IsHeld (length ts) → IsHeld (length us)
    → time_lines ts ++ s ≡ time_lines us ++ t → TimesAreAlike ts us × (s ≡ t)
times-then [] [] s t held fits few less same =
    (record { first = refl; last = refl; changes = refl }, append_cancel_left (time_lines []) s t same)
times-then [] (u ∷ us) s t held fits few less same =
    absurd (number-no-hyphen (unwrap_or (oldest_time us) u) _ _ (oldest-held us u fits.0 fits.1)
    (append_cancel_left (codes " time-of-week ") _ _ (sym (some-times (unwrap_or (oldest_time us) u) u (shown_count (changes_in (u ∷ us))) t) ∙ sym same ∙ no-times s)))
times-then (b ∷ ts) [] s t held fits few less same =
    absurd (number-no-hyphen (unwrap_or (oldest_time ts) b) _ _ (oldest-held ts b held.0 held.1)
    (append_cancel_left (codes " time-of-week ") _ _ (sym (some-times (unwrap_or (oldest_time ts) b) b (shown_count (changes_in (b ∷ ts))) s) ∙ same ∙ no-times t)))
times-then (b ∷ ts) (u ∷ us) s t held fits few less same =
    let a : ℕ = unwrap_or (oldest_time ts) b in
    let o : ℕ = unwrap_or (oldest_time us) u in
    let m : ℕ = shown_count (changes_in (b ∷ ts)) in
    let n : ℕ = shown_count (changes_in (u ∷ us)) in
    let first = number-then a o 32 (decimal b ++ 10 ∷ (number_line (codes " changes-of-time ") m ++ s)) (decimal u ++ 10 ∷ (number_line (codes " changes-of-time ") n ++ t))
    (oldest-held ts b held.0 held.1) (oldest-held us u fits.0 fits.1) (λ digit. omega (arith, digit))
    (append_cancel_left (codes " time-of-week ") _ _ (sym (some-times a b m s) ∙ same ∙ some-times o u n t)) in
    let last = number-then b u 10 (number_line (codes " changes-of-time ") m ++ s) (number_line (codes " changes-of-time ") n ++ t) held.0 fits.0 (λ digit. omega (arith, digit)) first.1 in
    let changes = line-then (codes " changes-of-time ") m n s t (omega arith) (omega arith) last.1 in
    let here = changes-few (b ∷ ts) in
    let there = changes-few (u ∷ us) in
    (record { first = ap Some first.0; last = ap Some last.0; changes = omega (arith, changes.0, here, there, few, less) }, changes.1)

pub times-tell : TimeLinesTell
times-tell ts us held fits few less same =
    (times-then ts us [] [] held fits few less (append-nil (time_lines ts) ∙ same ∙ sym (append-nil (time_lines us)))).0

pub not-headed-times : (w ts s : List ℕ) → AreApart w (codes " time-of-week ") → IsNotHeaded w (time_lines ts ++ s)
not-headed-times w [] s other = λ rest is. other rest (45 ∷ 10 ∷ (number_line (codes " changes-of-time ") 0 ++ s)) (sym is ∙ no-times s)
not-headed-times w (b ∷ ts) s other =
    let a : ℕ = unwrap_or (oldest_time ts) b in
    let m : ℕ = shown_count (changes_in (b ∷ ts)) in
    λ rest is. other rest (decimal a ++ 32 ∷ (decimal b ++ 10 ∷ (number_line (codes " changes-of-time ") m ++ s))) (sym is ∙ some-times a b m s)

-- ---- a proposal

kind_at : ℕ → MsmKind
kind_at n = cond (n == 1074) Msm4 (cond (n == 1075) Msm5 (cond (n == 1076) Msm6 Msm7))

-- the numbers of the other MSM
numbers_but : MsmKind → List ℕ
numbers_but Msm4 = 1075 ∷ 1076 ∷ 1077 ∷ []
numbers_but Msm5 = 1074 ∷ 1076 ∷ 1077 ∷ []
numbers_but Msm6 = 1074 ∷ 1075 ∷ 1077 ∷ []
numbers_but Msm7 = 1074 ∷ 1075 ∷ 1076 ∷ []

numbers-rise : (named : MsmKind) → NumbersRise (numbers_but named)
unfolding numbers_but
numbers-rise Msm4 = (omega arith, omega arith, (omega arith, omega arith, (omega arith, tt, tt)))
numbers-rise Msm5 = (omega arith, omega arith, (omega arith, omega arith, (omega arith, tt, tt)))
numbers-rise Msm6 = (omega arith, omega arith, (omega arith, omega arith, (omega arith, tt, tt)))
numbers-rise Msm7 = (omega arith, omega arith, (omega arith, omega arith, (omega arith, tt, tt)))

without-first : (a b c : List ℕ) → a ++ b ++ c ≡ a ++ (b ++ (c ++ []))
without-first a b c = simp (append_assoc, append-nil)

without-second : (a b c : List ℕ) → a ++ [] ++ b ++ c ≡ a ++ (b ++ (c ++ []))
without-second a b c = simp (append_assoc, append-nil)

without-third : (a b c : List ℕ) → a ++ b ++ [] ++ c ≡ a ++ (b ++ (c ++ []))
without-third a b c = simp (append_assoc, append-nil)

without-last : (a b c : List ℕ) → a ++ b ++ c ++ [] ≡ a ++ (b ++ (c ++ []))
without-last a b c = simp (append_assoc, append-nil)

msm_line : (MsmKind → ℕ) → ℕ → List ℕ
msm_line epochs n = numbered_line (codes " other-msm ") n (epochs (kind_at n))

others-are : (epochs : MsmKind → ℕ) (named : MsmKind) → other_msm_lines epochs named ≡ lines_by_number (codes " other-msm ") (λ n. epochs (kind_at n)) (numbers_but named)
unfolding other_msm_lines numbers_but kind_at msm_line
others-are epochs Msm4 = without-first (msm_line epochs 1075) (msm_line epochs 1076) (msm_line epochs 1077)
others-are epochs Msm5 = without-second (msm_line epochs 1074) (msm_line epochs 1076) (msm_line epochs 1077)
others-are epochs Msm6 = without-third (msm_line epochs 1074) (msm_line epochs 1075) (msm_line epochs 1077)
others-are epochs Msm7 = without-last (msm_line epochs 1074) (msm_line epochs 1075) (msm_line epochs 1076)

-- an equation for each of the other numbers is one for each other kind
each-kind : (epochs others : MsmKind → ℕ) (named kind : MsmKind) → AllByRecursion (λ n. epochs (kind_at n) ≡ others (kind_at n)) (numbers_but named)
    → number_of_kind kind ≢ number_of_kind named → epochs kind ≡ others kind
unfolding numbers_but kind_at
each-kind epochs others Msm4 Msm4 all other = absurd (other refl)
each-kind epochs others Msm4 Msm5 all other = all.0
each-kind epochs others Msm4 Msm6 all other = all.1.0
each-kind epochs others Msm4 Msm7 all other = all.1.1.0
each-kind epochs others Msm5 Msm4 all other = all.0
each-kind epochs others Msm5 Msm5 all other = absurd (other refl)
each-kind epochs others Msm5 Msm6 all other = all.1.0
each-kind epochs others Msm5 Msm7 all other = all.1.1.0
each-kind epochs others Msm6 Msm4 all other = all.0
each-kind epochs others Msm6 Msm5 all other = all.1.0
each-kind epochs others Msm6 Msm6 all other = absurd (other refl)
each-kind epochs others Msm6 Msm7 all other = all.1.1.0
each-kind epochs others Msm7 Msm4 all other = all.0
each-kind epochs others Msm7 Msm5 all other = all.1.0
each-kind epochs others Msm7 Msm6 all other = all.1.1.0
each-kind epochs others Msm7 Msm7 all other = absurd (other refl)

not-headed-next : (w name near : List ℕ) (station : ℕ) (options names : List ℕ) → AreApart w (codes " next ") → IsNotHeaded w [] → IsNotHeaded w (next_lines name near station options names)
not-headed-next w name near station options [] other end = end
not-headed-next w name near station options (x ∷ xs) other end = λ rest is. other rest _ (sym is)

next-regrouped : (a d b n w o : List ℕ) → a ++ d ++ b ++ n ++ w ++ o ≡ a ++ (d ++ (b ++ (n ++ (w ++ o))))
next-regrouped a d b n w o = simp append_assoc

next-opened : (name near : List ℕ) (station : ℕ) (options : List ℕ) (x : ℕ) (xs : List ℕ) → next_lines name near station options (x ∷ xs)
    ≡ codes " next rtcm2rinex convert --station " ++ (decimal station ++ (codes " --near " ++ (near ++ (words_text name station options (x ∷ xs) ++ auto_line name station))))
next-opened name near station options x xs =
    next-regrouped (codes " next rtcm2rinex convert --station ") (decimal station) (codes " --near ") near (words_text name station options (x ∷ xs)) (auto_line name station)

next-tells : (name near other_name other_near : List ℕ) (station other : ℕ) (options choices names others : List ℕ) → IsHeld station → IsHeld other
    → next_lines name near station options names ≡ next_lines other_name other_near other choices others → names ≢ [] → station ≡ other
next-tells name near other_name other_near station other options choices [] others held fits same some = absurd (some refl)
next-tells name near other_name other_near station other options choices (x ∷ xs) [] held fits same some = cc
next-tells name near other_name other_near station other options choices (x ∷ xs) (y ∷ ys) held fits same some =
    (number-then station other 32 _ _ held fits (λ digit. omega (arith, digit))
    (append_cancel_left (codes " next rtcm2rinex convert --station ") _ _ (sym (next-opened name near station options x xs) ∙ same ∙ next-opened other_name other_near other choices y ys))).0

-- a line that may be left out
line-or-none : (b c : Bool) (words s t : List ℕ) → IsNotHeaded words s → IsNotHeaded words t → cond b words [] ++ s ≡ cond c words [] ++ t → s ≡ t
line-or-none true true words s t here there same = append_cancel_left words s t same
line-or-none true false words s t here there same = absurd (there s (sym same))
line-or-none false true words s t here there same = absurd (here t same)
line-or-none false false words s t here there same = same

pub proposal-tells : ProposalLinesTell
unfolding proposal_lines
proposal-tells name names_there near far station other epochs others code test beside tested options choices held fits few less named same =
    let kind : MsmKind = proposed epochs in
    let names : List ℕ = all_codes_text (code kind) beside in
    let named_there : List ℕ = all_codes_text (test kind) tested in
    let f : ℕ → ℕ = λ n. epochs (kind_at n) in
    let g : ℕ → ℕ = λ n. others (kind_at n) in
    let left : List ℕ = next_lines name near station (options kind) names in
    let right : List ℕ = next_lines names_there far other (choices kind) named_there in
    let lines : List ℕ = lines_by_number (codes " other-msm ") f (numbers_but kind) in
    let more : List ℕ = lines_by_number (codes " other-msm ") g (numbers_but kind) in
    let here : proposal_lines name near station epochs code beside options ≡ second_frequency_line (code kind) ++ (lines ++ left) =
    ap (λ (t : List ℕ). second_frequency_line (code kind) ++ t ++ left) (others-are epochs kind) ∙ append_assoc (second_frequency_line (code kind)) lines left in
    let there : proposal_lines names_there far other others test tested choices ≡ second_frequency_line (test kind) ++ (more ++ right) =
    ap (λ (k : MsmKind). second_frequency_line (test k) ++ other_msm_lines others k ++ next_lines names_there far other (choices k) (all_codes_text (test k) tested)) (sym named)
    ∙ ap (λ (t : List ℕ). second_frequency_line (test kind) ++ t ++ right) (others-are others kind) ∙ append_assoc (second_frequency_line (test kind)) more right in
    let second : List ℕ = codes " second-frequency 2P\n" in
    let second-next = apart second (codes " next ") refl in
    let second-msm = apart second (codes " other-msm ") refl in
    let behind = line-or-none (code kind G2P && not (code kind G2W)) (test kind G2P && not (test kind G2W)) second (lines ++ left) (more ++ right)
    (not-headed-table second (codes " other-msm ") f (numbers_but kind) left second-msm (not-headed-next second name near station (options kind) names second-next (λ rest is. cc)))
    (not-headed-table second (codes " other-msm ") g (numbers_but kind) right second-msm (not-headed-next second names_there far other (choices kind) named_there second-next (λ rest is. cc)))
    (sym here ∙ same ∙ there) in
    let msm-next = apart (codes " other-msm ") (codes " next ") refl in
    let told = table-then (codes " other-msm ") f g (numbers_but kind) left right (numbers-rise kind) (λ n. few (kind_at n)) (λ n. less (kind_at n))
    (not-headed-next (codes " other-msm ") name near station (options kind) names msm-next (λ rest is. cc)) (not-headed-next (codes " other-msm ") names_there far other (choices kind) named_there msm-next (λ rest is. cc)) behind in
    record {
      epochs_are = λ k different. each-kind epochs others kind k told.0 different;
      station_is = λ some. next-tells name near names_there far station other (options kind) (choices kind) names named_there held fits told.1 some;
    }

pub epochs-counted : EpochsAreCounted
epochs-counted kind ms held = omega (arith, held)

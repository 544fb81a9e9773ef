-- The lines that follow from the records: how wide they are, and that they are told by their labels.
use Rattle.std.proofs.Common.{◌≡◌, ◌≢◌, ◌<◌, ◌≤◌, ◌⊎◌, ℕ, zero, suc, ◌+◌, ◌-◌, ◌/◌, Bool, true, false, List, [], ◌∷◌, ◌++◌, length, take, drop, get_or, codes, decimal, pos, Option, None, Some, if◌then◌else◌, nat_lt, ap, sym, arith, refl, ◌∙◌, append_assoc, length-append, subst, inl, inr}
use Rattle.std.specs.Prelude.{IfSome, Decides}
use Rattle.std.proofs.lemmas.Bool.Decides.{nat_tests}
use Rattle.std.proofs.lemmas.Fmt.{length-decimal-le}
use Rattle.std.proofs.lemmas.List.{append-nil, take_at, drop_at, length-take, length-take-le, length-drop, take-append-drop}
use Rattle.rtk_obs.specs.declared.time.Civil.{Civil}
use Rattle.rtk_rinex.specs.Columns.{left, right, decimals, fixed, seconds_of}
use Rattle.rtk_rinex.specs.Header.{header_line, first_text}
use Rattle.rtk_obs.specs.Reading.{IsMoment, CivilDate, next_date, date_after, reading_of}
use Rattle.rtk_label.specs.TimeLines.{interval_label, last_label, interval_line, last_time_line, asked, extent_lines}
use Rattle.rtk_label.specs.Steps.Told.{label_end, BeginsWith, HasNoTimeLine, AreTold}
use Rattle.rtk_label.specs.declared.time_lines.TimeLines.{TimeLines}
use Rattle.rtk_label.proofs.ChoiceLemmas.{none_is, clash}
use Rattle.rtk_label.proofs.FieldLemmas.{length-left}
use Rattle.rtk_label.proofs.OffsetLemmas.{length-right}
use Rattle.rtk_label.proofs.LineLemmas.{length-line}

-- ---- the columns of an interval and of a moment

pub length-interval : (ms : ℕ) → ms < 1_000_000_000 → length (fixed 3 10 (pos ms)) ≡ 10
length-interval ms fits =
    let digits = length-decimal-le 6 (ms / 1000) (omega arith) (omega (arith, fits)) (omega (arith, fits)) in
    length-right 10 (decimals 3 false ms) (simp length-append (omega (arith, digits)))

length-integer : (n : ℕ) → n < 1_000_000 → length (right 6 (decimal n)) ≡ 6
length-integer n fits = length-right 6 (decimal n) (length-decimal-le 6 n (omega arith) (omega (arith, fits)) (omega (arith, fits)))

length-seconds : (n : ℕ) → n < 600_000_000 → length (right 13 (decimals 7 false n)) ≡ 13
length-seconds n fits =
    let digits = length-decimal-le 5 (n / 10_000_000) (omega arith) (omega (arith, fits)) (omega (arith, fits)) in
    length-right 13 (decimals 7 false n) (simp length-append (omega (arith, digits)))

glue-seven : (a b c d e f g : List ℕ) → length ((((((a ++ b) ++ c) ++ d) ++ e) ++ f) ++ g) ≡ length a + length b + length c + length d + length e + length f + length g
glue-seven a b c d e f g =
    omega (
      arith,
      length-append (((((a ++ b) ++ c) ++ d) ++ e) ++ f) g,
      length-append ((((a ++ b) ++ c) ++ d) ++ e) f,
      length-append (((a ++ b) ++ c) ++ d) e,
      length-append ((a ++ b) ++ c) d,
      length-append (a ++ b) c,
      length-append a b,
    )

length-civil : (c : Civil) → c.year < 1_000_000 → c.month < 1_000_000 → c.day < 1_000_000 → c.hour < 1_000_000 → c.minute < 1_000_000 → seconds_of c < 600_000_000
    → length (first_text c) ≡ 51
length-civil c year month day hour minute second =
    let gps : length (codes "     GPS") ≡ 8 = refl in
    glue-seven (right 6 (decimal c.year)) (right 6 (decimal c.month)) (right 6 (decimal c.day)) (right 6 (decimal c.hour)) (right 6 (decimal c.minute))
    (right 13 (decimals 7 false (seconds_of c))) (codes "     GPS")
    ∙ omega (
      arith,
      gps,
      length-integer c.year year,
      length-integer c.month month,
      length-integer c.day day,
      length-integer c.hour hour,
      length-integer c.minute minute,
      length-seconds (seconds_of c) second,
    )

-- no number of a date is greater
abbrev IsSmallDate : ℕ → CivilDate → Type 0
IsSmallDate n d = (d.year ≤ n) × (d.month ≤ n) × (d.day ≤ n)

-- the next date, by the two tests that its definition makes
abbrev next_by : Bool → Bool → CivilDate → CivilDate
next_by in_month in_year d =
    if in_month then record d { day = d.day + 1 }
    else (if in_year then record { year = d.year; month = d.month + 1; day = 1 }
    else record { year = d.year + 1; month = 1; day = 1 })

of-next : (P : CivilDate → Type 0) (d : CivilDate) → ((in_month in_year : Bool) → P (next_by in_month in_year d)) → P (next_date d)
of-next P d each = each _ _

next-small : (in_month in_year : Bool) (m n : ℕ) (d : CivilDate) → 1 ≤ m → m < n → IsSmallDate m d → IsSmallDate n (next_by in_month in_year d)
next-small true in_year m n d one less small = (omega (arith, small.0, less), omega (arith, small.1, less), omega (arith, small.2, less))
next-small false true m n d one less small = (omega (arith, small.0, less), omega (arith, small.1, less), omega (arith, one, less))
next-small false false m n d one less small = (omega (arith, small.0, less), omega (arith, one, less), omega (arith, one, less))

date-small : (k n : ℕ) → 1980 + k ≤ n → IsSmallDate n (date_after k)
unfolding date_after
date-small zero n h = (omega (arith, h), omega (arith, h), omega (arith, h))
date-small (suc k) n h =
    let small : IsSmallDate (1980 + k) (date_after k) = date-small k (1980 + k) (omega arith) in
    of-next (λ (d : CivilDate). IsSmallDate n d) (date_after k) (λ in_month in_year. next-small in_month in_year (1980 + k) n (date_after k) (omega arith) (omega (arith, h)) small)

pub length-moment : (t : ℕ) → IsMoment t → length (first_text (reading_of t)) ≡ 51
length-moment t moment =
    let small = date-small (t / 86_400_000) 100_000 (omega (arith, moment)) in
    length-civil (reading_of t) (omega (arith, small.0)) (omega (arith, small.1)) (omega (arith, small.2)) (omega arith) (omega arith) (omega arith)

-- ---- the line of an interval

-- a choice whose test is known
pick-first : (b : Bool) (x y : List ℕ) → b ≡ true → (if b then x else y) ≡ x
pick-first b x y e = ap (λ (c : Bool). if c then x else y) e

pick-second : (b : Bool) (x y : List ℕ) → b ≡ false → (if b then x else y) ≡ y
pick-second b x y e = ap (λ (c : Bool). if c then x else y) e

-- it is shown
pub interval-shown : (out : List ℕ) (o : Option ℕ) (ms : ℕ) → o ≡ Some ms → ms < 1_000_000_000
    → out ++ header_line (fixed 3 10 (pos ms)) interval_label ≡ out ++ interval_line o
interval-shown out o ms is less =
    let line : List ℕ = header_line (fixed 3 10 (pos ms)) interval_label in
    let test : nat_lt ms 1_000_000_000 ≡ true = grind (arith, nat_tests) in
    ap (λ (x : List ℕ). out ++ x) (sym (pick-first (nat_lt ms 1_000_000_000) line [] test) ∙ ap (λ (p : Option ℕ). interval_line p) (sym is))

-- it is too long
pub interval-hidden : (out : List ℕ) (o : Option ℕ) (ms : ℕ) → o ≡ Some ms → 1_000_000_000 ≤ ms → out ≡ out ++ interval_line o
interval-hidden out o ms is long =
    let line : List ℕ = header_line (fixed 3 10 (pos ms)) interval_label in
    let test : nat_lt ms 1_000_000_000 ≡ false = grind (arith, nat_tests) in
    sym (append-nil out)
    ∙ ap (λ (x : List ℕ). out ++ x) (sym (pick-second (nat_lt ms 1_000_000_000) line [] test) ∙ ap (λ (p : Option ℕ). interval_line p) (sym is))

-- ---- a line begins with its columns and ends with its label

length-end : (label : List ℕ) → length label ≤ 20 → length (label_end label) ≡ 21
length-end label fits = length-append (left 20 label) (10 ∷ []) ∙ omega (arith, length-left 20 label fits)

glue-line : (a b c d : List ℕ) → ((a ++ b) ++ c) ++ d ≡ a ++ ((b ++ c) ++ d)
glue-line a b c d = simp append_assoc

pub line-begins : (columns label more : List ℕ) → length columns ≤ 60 → length label ≤ 20 → BeginsWith label (header_line columns label ++ more)
unfolding header_line
line-begins columns label more fits short =
    ap (λ (t : List ℕ). take 21 (drop 60 t)) (glue-line (left 60 columns) (left 20 label) (10 ∷ []) more)
    ∙ ap (take 21) (drop_at (left 60 columns) (label_end label ++ more) 60 (length-left 60 columns fits))
    ∙ take_at (label_end label) more 21 (length-end label short)

pub begins-long : (label text : List ℕ) → length label ≤ 20 → BeginsWith label text → 81 ≤ length text
begins-long label text short e =
    let size : length (take 21 (drop 60 text)) ≡ 21 = ap length e ∙ length-end label short in
    omega (arith, size, length-take 21 (drop 60 text), length-drop 60 text)

-- lines of two labels are told apart by the first byte of these
abbrev pub first_of_label : List ℕ → ℕ
first_of_label label = get_or (label_end label) 0 0

apart : (label other text : List ℕ) → first_of_label label ≢ first_of_label other → BeginsWith label text → BeginsWith other text → ⊥
apart label other text unlike e f = unlike (ap (λ (t : List ℕ). get_or t 0 0) (sym e ∙ f))

interval-first : first_of_label interval_label ≡ 73
unfolding left
interval-first = refl

last-first : first_of_label last_label ≡ 84
unfolding left
last-first = refl

interval-apart : first_of_label interval_label ≢ first_of_label last_label
interval-apart e = let same : 73 ≡ 84 = sym interval-first ∙ e ∙ last-first in omega (arith, same)

last-apart : first_of_label last_label ≢ first_of_label interval_label
last-apart e = interval-apart (sym e)

no-interval : (label : List ℕ) → first_of_label label ≡ 83 → first_of_label label ≢ first_of_label interval_label
no-interval label s e = let same : 83 ≡ 73 = sym s ∙ e ∙ interval-first in omega (arith, same)

no-last : (label : List ℕ) → first_of_label label ≡ 83 → first_of_label label ≢ first_of_label last_label
no-last label s e = let same : 83 ≡ 84 = sym s ∙ e ∙ last-first in omega (arith, same)

-- a line whose label begins with S is no time line
pub no-time : (columns label more : List ℕ) → length columns ≤ 60 → length label ≤ 20 → first_of_label label ≡ 83 → HasNoTimeLine (header_line columns label ++ more)
no-time columns label more fits short s =
    let own : BeginsWith label (header_line columns label ++ more) = line-begins columns label more fits short in (
      λ begins. apart label interval_label (header_line columns label ++ more) (no-interval label s) own begins,
      λ begins. apart label last_label (header_line columns label ++ more) (no-last label s) own begins,
    )

-- ---- time lines

-- no bytes, or a line of this label
abbrev pub IsPiece : List ℕ → List ℕ → Type 0
IsPiece label piece = (piece ≡ []) ⊎ ((length piece ≡ 81) × ((more : List ℕ) → BeginsWith label (piece ++ more)))

interval-if : (fits : Bool) (ms : ℕ) → nat_lt ms 1_000_000_000 ≡ fits → IsPiece interval_label (if fits then header_line (fixed 3 10 (pos ms)) interval_label else [])
interval-if true ms e =
    let less : ms < 1_000_000_000 = grind (arith, nat_tests) in
    let size = length-interval ms less in
    inr (
      length-line (fixed 3 10 (pos ms)) interval_label (omega (arith, size)) (omega arith),
      λ more. line-begins (fixed 3 10 (pos ms)) interval_label more (omega (arith, size)) (omega arith),
    )
interval-if false ms e = inl refl

pub interval-piece : (o : Option ℕ) → IsPiece interval_label (interval_line o)
interval-piece None = inl refl
interval-piece (Some ms) = interval-if (nat_lt ms 1_000_000_000) ms refl

pub last-piece : (o : Option ℕ) → IfSome o IsMoment → IsPiece last_label (last_time_line o)
last-piece None moment = inl refl
last-piece (Some t) moment =
    let size = length-moment t moment in
    inr (
      length-line (first_text (reading_of t)) last_label (omega (arith, size)) (omega arith),
      λ more. line-begins (first_text (reading_of t)) last_label more (omega (arith, size)) (omega arith),
    )

asked-moment : (b : Bool) (o : Option ℕ) → IfSome o IsMoment → IfSome (asked b o) IsMoment
asked-moment true o moment = moment
asked-moment false o moment = tt

-- ---- the lines at the begin of a text

abbrev pub len_of : Bool → ℕ
len_of is = if is then 81 else 0

-- a text begins with this piece or with what comes after it, as a test of its label says
piece-len : (label piece more text : List ℕ) (b : Bool) → Decides b (BeginsWith label text) → IsPiece label piece → ¬ (BeginsWith label more) → text ≡ piece ++ more
    → len_of b ≡ length piece
piece-len label piece more text true told (inl none) lacks e =
    absurd (lacks (subst (λ (x : List ℕ). BeginsWith label x) (e ∙ ap (λ (x : List ℕ). x ++ more) none) (told.0 refl)))
piece-len label piece more text false told (inl none) lacks e = sym (ap length none)
piece-len label piece more text true told (inr line) lacks e = sym line.0
piece-len label piece more text false told (inr line) lacks e =
    absurd (clash false refl (told.1 (subst (λ (x : List ℕ). BeginsWith label x) (sym e) (line.1 more))))

-- what comes after the interval has no line of that label
no-interval-after : (piece more : List ℕ) → IsPiece last_label piece → HasNoTimeLine more → ¬ (BeginsWith interval_label (piece ++ more))
no-interval-after piece more (inl none) lacks begins = lacks.0 (subst (λ (x : List ℕ). BeginsWith interval_label (x ++ more)) none begins)
no-interval-after piece more (inr line) lacks begins = apart interval_label last_label (piece ++ more) interval-apart begins (line.1 more)

-- an absent line is the line of nothing
same-asked : (b v : Bool) (o : Option ℕ) (line : Option ℕ → List ℕ) → line None ≡ [] → len_of b ≡ length (line (asked v o)) → line (asked b o) ≡ line (asked v o)
same-asked true true o line none size = refl
same-asked false false o line none size = refl
same-asked true false o line none size = absurd (let empty : 81 ≡ 0 = size ∙ ap length none in omega (arith, empty))
same-asked false true o line none size = none ∙ sym (none_is (line o) (sym size))

within-if : (label text : List ℕ) (b : Bool) → length label ≤ 20 → Decides b (BeginsWith label text) → len_of b ≤ length text
within-if label text true short told = begins-long label text short (told.0 refl)
within-if label text false short told = omega arith

small-if : (b : Bool) → len_of b ≤ 81
small-if true = omega arith
small-if false = omega arith

pub told-are : (text lines : List ℕ) (w : TimeLines) (n k : ℕ) → n ≡ len_of w.interval → k ≡ len_of w.last
    → Decides w.interval (BeginsWith interval_label text) → Decides w.last (BeginsWith last_label (drop n text)) → lines ≡ take (n + k) text → AreTold text w lines
told-are text lines w n k n_is k_is first second lines_are =
    let a : n ≤ length text = omega (arith, n_is, within-if interval_label text w.interval (omega arith) first) in
    let b : k ≤ length text - n = omega (arith, k_is, within-if last_label (drop n text) w.last (omega arith) second, length-drop n text) in
    let size : length lines ≡ n + k = ap length lines_are ∙ length-take-le (n + k) text (omega (arith, a, b)) in
    record {
      parts = sym (take-append-drop (n + k) text) ∙ ap (λ (x : List ℕ). x ++ drop (n + k) text) (sym lines_are) ∙ ap (λ (j : ℕ). lines ++ drop j text) (sym size);
      few = omega (arith, size, n_is, k_is, small-if w.interval, small-if w.last);
      every = λ v interval last more moment lacks e.
          let x : List ℕ = interval_line (asked v.interval interval) in
          let y : List ℕ = last_time_line (asked v.last last) in
          let px : IsPiece interval_label x = interval-piece (asked v.interval interval) in
          let py : IsPiece last_label y = last-piece (asked v.last last) (asked-moment v.last last moment) in
          let parts : text ≡ x ++ (y ++ more) = e ∙ append_assoc x y more in
          let nx : len_of w.interval ≡ length x = piece-len interval_label x (y ++ more) text w.interval first px (no-interval-after y more py lacks) parts in
          let behind : drop n text ≡ y ++ more = ap (drop n) parts ∙ drop_at x (y ++ more) n (sym (n_is ∙ nx)) in
          let ny : len_of w.last ≡ length y = piece-len last_label y more (drop n text) w.last second py lacks.1 behind in
          let both : length (x ++ y) ≡ n + k = length-append x y ∙ omega (arith, n_is, k_is, nx, ny) in
          let own : lines ≡ x ++ y = lines_are ∙ ap (take (n + k)) e ∙ take_at (x ++ y) more (n + k) both in (
            own,
            ap (λ (t : List ℕ). t ++ last_time_line (asked w.last last)) (same-asked w.interval v.interval interval interval_line refl nx)
                ∙ ap (λ (t : List ℕ). x ++ t) (same-asked w.last v.last last last_time_line refl ny) ∙ sym own,
          );
    }

-- they are a first part of it
told-within : (text lines : List ℕ) (w : TimeLines) → AreTold text w lines → length lines ≤ length text
told-within text lines w told =
    let parts : length text ≡ length (lines ++ drop (length lines) text) = ap length told.parts in
    omega (arith, parts, length-append lines (drop (length lines) text))

pub told-room : (text lines : List ℕ) (from : ℕ) (w : TimeLines) → AreTold (drop from text) w lines → from ≤ length text → from + length lines ≤ length text
told-room text lines from w told low =
    let inside = told-within (drop from text) lines w told in
    omega (arith, inside, low, length-drop from text)

-- without a line asked for there is none
pub no-lines : (w : TimeLines) (interval last : Option ℕ) → w.interval ≡ false → w.last ≡ false → extent_lines w interval last ≡ []
no-lines w interval last a b =
    ap (λ (x : Bool). interval_line (asked x interval) ++ last_time_line (asked w.last last)) a ∙ ap (λ (x : Bool). last_time_line (asked x last)) b

-- What an epoch line shows is its moment and its count.
use Rattle.std.proofs.Common.{◌≡◌, ℕ, ◌+◌, ◌*◌, ◌/◌, ◌%◌, ◌^◌, ◌<◌, List, [], ◌∷◌, ◌++◌, length, take, drop, decimal, codes, false, ap, sym, arith, refl, ◌∙◌, append_assoc, length-append}
use Rattle.std.proofs.lemmas.List.{take_at, drop_at, drop-drop}
use borrow.Rule.Slice.PartMut.{put_mid}
use Rattle.rtk_obs.specs.CivilText.{last_digits}
use Rattle.rtk_rinex.proofs.ColumnsLemmas.{right-front}
use Rattle.std.proofs.lemmas.Fmt.{length-decimal-le}
use Rattle.rtk_obs.specs.declared.time.Civil.{Civil}
use Rattle.rtk_rinex.specs.Columns.{right, decimals, seconds_of}
use Rattle.rtk_obs.specs.Reading.{IsMoment, reading_of}
use Rattle.rtk_rinex.specs.Record.{epoch_date_text, epoch_columns, epoch_line}
use Rattle.rtk_rinex.specs.Steps.CheckValues.{seconds_in, civil_in, count_in}
use Rattle.rtk_obs.proofs.PublicLaws.{same_civil}
use Rattle.rtk_rinex.proofs.ReadingLemmas.{FitsColumns, FitsColumns-reading_of}
use Rattle.rtk_rinex.proofs.DigitsLemmas.{digits_from-last_2, digits_from-last_4, digits_from-seconds, digits_from-right, length-right, take-exact, drop-exact}

pub length-seconds : (n : ℕ) → n < 10 ^ 10 → length (right 11 (decimals 7 false n)) ≡ 11
length-seconds n h =
    let digits = length-decimal-le 3 (n / 10_000_000) (omega arith) (omega arith) (omega arith) in
    length-right 11 (decimals 7 false n) (simp length-append (omega arith))

length-count : (n : ℕ) → n < 1000 → length (right 3 (decimal n)) ≡ 3
length-count n h = length-right 3 (decimal n) (length-decimal-le 3 n (omega arith) (omega arith) (omega arith))

-- ---- the line, column by column

-- the columns up to the minute, two digits at a time
pub date-pairs : (c : Civil) → c.year < 10_000 → c.month < 100 → c.day < 100 → c.hour < 100 → c.minute < 100
    → 62 ∷ 32 ∷ (48 + c.year / 100 / 10) ∷ (48 + c.year / 100 % 10) ∷ (48 + c.year % 100 / 10) ∷ (48 + c.year % 100 % 10) ∷ 32 ∷ (48 + c.month / 10) ∷ (48 + c.month % 10) ∷ 32 ∷ (48 + c.day / 10) ∷ (48 + c.day % 10)
    ∷ 32 ∷ (48 + c.hour / 10) ∷ (48 + c.hour % 10) ∷ 32 ∷ (48 + c.minute / 10) ∷ (48 + c.minute % 10) ∷ [] ≡ epoch_date_text c
date-pairs c year month day hour minute =
    let y1 : c.year / 10 / 10 / 10 % 10 ≡ c.year / 100 / 10 = omega arith in
    let y2 : c.year / 10 / 10 % 10 ≡ c.year / 100 % 10 = omega arith in
    let y3 : c.year / 10 % 10 ≡ c.year % 100 / 10 = omega arith in
    let y4 : c.year % 10 ≡ c.year % 100 % 10 = omega arith in
    let m : c.month / 10 % 10 ≡ c.month / 10 = omega arith in
    let d : c.day / 10 % 10 ≡ c.day / 10 = omega arith in
    let h : c.hour / 10 % 10 ≡ c.hour / 10 = omega arith in
    let n : c.minute / 10 % 10 ≡ c.minute / 10 = omega arith in
    rw (y1, y2, y3, y4, m, d, h, n) refl

-- four decimals of seconds are 0, since they are whole milliseconds
last-seven : (n s ms : ℕ) → n ≡ s * 10_000_000 + ms * 10_000 → ms < 1000 → last_digits 7 n ≡ last_digits 3 ms ++ 48 ∷ 48 ∷ 48 ∷ 48 ∷ []
last-seven n s ms e few =
    let a : n / 10 / 10 / 10 / 10 / 10 / 10 % 10 ≡ ms / 10 / 10 % 10 = omega arith in
    let b : n / 10 / 10 / 10 / 10 / 10 % 10 ≡ ms / 10 % 10 = omega arith in
    let c : n / 10 / 10 / 10 / 10 % 10 ≡ ms % 10 = omega arith in
    let d : n / 10 / 10 / 10 % 10 ≡ 0 = omega arith in
    let f : n / 10 / 10 % 10 ≡ 0 = omega arith in
    let g : n / 10 % 10 ≡ 0 = omega arith in
    let h : n % 10 ≡ 0 = omega arith in
    rw (a, b, c, d, f, g, h) refl

pub right-seconds : (n s ms : ℕ) → n ≡ s * 10_000_000 + ms * 10_000 → s < 60 → ms < 1000 → right 3 (decimal s) ++ (46 ∷ last_digits 3 ms ++ 48 ∷ 48 ∷ 48 ∷ 48 ∷ []) ≡ right 11 (decimals 7 false n)
right-seconds n s ms e second few =
    let whole : n / 10_000_000 ≡ s = omega arith in
    rw (whole, last-seven n s ms e few) (right-front 3 8 (decimal s) (46 ∷ last_digits 3 ms ++ 48 ∷ 48 ∷ 48 ∷ 48 ∷ []) (length-decimal-le 3 s (omega arith) (omega arith) (omega arith)) refl)

-- three parts of a text, one after another over its first columns
pub three-parts : (text f g h : List ℕ) → length f ≡ 18 → length g ≡ 11 → put_mid 29 7 (put_mid 18 11 (f ++ drop 18 text) g) h ≡ f ++ (g ++ (h ++ drop 36 text))
three-parts text f g h a b =
    let rest : List ℕ = drop 18 text in
    let two : put_mid 18 11 (f ++ rest) g ≡ (f ++ g) ++ drop 11 rest =
    ap (λ (xs : List ℕ). xs ++ (g ++ drop 11 (drop 18 (f ++ rest)))) (take_at f rest 18 a) ∙ ap (λ (xs : List ℕ). f ++ (g ++ drop 11 xs)) (drop_at f rest 18 a) ∙ sym (append_assoc f g (drop 11 rest)) in
    let size : length (f ++ g) ≡ 29 = length-append f g ∙ omega (arith, a, b) in
    ap (λ (xs : List ℕ). put_mid 29 7 xs h) two
    ∙ ap (λ (xs : List ℕ). xs ++ (h ++ drop 7 (drop 29 ((f ++ g) ++ drop 11 rest)))) (take_at (f ++ g) (drop 11 rest) 29 size)
    ∙ ap (λ (xs : List ℕ). (f ++ g) ++ (h ++ drop 7 xs)) (drop_at (f ++ g) (drop 11 rest) 29 size)
    ∙ ap (λ (xs : List ℕ). (f ++ g) ++ (h ++ xs)) (drop-drop 7 11 rest ∙ drop-drop 18 18 text) ∙ append_assoc f g (h ++ drop 36 text)

pub line-parts : (c : Civil) (n : ℕ) (rest : List ℕ)
    → epoch_date_text c ++ (right 11 (decimals 7 false (seconds_of c)) ++ ((codes "  0" ++ (right 3 (decimal n) ++ 10 ∷ [])) ++ rest)) ≡ epoch_line c n ++ rest
line-parts c n rest = simp append_assoc refl

pub seconds_in-columns : (c : Civil) (n : ℕ) → FitsColumns c → seconds_in (epoch_columns c n) ≡ seconds_of c
seconds_in-columns c n h =
    let s : List ℕ = right 11 (decimals 7 false (seconds_of c)) in
    let last : List ℕ = right 3 (decimal n) in
    let small : seconds_of c < 10 ^ 10 = omega arith in
    let from : drop 18 (((epoch_date_text c ++ s) ++ codes "  0") ++ last) ≡ s ++ (codes "  0" ++ last) =
    rw (append_assoc (epoch_date_text c ++ s) (codes "  0") last, append_assoc (epoch_date_text c) s (codes "  0" ++ last)) refl in
    rw (from, take-exact 11 s (codes "  0" ++ last) (length-seconds (seconds_of c) small)) (digits_from-seconds 11 (seconds_of c) small)

pub civil_of-columns : (c : Civil) (n : ℕ) → FitsColumns c → civil_in (epoch_columns c n) ≡ c
civil_of-columns c n h =
    let seconds = seconds_in-columns c n h in
    same_civil (civil_in (epoch_columns c n)) c
    (digits_from-last_4 0 c.year ∙ omega (arith, h.year)) (digits_from-last_2 c.month h.month) (digits_from-last_2 c.day h.day)
    (digits_from-last_2 c.hour h.hour) (digits_from-last_2 c.minute h.minute) (omega arith) (omega arith)

-- the lengths of the four parts of an epoch line
lengths : (f s z l : List ℕ) → length f ≡ 18 → length s ≡ 11 → length z ≡ 3 → length l ≡ 3
    → (length ((f ++ s) ++ z) ≡ 32) × (length (((f ++ s) ++ z) ++ l) ≡ 35)
lengths f s z l a b c d = (simp length-append (omega arith), simp length-append (omega arith))

columns-lengths : (c : Civil) (n : ℕ) → FitsColumns c → n < 1000
    → (length ((epoch_date_text c ++ right 11 (decimals 7 false (seconds_of c))) ++ codes "  0") ≡ 32) × (length (epoch_columns c n) ≡ 35)
columns-lengths c n h k =
    lengths (epoch_date_text c) (right 11 (decimals 7 false (seconds_of c))) (codes "  0") (right 3 (decimal n)) refl
    (length-seconds (seconds_of c) (omega (arith, h.second, h.millisecond))) refl (length-count n k)

-- the length of an epoch line, whatever its date
pub length-written : (c : Civil) (n : ℕ) → c.second < 60 → c.millisecond < 1000 → n < 1000 → length (epoch_line c n) ≡ 36
length-written c n second millisecond k =
    let columns = lengths (epoch_date_text c) (right 11 (decimals 7 false (seconds_of c))) (codes "  0") (right 3 (decimal n)) refl (length-seconds (seconds_of c) (omega arith)) refl (length-count n k) in
    length-append (epoch_columns c n) (10 ∷ []) ∙ omega (arith, columns.1)

pub length-columns : (c : Civil) (n : ℕ) → FitsColumns c → n < 1000 → length (epoch_columns c n) ≡ 35
length-columns c n h k = (columns-lengths c n h k).1

pub count_of-columns : (c : Civil) (n : ℕ) → FitsColumns c → n < 1000 → count_in (epoch_columns c n) ≡ n
count_of-columns c n h k =
    let front : List ℕ = (epoch_date_text c ++ right 11 (decimals 7 false (seconds_of c))) ++ codes "  0" in
    let last : List ℕ = right 3 (decimal n) in
    let from : drop 32 (front ++ last) ≡ last = drop-exact 32 front last ((columns-lengths c n h k).0) in
    rw from (digits_from-right 3 n (omega arith))

-- a line that is an epoch line shows its moment's reading and its count
pub record ShowsEpoch (line : List ℕ) (t n : ℕ) : Type 0 where
  pub length : length line ≡ 35
  pub seconds : seconds_in line < 600_000_000
  pub reading : civil_in line ≡ reading_of t
  pub count : count_in line ≡ n

pub epoch-shows : (line : List ℕ) (t n : ℕ) → IsMoment t → n < 1000 → line ≡ epoch_columns (reading_of t) n → ShowsEpoch line t n
epoch-shows line t n h k e =
    let fits = FitsColumns-reading_of t h in
    record {
      length = rw e (length-columns (reading_of t) n fits k);
      seconds = rw (e, seconds_in-columns (reading_of t) n fits) (omega (arith, fits.second, fits.millisecond));
      reading = rw e (civil_of-columns (reading_of t) n fits);
      count = rw e (count_of-columns (reading_of t) n fits k);
    }

-- an epoch line has 36 bytes, and the last one is LF
pub length-line : (line : List ℕ) (t n : ℕ) → IsMoment t → n < 1000 → line ≡ epoch_line (reading_of t) n → length line ≡ 36
length-line line t n h k e =
    let long = length-columns (reading_of t) n (FitsColumns-reading_of t h) k in
    rw e (length-append (epoch_columns (reading_of t) n) (10 ∷ []) ∙ omega arith)

pub line-columns : (line : List ℕ) (t n : ℕ) → IsMoment t → n < 1000 → line ≡ epoch_line (reading_of t) n
    → take 35 line ≡ epoch_columns (reading_of t) n
line-columns line t n h k e =
    rw e (take-exact 35 (epoch_columns (reading_of t) n) (10 ∷ []) (length-columns (reading_of t) n (FitsColumns-reading_of t h) k))

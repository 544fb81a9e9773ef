-- A part of a header shows its value to who reads from its beginning on.
use Rattle.std.proofs.Common.{◌≡◌, ◌≢◌, ℕ, zero, suc, ◌+◌, ◌-◌, ◌*◌, ◌/◌, ◌%◌, ◌^◌, ◌<◌, ◌≤◌, List, [], ◌∷◌, ◌++◌, length, take, drop, replicate, get_or, slice_get, Some, None, Result, Ok, Err, IfOk, IfErr, MatchOption, IfSome, IsSomeAnd, Option, unwrap_or, decimal, codes, true, false, arith, refl, sym, ◌∙◌, ap, subst, append_assoc, length-append, ℤ, pos, negsuc, unsigned_abs}
use Rattle.std.specs.Int.{IsInRange}
use Rattle.std.specs.Result.{result_ok}
use Rattle.std.proofs.lemmas.Fmt.{length-decimal-le}
use Rattle.std.proofs.lemmas.Int.{ints}
use Rattle.std.proofs.lemmas.Option.{slice_get-get_or}
use Rattle.std.proofs.lemmas.List.{replicate-append-replicate, take_all, append-nil}
use Rattle.rtk_obs.specs.declared.time.Civil.{Civil}
use Rattle.rtk_obs.specs.Calendar.{ReadsAs}
use Rattle.rtk_obs.specs.Coordinates.{IsCoordinate, AreCoordinates}
use Rattle.rtk_obs.specs.PositionFields.{HasFields}
use Rattle.rtk_obs.specs.declared.position.Position.{Position}
use Rattle.rtk_obs.proofs.PublicLaws.{one_moment, same_civil, reading-reads}
use Rattle.rtk_rinex.specs.Columns.{left, right, decimals, fixed, seconds_of}
use Rattle.rtk_obs.specs.Reading.{IsMoment, reading_of}
use Rattle.rtk_rinex.specs.Record.{trim_end}
use Rattle.rtk_rinex.specs.Header.{header_line, made_line, marker_line, place_line, height_line, first_types_line, types_label, first_text, first_line, IsMarker, PositionView, IsPositionView}
use Rattle.rtk_rinex.specs.Steps.Digits.{digits_from, number_in}
use Rattle.rtk_rinex.specs.Steps.HeaderShown.{number_at, made_civil, first_civil}
use Rattle.rtk_rinex.proofs.ReadingLemmas.{FitsColumns, FitsColumns-reading_of}
use Rattle.rtk_rinex.proofs.RecordLemmas.{trim_end-blank, trim_end-done}
use Rattle.rtk_rinex.proofs.DigitsLemmas.{digits_from-last_2, digits_from-last_4, digits_from-seconds, digits_from-right, digits_from-tenthousandths, number_of-fixed_4, length-left, take-exact, piece, length-right}

-- ---- moments and positions that are read

-- the moment that a reading names, if it is the reading of one
pub moment_read : (r : Option ℕ) (c : Civil) (t : ℕ) → IsMoment t → c ≡ reading_of t
    → MatchOption r ((t : ℕ) → IsMoment t → ¬ (ReadsAs t c)) (λ t. ReadsAs t c) → r ≡ Some t
moment_read None c t m e h = absurd (h t m (rw e (reading-reads t m)))
moment_read (Some u) c t m e h = ap Some (one_moment u t (reading_of t) (rw e at h) (reading-reads t m))

-- ---- a part that a line shows, or any good one

-- a call that refuses bad values alone gives a good one
pub good_kept : {A E : Type 0} (Good : A → Type 0) (Fault : E → Type 0) (r : Result A E) (v w : A) → v ≡ w → Good w
    → IfOk r (λ a. a ≡ v) → IfErr r (λ e. Fault e × ¬ (Good v)) → result_ok r ≡ Some w
good_kept Good Fault (Ok a) v w e good given bad = ap Some (given ∙ e)
good_kept Good Fault (Err x) v w e good given bad = absurd (bad.1 (subst Good (sym e) good))

pub good_or : {A : Type 0} (P : A → Type 0) (r : Option A) (d : A) → IfSome r P → P d → P (unwrap_or r d)
good_or P None d h g = g
good_or P (Some x) d h g = h

pub shown_or : {A : Type 0} (r : Option A) (d x v : A) → x ≡ unwrap_or r d → r ≡ Some v → x ≡ v
shown_or {A = A} r d x v e h = e ∙ ap (λ (o : Option A). unwrap_or o d) h

pub some_or : {A : Type 0} (P : A → Type 0) (r : Option A) (d x : A) → x ≡ unwrap_or r d → IsSomeAnd r P → P x
some_or P None d x e h = absurd h
some_or P (Some y) d x e h = rw e h

-- ---- the moment at which the file is made

pub made_is : (text more : List ℕ) (t : ℕ) → IsMoment t → t % 1000 ≡ 0 → text ≡ made_line (reading_of t) ++ more → made_civil text ≡ reading_of t
unfolding header_line left
made_is text more t h whole e =
    let c = reading_of t in
    let fits = FitsColumns-reading_of t h in
    rw e (same_civil (made_civil (made_line c ++ more)) c
    (digits_from-last_4 0 c.year ∙ omega (arith, fits.year)) (digits_from-last_2 c.month fits.month) (digits_from-last_2 c.day fits.day)
    (digits_from-last_2 c.hour fits.hour) (digits_from-last_2 c.minute fits.minute) (digits_from-last_2 c.second (omega (arith, fits.second))) (sym whole))

-- ---- what stands at the front of a line

pub line_rest : List ℕ → List ℕ → List ℕ → List ℕ
line_rest content label more = replicate (60 - length content) 32 ++ ((left 20 label ++ 10 ∷ []) ++ more)

pub line_is : (content label more : List ℕ) → header_line content label ++ more ≡ content ++ line_rest content label more
unfolding header_line left line_rest
line_is content label more = simp append_assoc

-- ---- the first time

right_split : (a w : ℕ) (t : List ℕ) → length t ≤ w → right (a + w) t ≡ replicate a 32 ++ right w t
right_split a w t h =
    let n : a + w - length t ≡ a + (w - length t) = omega arith in
    let two : replicate {A = ℕ} (a + (w - length t)) 32 ≡ replicate a 32 ++ replicate (w - length t) 32 = sym (replicate-append-replicate {A = ℕ} a (w - length t) 32) in
    rw (n, two) (append_assoc (replicate a 32) (replicate (w - length t) 32) t)

-- fields one after another
record AreFields (line a b c d e s : List ℕ) : Type 0 where
  pub first : take 4 (drop 2 line) ≡ a
  pub second : take 2 (drop 10 line) ≡ b
  pub third : take 2 (drop 16 line) ≡ c
  pub fourth : take 2 (drop 22 line) ≡ d
  pub fifth : take 2 (drop 28 line) ≡ e
  pub last : take 13 (drop 30 line) ≡ s

fields : (p q a b c d e s rest : List ℕ) → length p ≡ 2 → length q ≡ 4 → length a ≡ 4 → length b ≡ 2 → length c ≡ 2 → length d ≡ 2
    → length e ≡ 2 → length s ≡ 13 → AreFields (((((((p ++ a) ++ (q ++ b)) ++ (q ++ c)) ++ (q ++ d)) ++ (q ++ e)) ++ s) ++ rest) a b c d e s
fields p q a b c d e s rest lp lq la lb lc ld le ls =
    let f₁ = (p ++ a) ++ q in
    let f₂ = (f₁ ++ b) ++ q in
    let f₃ = (f₂ ++ c) ++ q in
    let f₄ = (f₃ ++ d) ++ q in
    let f₅ = f₄ ++ e in
    let l₁ : length f₁ ≡ 10 = simp length-append (omega arith) in
    let l₂ : length f₂ ≡ 16 = simp length-append (omega arith) in
    let l₃ : length f₃ ≡ 22 = simp length-append (omega arith) in
    let l₄ : length f₄ ≡ 28 = simp length-append (omega arith) in
    let l₅ : length f₅ ≡ 30 = simp length-append (omega arith) in
    let whole : List ℕ = ((((((p ++ a) ++ (q ++ b)) ++ (q ++ c)) ++ (q ++ d)) ++ (q ++ e)) ++ s) ++ rest in
    let r₀ : whole ≡ p ++ (a ++ (q ++ (b ++ (q ++ (c ++ (q ++ (d ++ (q ++ (e ++ (s ++ rest)))))))))) = simp append_assoc in
    let r₁ : whole ≡ f₁ ++ (b ++ (q ++ (c ++ (q ++ (d ++ (q ++ (e ++ (s ++ rest)))))))) = simp append_assoc in
    let r₂ : whole ≡ f₂ ++ (c ++ (q ++ (d ++ (q ++ (e ++ (s ++ rest)))))) = simp append_assoc in
    let r₃ : whole ≡ f₃ ++ (d ++ (q ++ (e ++ (s ++ rest)))) = simp append_assoc in
    let r₄ : whole ≡ f₄ ++ (e ++ (s ++ rest)) = simp append_assoc in
    let r₅ : whole ≡ f₅ ++ (s ++ rest) = simp append_assoc in record {
      first = rw r₀ (piece 2 4 p a _ lp la);
      second = rw r₁ (piece 10 2 f₁ b _ l₁ lb);
      third = rw r₂ (piece 16 2 f₂ c _ l₂ lc);
      fourth = rw r₃ (piece 22 2 f₃ d _ l₃ ld);
      fifth = rw r₄ (piece 28 2 f₄ e _ l₄ le);
      last = rw r₅ (piece 30 13 f₅ s rest l₅ ls);
    }

pub length-seconds : (n : ℕ) → n < 10 ^ 10 → length (right 13 (decimals 7 false n)) ≡ 13
length-seconds n h =
    let digits = length-decimal-le 3 (n / 10_000_000) (omega arith) (omega arith) (omega arith) in
    length-right 13 (decimals 7 false n) (simp length-append (omega arith))

-- the line up to the seconds
first_front : Civil → List ℕ
first_front c =
    right 6 (decimal c.year) ++ right 6 (decimal c.month) ++ right 6 (decimal c.day)
    ++ right 6 (decimal c.hour) ++ right 6 (decimal c.minute) ++ right 13 (decimals 7 false (seconds_of c))

fields_of : (c : Civil) (rest : List ℕ) → FitsColumns c
    → AreFields (first_front c ++ rest) (right 4 (decimal c.year)) (right 2 (decimal c.month)) (right 2 (decimal c.day)) (right 2 (decimal c.hour)) (right 2 (decimal c.minute)) (right 13 (decimals 7 false (seconds_of c)))
unfolding first_front
fields_of c rest fits =
    let p : List ℕ = replicate {A = ℕ} 2 32 in
    let q : List ℕ = replicate {A = ℕ} 4 32 in
    let y = length-decimal-le 4 c.year (omega arith) (omega (arith, fits.year)) (omega (arith, fits.year)) in
    let m = length-decimal-le 2 c.month (omega arith) (omega (arith, fits.month)) (omega (arith, fits.month)) in
    let d = length-decimal-le 2 c.day (omega arith) (omega (arith, fits.day)) (omega (arith, fits.day)) in
    let h = length-decimal-le 2 c.hour (omega arith) (omega (arith, fits.hour)) (omega (arith, fits.hour)) in
    let i = length-decimal-le 2 c.minute (omega arith) (omega (arith, fits.minute)) (omega (arith, fits.minute)) in
    let s = length-seconds (seconds_of c) (omega (arith, fits.second, fits.millisecond)) in
    let all = fields p q (right 4 (decimal c.year)) (right 2 (decimal c.month)) (right 2 (decimal c.day)) (right 2 (decimal c.hour)) (right 2 (decimal c.minute))
    (right 13 (decimals 7 false (seconds_of c))) rest refl refl
    (length-right 4 (decimal c.year) y) (length-right 2 (decimal c.month) m) (length-right 2 (decimal c.day) d) (length-right 2 (decimal c.hour) h) (length-right 2 (decimal c.minute) i) s in
    rw (right_split 2 4 (decimal c.year) y, right_split 4 2 (decimal c.month) m, right_split 4 2 (decimal c.day) d, right_split 4 2 (decimal c.hour) h, right_split 4 2 (decimal c.minute) i) all

first_fields : (text more : List ℕ) (c : Civil) → FitsColumns c → text ≡ first_line c ++ more
    → AreFields text (right 4 (decimal c.year)) (right 2 (decimal c.month)) (right 2 (decimal c.day)) (right 2 (decimal c.hour)) (right 2 (decimal c.minute)) (right 13 (decimals 7 false (seconds_of c)))
unfolding first_front
first_fields text more c fits e =
    let after : List ℕ = line_rest (first_text c) (codes "TIME OF FIRST OBS") more in
    let rest : List ℕ = codes "     GPS" ++ after in
    let split : text ≡ first_front c ++ rest = e ∙ line_is (first_text c) (codes "TIME OF FIRST OBS") more ∙ append_assoc (first_front c) (codes "     GPS") after in
    rw split (fields_of c rest fits)

pub record ShowsFirst (text : List ℕ) (t : ℕ) : Type 0 where
  pub seconds : number_at 30 13 text < 600_000_000
  pub reading : first_civil text ≡ reading_of t

pub first_is : (text more : List ℕ) (t : ℕ) → IsMoment t → text ≡ first_line (reading_of t) ++ more → ShowsFirst text t
first_is text more t h e =
    let c = reading_of t in
    let fits = FitsColumns-reading_of t h in
    let f = first_fields text more c fits e in
    let small : seconds_of c < 10 ^ 10 = omega (arith, fits.second, fits.millisecond) in
    let seconds : number_at 30 13 text ≡ seconds_of c = rw f.last (digits_from-seconds 13 (seconds_of c) small) in
    record {
      seconds = omega (arith, seconds, fits.second, fits.millisecond);
      reading = same_civil (first_civil text) c
          (rw f.first (digits_from-right 4 c.year (omega (arith, fits.year)))) (rw f.second (digits_from-right 2 c.month (omega (arith, fits.month))))
          (rw f.third (digits_from-right 2 c.day (omega (arith, fits.day)))) (rw f.fourth (digits_from-right 2 c.hour (omega (arith, fits.hour))))
          (rw f.fifth (digits_from-right 2 c.minute (omega (arith, fits.minute)))) (omega (arith, seconds, fits.second, fits.millisecond)) (omega (arith, seconds, fits.second, fits.millisecond));
    }

-- ---- coordinates and the height

magnitude : (v : ℤ) → IsCoordinate v → unsigned_abs v < 2 ^ 63
magnitude (pos n) h = omega (arith, ints, h.least, h.greatest)
magnitude (negsuc n) h = omega (arith, ints, h.least, h.greatest)

pub length-fixed : (v : ℤ) → IsCoordinate v → length (fixed 4 14 v) ≡ 14
length-fixed (pos n) h =
    let low : n ≤ 137_438_953_471 = omega (arith, ints, h.greatest) in
    let digits = length-decimal-le 8 (n / 10_000) (omega arith) (omega arith) (omega arith) in
    length-right 14 (decimals 4 false n) (simp length-append (omega arith))
length-fixed (negsuc n) h =
    let low : suc n ≤ 137_438_953_472 = omega (arith, ints, h.least) in
    let digits = length-decimal-le 8 (suc n / 10_000) (omega arith) (omega arith) (omega arith) in
    length-right 14 (decimals 4 true (suc n)) (simp length-append (omega arith))

pub record ShowsPlace (text : List ℕ) (s : PositionView) : Type 0 where
  pub first : number_in (take 14 (drop 0 text)) ≡ s.x
  pub second : number_in (take 14 (drop 14 text)) ≡ s.y
  pub third : number_in (take 14 (drop 28 text)) ≡ s.z

pub place_is : (text more : List ℕ) (s : PositionView) → IsPositionView s → text ≡ place_line s ++ more → ShowsPlace text s
place_is text more s h e =
    let a : List ℕ = fixed 4 14 s.x in
    let b : List ℕ = fixed 4 14 s.y in
    let c : List ℕ = fixed 4 14 s.z in
    let rest : List ℕ = line_rest (a ++ b ++ c) (codes "APPROX POSITION XYZ") more in
    let la : length a ≡ 14 = length-fixed s.x h.0 in
    let lb : length b ≡ 14 = length-fixed s.y h.1 in
    let lc : length c ≡ 14 = length-fixed s.z h.2 in
    let two : length (a ++ b) ≡ 28 = length-append a b ∙ omega arith in
    let whole : text ≡ ((a ++ b) ++ c) ++ rest = e ∙ line_is ((a ++ b) ++ c) (codes "APPROX POSITION XYZ") more in
    let r₀ : text ≡ [] ++ (a ++ (b ++ (c ++ rest))) = whole ∙ simp append_assoc in
    let r₁ : text ≡ a ++ (b ++ (c ++ rest)) = whole ∙ simp append_assoc in
    let r₂ : text ≡ (a ++ b) ++ (c ++ rest) = whole ∙ simp append_assoc in record {
      first = ap number_in (rw r₀ (piece 0 14 [] a (b ++ (c ++ rest)) refl la)) ∙ number_of-fixed_4 s.x (magnitude s.x h.0);
      second = ap number_in (rw r₁ (piece 14 14 a b (c ++ rest) la lb)) ∙ number_of-fixed_4 s.y (magnitude s.y h.1);
      third = ap number_in (rw r₂ (piece 28 14 (a ++ b) c rest two lc)) ∙ number_of-fixed_4 s.z (magnitude s.z h.2);
    }

-- the position of the coordinates of another
pub position_read : (r : Option Position) (x y z : ℤ) (height : ℕ) (s : PositionView) → IsPositionView s → x ≡ s.x → y ≡ s.y → z ≡ s.z
    → MatchOption r (¬ (AreCoordinates x y z)) (HasFields x y z height) → IsSomeAnd r (λ p. (p.x ≡ s.x) × (p.y ≡ s.y) × (p.z ≡ s.z))
position_read None x y z height s g a b c h = absurd (h ((rw a g.0), (rw b g.1), (rw c g.2)))
position_read (Some q) x y z height s g a b c h = (h.0 ∙ a, h.1 ∙ b, h.2 ∙ c)

pub IsCoordinate-height : (h : ℕ) → h < 65_536 → IsCoordinate (pos h)
IsCoordinate-height h small = record { least = omega (arith, ints); greatest = omega (arith, ints) }

digits_from-height : (h : ℕ) → h < 65_536 → digits_from 0 (fixed 4 14 (pos h)) ≡ h
digits_from-height h small = digits_from-tenthousandths false h (omega arith)

pub height_is : (text more : List ℕ) (h : ℕ) → h < 65_536 → text ≡ height_line h ++ more → number_at 0 14 text ≡ h
height_is text more h small e =
    let a : List ℕ = fixed 4 14 (pos h) in
    let zeros : List ℕ = codes "        0.0000        0.0000" in
    let rest : List ℕ = line_rest (a ++ zeros) (codes "ANTENNA: DELTA H/E/N") more in
    let r : text ≡ a ++ (zeros ++ rest) = e ∙ line_is (a ++ zeros) (codes "ANTENNA: DELTA H/E/N") more ∙ append_assoc a zeros rest in
    rw (r, take-exact 14 a (zeros ++ rest) (length-fixed (pos h) (IsCoordinate-height h small))) (digits_from-height h small)

-- ---- the number of observation types

pub count_is : (text shown more : List ℕ) (n : ℕ) → IsInRange 1 16 n → text ≡ first_types_line n shown ++ more → number_at 3 3 text ≡ 3 * n
count_is text shown more n h e =
    let a : List ℕ = right 3 (decimal (3 * n)) in
    let content : List ℕ = (codes "G  " ++ a) ++ take 52 shown in
    let rest : List ℕ = line_rest content types_label more in
    let r : text ≡ codes "G  " ++ (a ++ (take 52 shown ++ rest)) = e ∙ line_is content types_label more ∙ simp append_assoc in
    let digits = length-decimal-le 3 (3 * n) (omega arith) (omega arith) (omega arith) in
    rw (r, piece 3 3 (codes "G  ") a (take 52 shown ++ rest) refl (length-right 3 (decimal (3 * n)) digits)) (digits_from-right 3 (3 * n) (omega arith))

-- ---- the marker's name

trim_end-blanks : (m : List ℕ) (k : ℕ) → trim_end (m ++ replicate k 32) ≡ trim_end m
trim_end-blanks m zero = rw (append-nil m) refl
trim_end-blanks m (suc k) =
    let n : suc k ≡ k + 1 = omega arith in
    let more : replicate {A = ℕ} (suc k) 32 ≡ replicate k 32 ++ 32 ∷ [] = ap (λ (n : ℕ). replicate {A = ℕ} n 32) n ∙ sym (replicate-append-replicate {A = ℕ} k 1 32) in
    rw (more, ← append_assoc m (replicate k 32) (32 ∷ [])) (trim_end-blank (m ++ replicate k 32) ∙ trim_end-blanks m k)

last_solid : (m : List ℕ) → 0 < length m → slice_get m (length m - 1) ≢ Some 32 → get_or m (length m - 1) 0 ≢ 32
last_solid m some h e = h (slice_get-get_or m (length m - 1) 0 (omega (arith, some)) ∙ ap Some e)

trimmed-marker : (m : List ℕ) → IsMarker m → trim_end (left 60 m) ≡ m
unfolding left
trimmed-marker m h =
    let some : 0 < length m = omega (arith, h.0) in
    let all : take (length m) m ≡ m = take_all (length m) m (omega arith) in
    trim_end-blanks m (60 - length m) ∙ rw all at (trim_end-done m (length m) some (omega arith) (last_solid m some h.3))

pub marker_is : (text more m : List ℕ) → IsMarker m → text ≡ marker_line m ++ more → trim_end (take 60 (drop 0 text)) ≡ m
unfolding header_line
marker_is text more m h e =
    let label : List ℕ = left 20 (codes "MARKER NAME") in
    let r : text ≡ left 60 m ++ (label ++ 10 ∷ more) = e ∙ simp append_assoc in
    let long : length (left 60 m) ≡ 60 = length-left 60 m (omega (arith, h.0)) in
    rw (r, take-exact 60 (left 60 m) (label ++ 10 ∷ more) long) (trimmed-marker m h)

-- Lines written over blanks.
use Rattle.std.proofs.Common.{◌≡◌, ℕ, zero, suc, ◌+◌, ◌-◌, ◌*◌, ◌/◌, ◌%◌, ◌<◌, ◌≤◌, [], ◌∷◌, ◌++◌, List, length, replicate, take, drop, set, get_or, ap, arith, refl, sym, ◌∙◌, true, false, Bool, ◌||◌, length-append, append_assoc, flat_map, ℤ, Option, Some, None}
use Rattle.std.specs.Prelude.{is_some}
use Rattle.std.specs.List.{list_any, filter}
use Rattle.std.proofs.lemmas.List.{append-nil, take_at, drop_at, drop-drop, length-replicate, length-take, replicate-append-replicate, take-append-drop}
use Rattle.std.proofs.Math.Seq.{set-append_seam, take-append-add, drop-append-add}
use Rattle.rtk_rinex.specs.declared.epoch_table.Observed.{Observed}
use Rattle.rtk_rinex.specs.declared.epoch_table.SatelliteRow.{SatelliteRow}
use Rattle.rtk_obs.specs.CivilText.{last_digits}
use Rattle.rtk_rinex.specs.Columns.{fixed}
use Rattle.rtk_rinex.specs.Record.{is_written, is_present, observation, observations, observations_with_doppler, code_text, code_width, is_shown, lli_digit, strength_digit, strength_value, has_observation, has_observation_or_doppler, has_line, trim_end, satellite_line, no_observation}
use Rattle.rtk_rinex.specs.RecordLines.{ended}
use Rattle.rtk_rinex.specs.Steps.WrittenLines.{named_line}
use Rattle.rtk_rinex.proofs.RecordLemmas.{trim_end-blank}
use Rattle.rtk_rinex.proofs.RowLemmas.{IsTrimmed, trimmed}
use Rattle.rtk_rinex.proofs.ValuesLemmas.{length-fixed}

-- ---- the columns of a code

length-if : (v : ℤ) (a b : ℕ) (c : Bool) → is_written v ≡ c → length (observation (Some v) a b) ≡ 16
length-if v a b true e = rw e (length-append _ (a ∷ b ∷ []) ∙ ap (λ n. n + 2) (length-fixed v e))
length-if v a b false e = rw e refl

length-value : (v : Option ℤ) (a b : ℕ) → length (observation v a b) ≡ 16
length-value None a b = refl
length-value (Some v) a b = length-if v a b (is_written v) refl

pub length-cell : (o : Observed) → length (observations o) ≡ 48
length-cell o =
    let a = length-value o.range_mm 32 (strength_digit o.strength_millidbhz) in
    let b = length-value o.phase_millicycles (lli_digit o.slip o.half) (strength_digit o.strength_millidbhz) in
    let c = length-value (strength_value o.strength_millidbhz) 32 32 in
    simp length-append (omega (arith, a, b, c))

or-none : (a b : Bool) → (a || b) ≡ false → (a ≡ false) × (b ≡ false)
or-none true b e = cc
or-none false b e = (refl, e)

no_value : (v : Option ℤ) (a b : ℕ) → is_present v ≡ false → observation v a b ≡ replicate 16 32
no_value None a b e = refl
no_value (Some v) a b e = rw e refl

no_strength : (s : Option ℕ) → is_some s ≡ false → s ≡ None
no_strength None e = refl
no_strength (Some s) e = cc

-- a code without an observation shows blanks
pub blank-cell : (o : Observed) → has_observation o ≡ false → observations o ≡ replicate 48 32
blank-cell o e =
    let parts = or-none (is_present o.range_mm || is_present o.phase_millicycles) (is_some o.strength_millidbhz) e in
    let two = or-none (is_present o.range_mm) (is_present o.phase_millicycles) parts.0 in
    rw (no_value o.range_mm 32 (strength_digit o.strength_millidbhz) two.0, no_value o.phase_millicycles (lli_digit o.slip o.half) (strength_digit o.strength_millidbhz) two.1, no_strength o.strength_millidbhz parts.1) refl

length-shifted : (o : Observed) → length (observations_with_doppler o) ≡ 64
length-shifted o =
    let a = length-value o.range_mm 32 (strength_digit o.strength_millidbhz) in
    let b = length-value o.phase_millicycles (lli_digit o.slip o.half) (strength_digit o.strength_millidbhz) in
    let c = length-value o.doppler_millihertz 32 32 in
    let d = length-value (strength_value o.strength_millidbhz) 32 32 in
    simp length-append (omega (arith, a, b, c, d))

blank-shifted : (o : Observed) → has_observation_or_doppler o ≡ false → observations_with_doppler o ≡ replicate 64 32
blank-shifted o e =
    let all = or-none (has_observation o) (is_present o.doppler_millihertz) e in
    let parts = or-none (is_present o.range_mm || is_present o.phase_millicycles) (is_some o.strength_millidbhz) all.0 in
    let two = or-none (is_present o.range_mm) (is_present o.phase_millicycles) parts.0 in
    rw (no_value o.range_mm 32 (strength_digit o.strength_millidbhz) two.0, no_value o.phase_millicycles (lli_digit o.slip o.half) (strength_digit o.strength_millidbhz) two.1, no_value o.doppler_millihertz 32 32 all.1, no_strength o.strength_millidbhz parts.1) refl

-- ---- a file with Doppler shifts (true), or without them

pub length-code : (doppler : Bool) (o : Observed) → length (code_text doppler o) ≡ code_width doppler
length-code false o = length-cell o
length-code true o = length-shifted o

pub blank-code : (doppler : Bool) (o : Observed) → is_shown doppler o ≡ false → code_text doppler o ≡ replicate (code_width doppler) 32
blank-code false o e = blank-cell o e
blank-code true o e = blank-shifted o e

-- ---- the blanks at the end of a code

ends-if : (v : ℤ) (c : Bool) → is_written v ≡ c → drop 14 (observation (Some v) 32 32) ≡ 32 ∷ 32 ∷ []
ends-if v true e = rw e (drop_at (fixed 3 14 v) (32 ∷ 32 ∷ []) 14 (length-fixed v e))
ends-if v false e = rw e refl

blank-ends : (v : Option ℤ) → drop 14 (observation v 32 32) ≡ 32 ∷ 32 ∷ []
blank-ends None = refl
blank-ends (Some v) = ends-if v (is_written v) refl

after-front : (front more : List ℕ) (n : ℕ) → n ≡ length front + 14 → drop n (front ++ more) ≡ drop 14 more
after-front front more n e = rw e (drop-append-add front more 14)

-- a strength has no digits, so the last two columns are blank
code-ends : (doppler : Bool) (o : Observed) → drop (code_width doppler - 2) (code_text doppler o) ≡ 32 ∷ 32 ∷ []
code-ends false o =
    let a : List ℕ = observation o.range_mm 32 (strength_digit o.strength_millidbhz) in
    let b : List ℕ = observation o.phase_millicycles (lli_digit o.slip o.half) (strength_digit o.strength_millidbhz) in
    let l : length a ≡ 16 = length-value o.range_mm 32 (strength_digit o.strength_millidbhz) in
    let m : length b ≡ 16 = length-value o.phase_millicycles (lli_digit o.slip o.half) (strength_digit o.strength_millidbhz) in
    after-front (a ++ b) (observation (strength_value o.strength_millidbhz) 32 32) 46 (omega (arith, length-append a b, l, m)) ∙ blank-ends (strength_value o.strength_millidbhz)
code-ends true o =
    let a : List ℕ = observation o.range_mm 32 (strength_digit o.strength_millidbhz) in
    let b : List ℕ = observation o.phase_millicycles (lli_digit o.slip o.half) (strength_digit o.strength_millidbhz) in
    let d : List ℕ = observation o.doppler_millihertz 32 32 in
    let l : length a ≡ 16 = length-value o.range_mm 32 (strength_digit o.strength_millidbhz) in
    let m : length b ≡ 16 = length-value o.phase_millicycles (lli_digit o.slip o.half) (strength_digit o.strength_millidbhz) in
    let n : length d ≡ 16 = length-value o.doppler_millihertz 32 32 in
    after-front ((a ++ b) ++ d) (observation (strength_value o.strength_millidbhz) 32 32) 62 (omega (arith, length-append (a ++ b) d, length-append a b, l, m, n))
    ∙ blank-ends (strength_value o.strength_millidbhz)

blanks-end : (doppler : Bool) (more : List ℕ) → drop (code_width doppler - 2) (replicate (code_width doppler) 32 ++ more) ≡ 32 ∷ 32 ∷ more
blanks-end false more = refl
blanks-end true more = refl

pub length-shown : (doppler : Bool) (o : Observed) → length (take (code_width doppler - 2) (code_text doppler o)) ≡ code_width doppler - 2
length-shown doppler o = omega (arith, length-take (code_width doppler - 2) (code_text doppler o), length-code doppler o)

-- so a code is written over blanks by its other columns
pub code-shown : (doppler : Bool) (o : Observed) (text : List ℕ) → take (code_width doppler) text ≡ replicate (code_width doppler) 32
    → code_text doppler o ++ drop (code_width doppler) text ≡ take (code_width doppler - 2) (code_text doppler o) ++ drop (code_width doppler - 2) text
code-shown doppler o text blank =
    let w = code_width doppler in
    let g : List ℕ = code_text doppler o in
    let rest : drop (w - 2) text ≡ 32 ∷ 32 ∷ drop w text =
    ap (drop (w - 2)) (sym (take-append-drop w text) ∙ ap (λ (t : List ℕ). t ++ drop w text) blank) ∙ blanks-end doppler (drop w text) in
    ap (λ (t : List ℕ). t ++ drop w text) (sym (take-append-drop (w - 2) g)) ∙ append_assoc (take (w - 2) g) (drop (w - 2) g) (drop w text)
    ∙ ap (λ (t : List ℕ). take (w - 2) g ++ (t ++ drop w text)) (code-ends doppler o) ∙ ap (λ (t : List ℕ). take (w - 2) g ++ t) (sym rest)

-- ---- a number of codes

pub no-width : (doppler : Bool) → code_width doppler * 0 ≡ 0
no-width false = refl
no-width true = refl

pub more-width : (doppler : Bool) (n : ℕ) → code_width doppler * suc n ≡ code_width doppler + code_width doppler * n
more-width false n = omega arith
more-width true n = omega arith

pub wide : (doppler : Bool) → (48 ≤ code_width doppler) × (code_width doppler ≤ 64)
wide false = (omega arith, omega arith)
wide true = (omega arith, omega arith)

none-shown : (doppler : Bool) → is_shown doppler no_observation ≡ false
none-shown false = refl
none-shown true = refl

-- ---- the codes one after another

module _ (doppler : Bool) where
  pub length-cells : (os : List Observed) → length (flat_map (code_text doppler) os) ≡ code_width doppler * length os
  length-cells [] = sym (no-width doppler)
  length-cells (o ∷ os) =
      length-append (code_text doppler o) (flat_map (code_text doppler) os) ∙ omega (arith, length-code doppler o, length-cells os, more-width doppler (length os))

  -- the columns of a line before its name is written
  pub columns-length : (columns : List ℕ) (os : List Observed) (j : ℕ) → columns ≡ replicate 3 32 ++ (flat_map (code_text doppler) os ++ replicate j 32)
      → length columns ≡ 3 + code_width doppler * length os + j
  columns-length columns os j e =
      ap length e ∙ omega (arith, length-append (flat_map (code_text doppler) os) (replicate {A = ℕ} j 32), length-cells os, length-replicate {A = ℕ} j 32)

  -- a part of a text that stands after a first one
  pub over-front : (f ys g : List ℕ) (n m : ℕ) → n ≡ length f + m
      → take n (f ++ ys) ++ (g ++ drop (code_width doppler) (drop n (f ++ ys))) ≡ f ++ (take m ys ++ (g ++ drop (code_width doppler) (drop m ys)))
  over-front f ys g n m e =
      rw (e, take-append-add f ys m, drop-append-add f ys m) (append_assoc f (take m ys) (g ++ drop (code_width doppler) (drop m ys)))

  -- the columns of one of the codes are written
  pub code-put : (os : List Observed) (k : ℕ) (o : Observed) (rest : List ℕ) → k < length os
      → take (code_width doppler * k) (flat_map (code_text doppler) os ++ rest) ++ (code_text doppler o ++ drop (code_width doppler) (drop (code_width doppler * k) (flat_map (code_text doppler) os ++ rest)))
      ≡ flat_map (code_text doppler) (set os k o) ++ rest
  code-put [] k o rest lt = absurd (omega arith)
  code-put (x ∷ os) zero o rest lt =
      let text : List ℕ = flat_map (code_text doppler) (x ∷ os) ++ rest in
      ap (λ (n : ℕ). take n text ++ (code_text doppler o ++ drop (code_width doppler) (drop n text))) (no-width doppler)
      ∙ (rw (append_assoc (code_text doppler x) (flat_map (code_text doppler) os) rest, drop_at (code_text doppler x) (flat_map (code_text doppler) os ++ rest) (code_width doppler) (length-code doppler x))
      (sym (append_assoc (code_text doppler o) (flat_map (code_text doppler) os) rest)))
  code-put (x ∷ os) (suc k) o rest lt =
      let place : code_width doppler * suc k ≡ length (code_text doppler x) + code_width doppler * k = omega (arith, length-code doppler x, more-width doppler k) in
      rw (append_assoc (code_text doppler x) (flat_map (code_text doppler) os) rest)
      (over-front (code_text doppler x) (flat_map (code_text doppler) os ++ rest) (code_text doppler o) (code_width doppler * suc k) (code_width doppler * k) place
      ∙ ap (λ (ys : List ℕ). code_text doppler x ++ ys) (code-put os k o rest (omega arith)) ∙ sym (append_assoc (code_text doppler x) (flat_map (code_text doppler) (set os k o)) rest))

  -- the columns of a code that shows nothing are blank
  pub code-blank : (os : List Observed) (k : ℕ) (d : Observed) (rest : List ℕ) → k < length os → is_shown doppler (get_or os k d) ≡ false
      → take (code_width doppler) (drop (code_width doppler * k) (flat_map (code_text doppler) os ++ rest)) ≡ replicate (code_width doppler) 32
  code-blank [] k d rest lt none = absurd (omega arith)
  code-blank (x ∷ os) zero d rest lt none =
      ap (λ (n : ℕ). take (code_width doppler) (drop n (flat_map (code_text doppler) (x ∷ os) ++ rest))) (no-width doppler)
      ∙ ap (take (code_width doppler)) (append_assoc (code_text doppler x) (flat_map (code_text doppler) os) rest)
      ∙ take_at (code_text doppler x) (flat_map (code_text doppler) os ++ rest) (code_width doppler) (length-code doppler x) ∙ blank-code doppler x none
  code-blank (x ∷ os) (suc k) d rest lt none =
      let place : code_width doppler * suc k ≡ length (code_text doppler x) + code_width doppler * k = omega (arith, length-code doppler x, more-width doppler k) in
      ap (λ (n : ℕ). take (code_width doppler) (drop n (flat_map (code_text doppler) (x ∷ os) ++ rest))) place
      ∙ ap (λ (t : List ℕ). take (code_width doppler) (drop (length (code_text doppler x) + code_width doppler * k) t)) (append_assoc (code_text doppler x) (flat_map (code_text doppler) os) rest)
      ∙ ap (take (code_width doppler)) (drop-append-add (code_text doppler x) (flat_map (code_text doppler) os ++ rest) (code_width doppler * k))
      ∙ code-blank os k d rest (omega arith) none

  -- a code that shows nothing may show nothing in another way
  pub code-none : (os : List Observed) (k : ℕ) (o d : Observed) → is_shown doppler (get_or os k d) ≡ false → is_shown doppler o ≡ false → k < length os
      → flat_map (code_text doppler) (set os k o) ≡ flat_map (code_text doppler) os
  code-none [] k o d none other lt = refl
  code-none (x ∷ os) zero o d none other lt = ap (λ (t : List ℕ). t ++ flat_map (code_text doppler) os) (blank-code doppler o other ∙ sym (blank-code doppler x none))
  code-none (x ∷ os) (suc k) o d none other lt = ap (λ (t : List ℕ). code_text doppler x ++ t) (code-none os k o d none other (omega arith))

  or-third : (a b c : Bool) → (a || (b || c)) ≡ (b || (a || c))
  or-third true true c = refl
  or-third true false c = refl
  or-third false true c = refl
  or-third false false c = refl

  or-free : (a b c : Bool) → b ≡ false → (a || c) ≡ (a || (b || c))
  or-free a true c h = cc
  or-free a false c h = refl

  -- is an observation written after one more code?
  pub any-put : (os : List Observed) (k : ℕ) (o d : Observed) → k < length os → is_shown doppler (get_or os k d) ≡ false
      → list_any (is_shown doppler) (set os k o) ≡ (is_shown doppler o || list_any (is_shown doppler) os)
  any-put [] k o d lt none = absurd (omega arith)
  any-put (x ∷ os) zero o d lt none = or-free (is_shown doppler o) (is_shown doppler x) (list_any (is_shown doppler) os) none
  any-put (x ∷ os) (suc k) o d lt none =
      ap (λ (b : Bool). is_shown doppler x || b) (any-put os k o d (omega arith) none) ∙ or-third (is_shown doppler x) (is_shown doppler o) (list_any (is_shown doppler) os)

  -- codes that show nothing
  pub codes-blank : (n : ℕ) → flat_map (code_text doppler) (replicate n no_observation) ≡ replicate (code_width doppler * n) 32
  codes-blank zero = ap (λ (m : ℕ). replicate {A = ℕ} m 32) (sym (no-width doppler))
  codes-blank (suc n) =
      ap (λ (t : List ℕ). t ++ flat_map (code_text doppler) (replicate n no_observation)) (blank-code doppler no_observation (none-shown doppler))
      ∙ ap (λ (t : List ℕ). replicate (code_width doppler) 32 ++ t) (codes-blank n)
      ∙ replicate-append-replicate {A = ℕ} (code_width doppler) (code_width doppler * n) 32 ∙ ap (λ (m : ℕ). replicate {A = ℕ} m 32) (sym (more-width doppler n))

  pub none-written : (n : ℕ) → list_any (is_shown doppler) (replicate n no_observation) ≡ false
  none-written zero = refl
  none-written (suc n) = ap (λ (b : Bool). b || list_any (is_shown doppler) (replicate n no_observation)) (none-shown doppler) ∙ none-written n

-- ---- the line of a satellite

trim_end-blanks : (xs : List ℕ) (k : ℕ) → trim_end (xs ++ replicate k 32) ≡ trim_end xs
trim_end-blanks xs zero = ap trim_end (append-nil xs)
trim_end-blanks xs (suc k) =
    let one : xs ++ 32 ∷ replicate {A = ℕ} k 32 ≡ (xs ++ 32 ∷ []) ++ replicate k 32 = sym (append_assoc xs (32 ∷ []) (replicate k 32)) in
    ap trim_end one ∙ trim_end-blanks (xs ++ 32 ∷ []) k ∙ trim_end-blank xs

-- a line feed over the first blank after a text
end-of-line : (text : List ℕ) (r k : ℕ) → length text ≡ r → 0 < k → set (text ++ replicate k 32) r 10 ≡ (text ++ 10 ∷ []) ++ replicate (k - 1) 32
end-of-line text r zero l some = absurd (omega arith)
end-of-line text r (suc k) l some =
    let back : suc k - 1 ≡ k = omega arith in
    let seam : set (text ++ 32 ∷ replicate {A = ℕ} k 32) (length text) 10 ≡ text ++ 10 ∷ replicate k 32 = set-append_seam {A = ℕ} text 32 (replicate k 32) 10 in
    rw back ((rw l at seam) ∙ sym (append_assoc text (10 ∷ []) (replicate k 32)))

-- what is before the blanks of a line, and a line feed over the first of them
pub line-text : (line : List ℕ) (end r m : ℕ) → drop end line ≡ replicate m 32 → r ≤ end → end < length line
    → take r (take end line) ≡ trim_end (take end line) → (set line r 10 ≡ (trim_end line ++ 10 ∷ []) ++ replicate (length line - (r + 1)) 32) × (length (trim_end line) ≡ r)
unfolding IsTrimmed
line-text line end r m blank short inside cut =
    let front : trim_end line ≡ trim_end (take end line) =
    ap trim_end (sym (take-append-drop end line)) ∙ ap (λ (xs : List ℕ). trim_end (take end line ++ xs)) blank ∙ trim_end-blanks (take end line) m in
    let size : length (trim_end line) ≡ r =
    ap length (front ∙ sym cut) ∙ omega (arith, length-take r (take end line), length-take end line) in
    let t = trimmed line in
    let sum : r + t.0 ≡ length line = omega (arith, ap length t.1, length-append (trim_end line) (replicate {A = ℕ} t.0 32), length-replicate {A = ℕ} t.0 32, size) in
    let rest : t.0 - 1 ≡ length line - (r + 1) = omega arith in (
      ap (λ (xs : List ℕ). set xs r 10) (sym t.1) ∙ end-of-line (trim_end line) r t.0 size (omega arith)
          ∙ ap (λ (n : ℕ). (trim_end line ++ 10 ∷ []) ++ replicate n 32) rest,
      size,
    )

-- the name of a satellite of GPS
pub gps-named : (field : List ℕ) (s : ℕ) → field ≡ set (set (71 ∷ 71 ∷ 71 ∷ []) 2 (48 + s % 100 % 10)) 1 (48 + s % 100 / 10) → field ≡ 71 ∷ last_digits 2 s
gps-named field s named =
    let tens : s % 100 / 10 ≡ s / 10 % 10 = omega arith in
    let units : s % 100 % 10 ≡ s % 10 = omega arith in
    named ∙ (rw (tens, units) refl)

-- the name of a satellite over the first three columns
pub named-line : (line name field : List ℕ) → 3 ≤ length line → length name ≡ 3 → field ≡ set (set (set line 0 (get_or name 0 0)) 1 (get_or name 1 0)) 2 (get_or name 2 0)
    → field ≡ name ++ drop 3 line
named-line [] name field long three named = absurd (omega arith)
named-line (a ∷ []) name field long three named = absurd (omega arith)
named-line (a ∷ b ∷ []) name field long three named = absurd (omega arith)
named-line (a ∷ b ∷ c ∷ line) [] field long three named = absurd (omega (arith, three))
named-line (a ∷ b ∷ c ∷ line) (x ∷ []) field long three named = absurd (omega (arith, three))
named-line (a ∷ b ∷ c ∷ line) (x ∷ y ∷ []) field long three named = absurd (omega (arith, three))
named-line (a ∷ b ∷ c ∷ line) (x ∷ y ∷ z ∷ []) field long three named = named
named-line (a ∷ b ∷ c ∷ line) (x ∷ y ∷ z ∷ w ∷ name) field long three named = absurd (omega (arith, three))

-- what is after them stays
pub named-rest : (line name field : List ℕ) (end : ℕ) → length name ≡ 3 → 3 ≤ end → field ≡ name ++ drop 3 line → drop end field ≡ drop end line
named-rest line name field end three long is =
    let j = end - 3 in
    let e : end ≡ length name + j = omega (arith, three) in
    let back : 3 + j ≡ end = omega arith in
    ap (drop end) is ∙ ap (λ (n : ℕ). drop n (name ++ drop 3 line)) e ∙ drop-append-add name (drop 3 line) j ∙ drop-drop j 3 line ∙ ap (λ (n : ℕ). drop n line) back

-- the line of a satellite, from its columns and blanks after them
pub ended-line : (doppler : Bool) (columns name : List ℕ) (os : List Observed) (j : ℕ) → columns ≡ replicate 3 32 ++ (flat_map (code_text doppler) os ++ replicate j 32)
    → ended name columns ≡ named_line doppler name os
ended-line doppler columns name os j e =
    let text : List ℕ = flat_map (code_text doppler) os in
    let parts : name ++ (text ++ replicate j 32) ≡ (name ++ text) ++ replicate j 32 = sym (append_assoc name text (replicate j 32)) in
    ap (λ (xs : List ℕ). trim_end (name ++ drop 3 xs) ++ 10 ∷ []) e
    ∙ ap (λ (xs : List ℕ). xs ++ 10 ∷ []) (ap trim_end parts ∙ trim_end-blanks (name ++ text) j)

-- ---- the lines of the satellites

abbrev pub lines_of_rows : List SatelliteRow → List ℕ
lines_of_rows rows = flat_map satellite_line (filter has_line rows)

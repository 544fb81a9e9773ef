-- What a code shows in a file of any systems, with Doppler shifts (true) or without them, and codes one after another.
use Rattle.std.proofs.Common.{◌≡◌, ℕ, suc, ◌+◌, ◌-◌, ◌*◌, ◌≤◌, Bool, true, false, ◌||◌, ◌&&◌, List, [], ◌∷◌, ◌++◌, length, take, drop, replicate, ℤ, Option, None, inl, inr, refl, sym, ◌∙◌, ap, arith, length-append, length-drop, append_assoc, flat_map}
use Rattle.std.specs.Prelude.{All}
use Rattle.std.specs.List.{list_any}
use Rattle.std.proofs.lemmas.Bool.Decides.{leb_tells}
use Rattle.std.proofs.lemmas.List.{append-nil, length-take, take_all, take-append-drop, replicate-append-replicate}
use Rattle.std.proofs.lemmas.List.Elements.{All-head, All-tail}
use Rattle.rtk_rinex.specs.declared.epoch_table.Observed.{Observed}
use Rattle.rtk_rinex.specs.Columns.{left}
use Rattle.rtk_rinex.specs.Record.{is_present, observation, observations, observations_with_doppler, code_text, code_width, has_observation, is_shown, lli_digit, strength_digit, strength_value}
use Rattle.rtk_rinex.specs.Table.{IsObserved, IsObservedWithDoppler, IsObservedIn}
use Rattle.rtk_rinex.proofs.CellLemmas.{one_value, or-none, and-left, and-right, solid-value, solid-cell, no_more, left-nil, drop_more}
use Rattle.rtk_rinex.proofs.DigitsLemmas.{take-exact, drop-exact}
use Rattle.rtk_rinex.proofs.ValuesLemmas.{are_blanks, are_blanks-append, code_shown, observed_of-observations, length-observation}
use Rattle.rtk_rinex.proofs.WrittenLemmas.{length-code, blank-code, no-width, more-width}

-- ---- a code with its shift

-- the same without the shift, and with another one
abbrev plain : Observed → Observed
plain o = record { range_mm = o.range_mm; phase_millicycles = o.phase_millicycles; doppler_millihertz = None; strength_millidbhz = o.strength_millidbhz; slip = o.slip; half = o.half }

abbrev with_shift : Observed → Option ℤ → Observed
with_shift o v = record { range_mm = o.range_mm; phase_millicycles = o.phase_millicycles; doppler_millihertz = v; strength_millidbhz = o.strength_millidbhz; slip = o.slip; half = o.half }

plain-observed : (o : Observed) → IsObservedWithDoppler o → IsObserved (plain o)
plain-observed o h = record { range = h.range; phase = h.phase; strength = h.strength; lock = h.lock; doppler = refl }

-- the columns before the shift, of it, and after it
abbrev before_shift : Observed → List ℕ
before_shift o = observation o.range_mm 32 (strength_digit o.strength_millidbhz) ++ observation o.phase_millicycles (lli_digit o.slip o.half) (strength_digit o.strength_millidbhz)

abbrev shift_of : Observed → List ℕ
shift_of o = observation o.doppler_millihertz 32 32

abbrev after_shift : Observed → List ℕ
after_shift o = observation (strength_value o.strength_millidbhz) 32 32

long-before : (o : Observed) → IsObservedWithDoppler o → length (before_shift o) ≡ 32
long-before o h =
    let a = length-observation o.range_mm 32 (strength_digit o.strength_millidbhz) h.range in
    let b = length-observation o.phase_millicycles (lli_digit o.slip o.half) (strength_digit o.strength_millidbhz) h.phase in
    length-append (observation o.range_mm 32 (strength_digit o.strength_millidbhz)) (observation o.phase_millicycles (lli_digit o.slip o.half) (strength_digit o.strength_millidbhz)) ∙ omega (arith, a, b)

same-shifted : (o p : Observed) → IsObservedWithDoppler o → IsObservedWithDoppler p → observations_with_doppler o ≡ observations_with_doppler p → o ≡ p
same-shifted o p h g e =
    let a = before_shift o in
    let b = before_shift p in
    let d = shift_of o in
    let f = shift_of p in
    let c = after_shift o in
    let k = after_shift p in
    let a32 = long-before o h in
    let b32 = long-before p g in
    let d16 = length-observation o.doppler_millihertz 32 32 h.doppler in
    let f16 = length-observation p.doppler_millihertz 32 32 g.doppler in
    let whole : a ++ (d ++ c) ≡ b ++ (f ++ k) = sym (append_assoc a d c) ∙ e ∙ append_assoc b f k in
    let front : a ≡ b = sym (take-exact 32 a (d ++ c) a32) ∙ ap (take 32) whole ∙ take-exact 32 b (f ++ k) b32 in
    let back : d ++ c ≡ f ++ k = sym (drop-exact 32 a (d ++ c) a32) ∙ ap (drop 32) whole ∙ drop-exact 32 b (f ++ k) b32 in
    let shift : d ≡ f = sym (take-exact 16 d c d16) ∙ ap (take 16) back ∙ take-exact 16 f k f16 in
    let end : c ≡ k = sym (drop-exact 16 d c d16) ∙ ap (drop 16) back ∙ drop-exact 16 f k f16 in
    let text : observations (plain o) ≡ observations (plain p) = ap (λ (t : List ℕ). t ++ c) front ∙ ap (λ (t : List ℕ). b ++ t) end in
    let plains : plain o ≡ plain p =
    sym (observed_of-observations (plain o) (plain-observed o h)) ∙ ap code_shown text ∙ observed_of-observations (plain p) (plain-observed p g) in
    let value : o.doppler_millihertz ≡ p.doppler_millihertz = one_value o.doppler_millihertz p.doppler_millihertz 32 32 32 32 h.doppler g.doppler shift in
    ap (λ (x : Observed). with_shift x o.doppler_millihertz) plains ∙ ap (λ (v : Option ℤ). with_shift p v) value

-- columns show one value of a code at most
pub one-code : (doppler : Bool) (o p : Observed) → IsObservedIn doppler o → IsObservedIn doppler p → code_text doppler o ≡ code_text doppler p → o ≡ p
one-code false o p h g e = sym (observed_of-observations o h) ∙ ap code_shown e ∙ observed_of-observations p g
one-code true o p h g e = same-shifted o p h g e

three-blanks : (a b c : Bool) → (a && c) ≡ false → ((a && b) && c) ≡ false
three-blanks true true c e = e
three-blanks true false c e = refl
three-blanks false b c e = refl

solid-if-shown : (o : Observed) (b : Bool) → has_observation o ≡ b → (b || is_present o.doppler_millihertz) ≡ true → IsObservedWithDoppler o → are_blanks (observations_with_doppler o) ≡ false
solid-if-shown o true is e h =
    let a = before_shift o in
    let d = shift_of o in
    let c = after_shift o in
    let two : (are_blanks a && are_blanks c) ≡ false = sym (are_blanks-append a c) ∙ solid-cell (plain o) (plain-observed o h) is in
    are_blanks-append (a ++ d) c ∙ ap (λ (b : Bool). b && are_blanks c) (are_blanks-append a d) ∙ three-blanks (are_blanks a) (are_blanks d) (are_blanks c) two
solid-if-shown o false is e h =
    let a = before_shift o in
    let d = shift_of o in
    let c = after_shift o in
    are_blanks-append (a ++ d) c
    ∙ and-left (are_blanks (a ++ d)) (are_blanks c) (are_blanks-append a d ∙ and-right (are_blanks a) (are_blanks d) (solid-value o.doppler_millihertz 32 32 e))

pub solid-code : (doppler : Bool) (o : Observed) → IsObservedIn doppler o → is_shown doppler o ≡ true → are_blanks (code_text doppler o) ≡ false
solid-code false o h e = solid-cell o h e
solid-code true o h e = solid-if-shown o (has_observation o) refl e h

-- ---- columns with the blanks at their end

pub left-full : (w : ℕ) (columns : List ℕ) → length columns ≡ w → left w columns ≡ columns
unfolding left
left-full w columns e = let none : w - length columns ≡ 0 = omega (arith, e) in rw none (append-nil columns)

left-short : (w m : ℕ) (xs : List ℕ) → length xs ≤ w → left (w + m) xs ≡ left w xs ++ replicate m 32
unfolding left
left-short w m xs h =
    let a : ℕ = w - length xs in
    let sum : (w + m) - length xs ≡ a + m = omega (arith, h) in
    ap (λ (k : ℕ). xs ++ replicate k 32) sum ∙ ap (λ (t : List ℕ). xs ++ t) (sym (replicate-append-replicate {A = ℕ} a m 32)) ∙ sym (append_assoc xs (replicate a 32) (replicate m 32))

left-long : (w m : ℕ) (xs : List ℕ) → w ≤ length xs → left (w + m) xs ≡ take w xs ++ left m (drop w xs)
unfolding left
left-long w m xs h =
    let size : length (drop w xs) ≡ length xs - w = length-drop w xs in
    let rest : (w + m) - length xs ≡ m - length (drop w xs) = omega (arith, size, h) in
    ap (λ (t : List ℕ). t ++ replicate ((w + m) - length xs) 32) (sym (take-append-drop w xs))
    ∙ append_assoc (take w xs) (drop w xs) (replicate ((w + m) - length xs) 32) ∙ ap (λ (k : ℕ). take w xs ++ (drop w xs ++ replicate k 32)) rest

pub left-two : (w m : ℕ) (xs : List ℕ) → left (w + m) xs ≡ left w (take w xs) ++ left m (drop w xs)
left-two w m xs =
    elim (leb_tells (length xs) w) [
      | inl low ↦
          let front : take w xs ≡ xs = take_all w xs low.1 in
          let back : drop w xs ≡ [] = no_more w xs low.1 in
          rw (front, back, left-nil m) (left-short w m xs low.1)
      | inr high ↦
          let long : length (take w xs) ≡ w = length-take w xs ∙ omega (arith, high.1) in
          left-long w m xs (omega (arith, high.1)) ∙ ap (λ (t : List ℕ). t ++ left m (drop w xs)) (sym (left-full w (take w xs) long))
    ]

-- ---- codes one after another

module _ (doppler : Bool) where
  pub left-code : (n : ℕ) (xs : List ℕ)
      → left (code_width doppler * suc n) xs ≡ left (code_width doppler) (take (code_width doppler) xs) ++ left (code_width doppler * n) (drop (code_width doppler) xs)
  left-code n xs = ap (λ (k : ℕ). left k xs) (more-width doppler n) ∙ left-two (code_width doppler) (code_width doppler * n) xs

  -- the columns of one code, and those after it
  pub first-code : (o p : Observed) (x y : List ℕ) → code_text doppler o ++ x ≡ code_text doppler p ++ y → (code_text doppler o ≡ code_text doppler p) × (x ≡ y)
  first-code o p x y e = (
    sym (take-exact (code_width doppler) (code_text doppler o) x (length-code doppler o)) ∙ ap (take (code_width doppler)) e ∙ take-exact (code_width doppler) (code_text doppler p) y (length-code doppler p),
    sym (drop-exact (code_width doppler) (code_text doppler o) x (length-code doppler o)) ∙ ap (drop (code_width doppler)) e ∙ drop-exact (code_width doppler) (code_text doppler p) y (length-code doppler p),
  )

  pub same-codes : (os ps : List Observed) → All (IsObservedIn doppler) os → All (IsObservedIn doppler) ps → length os ≡ length ps
      → flat_map (code_text doppler) os ≡ flat_map (code_text doppler) ps → os ≡ ps
  same-codes [] [] h g n e = refl
  same-codes [] (p ∷ ps) h g n e = absurd (omega (arith, n))
  same-codes (o ∷ os) [] h g n e = absurd (omega (arith, n))
  same-codes (o ∷ os) (p ∷ ps) h g n e =
      let two = first-code o p (flat_map (code_text doppler) os) (flat_map (code_text doppler) ps) e in
      let one = one-code doppler o p (All-head (IsObservedIn doppler) o os h) (All-head (IsObservedIn doppler) p ps g) two.0 in
      let others = same-codes os ps (All-tail (IsObservedIn doppler) o os h) (All-tail (IsObservedIn doppler) p ps g) (omega (arith, n)) two.1 in
      ap (λ (x : Observed). x ∷ os) one ∙ ap (λ (xs : List Observed). p ∷ xs) others

  -- codes that show nothing are blank, and others are not
  pub blank-codes : (os : List Observed) → list_any (is_shown doppler) os ≡ false → (k : ℕ) × (flat_map (code_text doppler) os ≡ replicate k 32)
  blank-codes [] e = (0, refl)
  blank-codes (o ∷ os) e =
      let parts = or-none (is_shown doppler o) (list_any (is_shown doppler) os) e in
      let rest = blank-codes os parts.1 in (
        code_width doppler + rest.0,
        ap (λ (t : List ℕ). t ++ flat_map (code_text doppler) os) (blank-code doppler o parts.0) ∙ ap (λ (t : List ℕ). replicate (code_width doppler) 32 ++ t) rest.1
            ∙ replicate-append-replicate {A = ℕ} (code_width doppler) rest.0 32,
      )

  solid-if : (o : Observed) (os : List Observed) (c : Bool) → is_shown doppler o ≡ c → IsObservedIn doppler o → (c || list_any (is_shown doppler) os) ≡ true
      → (list_any (is_shown doppler) os ≡ true → are_blanks (flat_map (code_text doppler) os) ≡ false) → are_blanks (code_text doppler o ++ flat_map (code_text doppler) os) ≡ false
  solid-if o os true is h e rest =
      are_blanks-append (code_text doppler o) (flat_map (code_text doppler) os)
      ∙ and-left (are_blanks (code_text doppler o)) (are_blanks (flat_map (code_text doppler) os)) (solid-code doppler o h is)
  solid-if o os false is h e rest =
      are_blanks-append (code_text doppler o) (flat_map (code_text doppler) os)
      ∙ and-right (are_blanks (code_text doppler o)) (are_blanks (flat_map (code_text doppler) os)) (rest e)

  pub solid-codes : (os : List Observed) → All (IsObservedIn doppler) os → list_any (is_shown doppler) os ≡ true → are_blanks (flat_map (code_text doppler) os) ≡ false
  solid-codes [] h e = cc
  solid-codes (o ∷ os) h e =
      solid-if o os (is_shown doppler o) refl (All-head (IsObservedIn doppler) o os h) e (λ more. solid-codes os (All-tail (IsObservedIn doppler) o os h) more)

  -- the columns of the code after k codes, where they were read
  pub code-at : (k w : ℕ) (columns read : List ℕ) → w ≡ code_width doppler → read ≡ take w (drop (w * k) columns) → read ≡ take (code_width doppler) (drop (code_width doppler * k) columns)
  code-at k w columns read e is = is ∙ ap (λ (n : ℕ). take n (drop (n * k) columns)) e

  -- the columns after one more code
  pub next-place : (k : ℕ) (columns : List ℕ) → drop (code_width doppler * (k + 1)) columns ≡ drop (code_width doppler) (drop (code_width doppler * k) columns)
  next-place k columns =
      let one : k + 1 ≡ suc k = omega arith in
      let places : code_width doppler * (k + 1) ≡ code_width doppler * k + code_width doppler = ap (λ (n : ℕ). code_width doppler * n) one ∙ more-width doppler k ∙ omega arith in
      ap (λ (n : ℕ). drop n columns) places ∙ drop_more (code_width doppler * k) (code_width doppler) columns

  -- no columns are left after those of all codes
  pub no-codes-left : (n k : ℕ) (columns : List ℕ) → length columns ≤ code_width doppler * n → k ≡ n → left (code_width doppler * (n - k)) (drop (code_width doppler * k) columns) ≡ []
  no-codes-left n k columns few e =
      let none : n - k ≡ 0 = omega (arith, e) in
      let short : length columns ≤ code_width doppler * k = rw e few in
      ap (λ (m : ℕ). left (code_width doppler * m) (drop (code_width doppler * k) columns)) none
      ∙ ap (λ (m : ℕ). left m (drop (code_width doppler * k) columns)) (no-width doppler)
      ∙ ap (left 0) (no_more (code_width doppler * k) columns short) ∙ left-nil 0

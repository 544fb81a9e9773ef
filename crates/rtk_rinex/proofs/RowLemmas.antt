-- What a satellite line shows is its row.
use Rattle.std.proofs.Common.{◌≡◌, ℕ, zero, suc, ◌+◌, ◌-◌, ◌*◌, ◌/◌, ◌%◌, ◌<◌, ◌≤◌, Bool, true, false, ◌==◌, if◌then◌else◌, None, List, [], ◌∷◌, ◌++◌, length, take, drop, replicate, get_or, All, refl, sym, ◌∙◌, ap, arith, length-append, append_assoc}
use Rattle.std.specs.Int.{IsInRange}
use Rattle.std.specs.List.{flat_map}
use Rattle.std.proofs.Math.Seq.{drop-append-add}
use Rattle.std.proofs.lemmas.Bool.Decides.{nat_tests}
use Rattle.std.proofs.lemmas.Grind.{take_at_read}
use Rattle.std.proofs.lemmas.List.{take_all, length-replicate, replicate-append-replicate}
use Rattle.std.proofs.lemmas.List.Elements.{All-head, All-tail}
use Rattle.rtk_rinex.specs.declared.epoch_table.Observed.{Observed}
use Rattle.rtk_rinex.specs.declared.epoch_table.SatelliteRow.{SatelliteRow}
use Rattle.rtk_obs.specs.CivilText.{last_digits}
use Rattle.rtk_rinex.specs.Columns.{left}
use Rattle.rtk_rinex.specs.Record.{observation, observations, lli_digit, strength_digit, strength_value, trim_end, before_trimmed, satellite_line}
use Rattle.rtk_rinex.specs.Table.{IsObserved, IsTableRow}
use Rattle.rtk_rinex.specs.Steps.Digits.{digits_from}
use Rattle.rtk_rinex.proofs.ValuesLemmas.{code_shown, length-observation, observed_of-observations, IsValue-strength}
use Rattle.rtk_rinex.proofs.DigitsLemmas.{take-exact, digits_from-last_2}

-- ---- what a line shows

-- what n codes show in the columns after the satellite, 48 for each
abbrev pub observations_in : ℕ → List ℕ → List Observed
observations_in zero columns = []
observations_in (suc n) columns = observations_in n columns ++ code_shown (take 48 (drop (48 * n) columns)) ∷ []

-- the row that a satellite line of n codes shows; blanks fill the line up to the columns of 16
-- codes
abbrev pub row_in : ℕ → List ℕ → SatelliteRow
row_in n line =
    let columns = left 771 line in
    record { satellite = digits_from 0 (take 2 (drop 1 columns)); observed = record { items = observations_in n (drop 3 columns) } }

-- ---- blanks at the end

-- a text is what is left of it without the blanks at its end, and these blanks
unfoldable pub IsTrimmed : List ℕ → List ℕ → Type 0
IsTrimmed text rest = (k : ℕ) × (rest ++ replicate k 32 ≡ text)

trimmed_if : (x : ℕ) (xs : List ℕ) (b : Bool) → (x == 32) ≡ b → IsTrimmed xs [] → IsTrimmed (x ∷ xs) (if b then [] else x ∷ [])
unfolding IsTrimmed
trimmed_if x xs true e h = let same : x ≡ 32 = grind (arith, nat_tests) in (suc h.0, rw (same, h.1) refl)
trimmed_if x xs false e h = (h.0, rw h.1 refl)

trimmed_front : (x : ℕ) (xs rest : List ℕ) → IsTrimmed xs rest → IsTrimmed (x ∷ xs) (before_trimmed x rest)
unfolding IsTrimmed
trimmed_front x xs [] h = trimmed_if x xs (x == 32) refl h
trimmed_front x xs (y ∷ ys) h = (h.0, rw h.1 refl)

pub trimmed : (text : List ℕ) → IsTrimmed text (trim_end text)
unfolding IsTrimmed trim_end
trimmed [] = (0, refl)
trimmed (x ∷ xs) = trimmed_front x xs (trim_end xs) (trimmed xs)

-- ---- the columns of a row

pub length-observations : (o : Observed) → IsObserved o → length (observations o) ≡ 48
length-observations o h =
    let digit = strength_digit o.strength_millidbhz in
    let a : List ℕ = observation o.range_mm 32 digit in
    let b : List ℕ = observation o.phase_millicycles (lli_digit o.slip o.half) digit in
    let c : List ℕ = observation (strength_value o.strength_millidbhz) 32 32 in
    let a16 : length a ≡ 16 = length-observation o.range_mm 32 digit h.range in
    let b16 : length b ≡ 16 = length-observation o.phase_millicycles (lli_digit o.slip o.half) digit h.phase in
    let c16 : length c ≡ 16 = length-observation (strength_value o.strength_millidbhz) 32 32 (IsValue-strength o.strength_millidbhz h.strength) in
    length-append (a ++ b) c ∙ omega (arith, length-append a b)

pub length-all : (os : List Observed) → All IsObserved os → length (flat_map observations os) ≡ 48 * length os
length-all [] h = refl
length-all (o ∷ os) h =
    length-append (observations o) (flat_map observations os)
    ∙ omega (arith, length-observations o (All-head IsObserved o os h), length-all os (All-tail IsObserved o os h))

-- the columns of the k-th code
piece : (os : List Observed) (rest : List ℕ) (k : ℕ) (d : Observed) → All IsObserved os → k < length os
    → take 48 (drop (48 * k) (flat_map observations os ++ rest)) ≡ observations (get_or os k d)
piece [] rest k d h lt = absurd (omega arith)
piece (o ∷ os) rest zero d h lt =
    rw (append_assoc (observations o) (flat_map observations os) rest)
    (take-exact 48 (observations o) (flat_map observations os ++ rest) (length-observations o (All-head IsObserved o os h)))
piece (o ∷ os) rest (suc k) d h lt =
    let long : length (observations o) ≡ 48 = length-observations o (All-head IsObserved o os h) in
    let places : 48 * suc k ≡ length (observations o) + 48 * k = omega arith in
    rw (append_assoc (observations o) (flat_map observations os) rest, places, drop-append-add (observations o) (flat_map observations os ++ rest) (48 * k))
    (piece os rest k d (All-tail IsObserved o os h) (omega arith))

no_observed : Observed
no_observed = record { range_mm = None; phase_millicycles = None; doppler_millihertz = None; strength_millidbhz = None; slip = false; half = false }

pub cells : (n : ℕ) (os : List Observed) (rest : List ℕ) → All IsObserved os → n ≤ length os
    → observations_in n (flat_map observations os ++ rest) ≡ take n os
cells zero os rest h le = refl
cells (suc n) os rest h le =
    let inside : n < length os = omega arith in
    let one : code_shown (take 48 (drop (48 * n) (flat_map observations os ++ rest))) ≡ get_or os n no_observed =
    ap code_shown (piece os rest n no_observed h inside) ∙ observed_of-observations (get_or os n no_observed) (h n no_observed inside) in
    let next : suc n ≡ n + 1 = omega arith in
    let more : take (suc n) os ≡ take n os ++ get_or os n no_observed ∷ [] = ap (λ m. take m os) next ∙ (take_at_read os n no_observed inside).1 in
    rw (cells n os rest h (omega arith), one) (sym more)

-- ---- the row

-- the columns of a satellite line, with the blanks at its end
unfoldable pub whole : SatelliteRow → List ℕ
whole r = 71 ∷ last_digits 2 r.satellite ++ flat_map observations r.observed.items

pub length-whole : (w : ℕ) (r : SatelliteRow) → IsTableRow w r → length (whole r) ≡ 3 + 48 * w
unfolding whole
length-whole w r h = omega (arith, length-all r.observed.items h.observed, h.width)

-- blanks fill the line up to the columns of 16 codes
padded-whole : (w : ℕ) (r : SatelliteRow) → w ≤ 16 → IsTableRow w r → (blanks : List ℕ) × (left 771 (trim_end (whole r)) ≡ whole r ++ blanks)
unfolding left IsTrimmed
padded-whole w r le h =
    let t = trimmed (whole r) in
    let kept : List ℕ = trim_end (whole r) in
    let sum : length kept + t.0 ≡ length (whole r) = sym (length-append kept (replicate t.0 32) ∙ ap (λ n. length kept + n) (length-replicate t.0 32)) ∙ ap length t.1 in
    let long = length-whole w r h in
    let n = 771 - length (whole r) in
    let places : 771 - length kept ≡ t.0 + n = omega arith in
    let two : replicate {A = ℕ} (t.0 + n) 32 ≡ replicate t.0 32 ++ replicate n 32 = sym (replicate-append-replicate t.0 n 32) in
    (replicate n 32, rw (places, two, ← append_assoc kept (replicate t.0 32) (replicate n 32), t.1) refl)

abbrev row_from : ℕ → List Observed → SatelliteRow
row_from satellite os = record { satellite = satellite; observed = record { items = os } }

same_row : (s s₂ : ℕ) (os os₂ : List Observed) → s ≡ s₂ → os ≡ os₂ → row_from s os ≡ row_from s₂ os₂
same_row s s₂ os os₂ e f = cc

row_of-columns : (w : ℕ) (r : SatelliteRow) (blanks : List ℕ) → IsTableRow w r
    → row_from (digits_from 0 (take 2 (drop 1 (whole r ++ blanks)))) (observations_in w (drop 3 (whole r ++ blanks))) ≡ r
unfolding whole
row_of-columns w r blanks h =
    let os = r.observed.items in
    let all : observations_in w (flat_map observations os ++ blanks) ≡ os =
    cells w os blanks h.observed (omega (arith, h.width)) ∙ take_all w os (omega (arith, h.width)) in
    same_row _ r.satellite _ os (digits_from-last_2 r.satellite (omega (arith, h.satellite))) all

-- a line that is a satellite line shows its row
pub record ShowsRow (w : ℕ) (line : List ℕ) (r : SatelliteRow) : Type 0 where
  pub some : 0 < length line
  pub few : length line ≤ 772
  pub row : row_in w (take (length line - 1) line) ≡ r

shows : (w : ℕ) (r : SatelliteRow) → w ≤ 16 → IsTableRow w r → ShowsRow w (trim_end (whole r) ++ 10 ∷ []) r
unfolding IsTrimmed
shows w r le h =
    let kept : List ℕ = trim_end (whole r) in
    let t = trimmed (whole r) in
    let sum : length kept + t.0 ≡ length (whole r) = sym (length-append kept (replicate t.0 32) ∙ ap (λ n. length kept + n) (length-replicate t.0 32)) ∙ ap length t.1 in
    let long = length-whole w r h in
    let one : length (kept ++ 10 ∷ []) ≡ length kept + 1 = length-append kept (10 ∷ []) in
    let back : length (kept ++ 10 ∷ []) - 1 ≡ length kept = omega arith in
    let cut : take (length kept) (kept ++ 10 ∷ []) ≡ kept = take-exact (length kept) kept (10 ∷ []) refl in
    let columns = padded-whole w r le h in
    record {
      some = omega arith;
      few = omega arith;
      row = rw (back, cut, columns.1) (row_of-columns w r columns.0 h);
    }

pub row-shows : (w : ℕ) (line : List ℕ) (r : SatelliteRow) → w ≤ 16 → IsTableRow w r → line ≡ satellite_line r → ShowsRow w line r
unfolding whole
row-shows w line r le h e = rw e (shows w r le h)

-- ---- the satellite that a line names

pub named : (line : List ℕ) (s : ℕ) → IsInRange 1 32 s → take 3 line ≡ 71 ∷ last_digits 2 s
    → (get_or line 0 0 ≡ 71) × (get_or line 1 0 ≡ 48 + s / 10 % 10) × (get_or line 2 0 ≡ 48 + s % 10)
    × (digits_from 0 (get_or line 1 0 ∷ get_or line 2 0 ∷ []) ≡ s)
named [] s h e = absurd (let long = ap length e in omega (arith, long))
named (x ∷ []) s h e = absurd (let long = ap length e in omega (arith, long))
named (x ∷ y ∷ []) s h e = absurd (let long = ap length e in omega (arith, long))
named (x ∷ y ∷ z ∷ rest) s h e =
    let first : x ≡ 71 = ap (λ (xs : List ℕ). get_or xs 0 0) e in
    let tens : y ≡ 48 + s / 10 % 10 = ap (λ (xs : List ℕ). get_or xs 1 0) e in
    let units : z ≡ 48 + s % 10 = ap (λ (xs : List ℕ). get_or xs 2 0) e in
    (first, tens, units, rw (tens, units) (digits_from-last_2 s (omega (arith, h))))

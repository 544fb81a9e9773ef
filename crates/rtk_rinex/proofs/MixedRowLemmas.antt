-- The line of a satellite of any system: its name, its columns, and the one row that it shows.
use Rattle.std.proofs.Common.{◌≡◌, ◌≢◌, ℕ, zero, suc, ◌+◌, ◌-◌, ◌*◌, ◌/◌, ◌%◌, ◌<◌, ◌≤◌, Bool, true, false, List, [], ◌∷◌, ◌++◌, length, take, drop, replicate, get_or, Some, refl, sym, ◌∙◌, ap, arith, length-append, length-drop, append_assoc, flat_map}
use Rattle.std.specs.Prelude.{All, IsTrue}
use Rattle.std.specs.List.{list_any}
use Rattle.std.proofs.lemmas.List.{length-replicate, length-take, take-append-drop, take-append-le}
use Rattle.std.proofs.lemmas.List.Elements.{All-nil, All-cons, All-head, All-tail}
use Rattle.std.proofs.lemmas.Option.{get_or_from_slice_get, slice_get-get_or}
use Rattle.rtk_message.specs.declared.system.System.{System}
use Rattle.rtk_message.specs.declared.system.System.TheVariants.{Gps, Glonass, Galileo, Beidou, Qzss, Sbas, Navic}
use Rattle.rtk_obs.specs.CivilText.{last_digits}
use Rattle.rtk_obs.specs.SatelliteIndex.{IsSatelliteIndex, system_at, bit_at, letter_of, name_offset, index_name}
use Rattle.rtk_rinex.specs.declared.epoch_table.Observed.{Observed}
use Rattle.rtk_rinex.specs.declared.epoch_table.SatelliteRow.{SatelliteRow}
use Rattle.rtk_rinex.specs.Columns.{left}
use Rattle.rtk_rinex.specs.Lines.{IsLine}
use Rattle.rtk_rinex.specs.Record.{code_text, code_width, is_shown, trim_end}
use Rattle.rtk_rinex.specs.Table.{IsObservedIn}
use Rattle.rtk_rinex.specs.MixedRecord.{mixed_satellite_line}
use Rattle.rtk_rinex.specs.MixedForm.{FormView, width_at, has_phases}
use Rattle.rtk_rinex.specs.MixedTable.{IsMixedRow, HasNoPhase}
use Rattle.rtk_rinex.specs.MixedCheckLine.{IsMixedForm}
use Rattle.rtk_rinex.specs.Steps.ReadRecords.{HasNoMark}
use Rattle.rtk_rinex.specs.Steps.MixedReadRecords.{IsMixedCell, AreMixedCells, AreCodes}
use Rattle.rtk_rinex.proofs.CellLemmas.{trim_end-blanks, trim_end-solid, some-columns, same_end}
use Rattle.rtk_rinex.proofs.DigitsLemmas.{take-exact, drop-exact, length-left}
use Rattle.rtk_rinex.proofs.FormLemmas.{solid, get_front}
use Rattle.rtk_rinex.proofs.PlainLemmas.{IsPlain, no-end, plain-line, plain-both, plain-last_digits, plain-codes, plain-trimmed}
use Rattle.rtk_rinex.proofs.MixedCodeLemmas.{left-code, same-codes, blank-codes, solid-codes, one-code}
use Rattle.rtk_rinex.proofs.RecordLemmas.{trim_end-front}
use Rattle.rtk_rinex.proofs.RowLemmas.{IsTrimmed, trimmed}
use Rattle.rtk_rinex.proofs.SatelliteRangeLemmas.{same_satellite}
use Rattle.rtk_rinex.proofs.WrittenLemmas.{length-code, length-cells, no-width, more-width}

-- ---- the name

plain-letter : (s : System) → IsPlain (letter_of s)
plain-letter Gps = (omega arith, λ e. omega (arith, e))
plain-letter Glonass = (omega arith, λ e. omega (arith, e))
plain-letter Galileo = (omega arith, λ e. omega (arith, e))
plain-letter Beidou = (omega arith, λ e. omega (arith, e))
plain-letter Qzss = (omega arith, λ e. omega (arith, e))
plain-letter Sbas = (omega arith, λ e. omega (arith, e))
plain-letter Navic = (omega arith, λ e. omega (arith, e))

abbrev number_of : ℕ → ℕ
number_of s = bit_at s + name_offset (system_at s)

-- the name, and the columns without the blanks at their end
pub mixed_line-is : (doppler : Bool) (r : SatelliteRow)
    → mixed_satellite_line doppler r ≡ letter_of (system_at r.satellite) ∷ (48 + number_of r.satellite / 10 % 10) ∷ (48 + number_of r.satellite % 10)
    ∷ (trim_end (flat_map (code_text doppler) r.observed.items) ++ 10 ∷ [])
mixed_line-is doppler r =
    let units : ℕ = 48 + number_of r.satellite % 10 in
    let front : List ℕ = letter_of (system_at r.satellite) ∷ (48 + number_of r.satellite / 10 % 10) ∷ [] in
    let digit : units ≢ 32 = λ e. omega (arith, e) in
    ap (λ (xs : List ℕ). xs ++ 10 ∷ []) (trim_end-front front units (flat_map (code_text doppler) r.observed.items) digit)

-- a line names the satellite of its row
pub mixed-named : (doppler : Bool) (line : List ℕ) (r : SatelliteRow) → line ≡ mixed_satellite_line doppler r → take 3 line ≡ index_name r.satellite
mixed-named doppler line r e = rw (e, mixed_line-is doppler r) refl

pub one-satellite : (line : List ℕ) (s t : ℕ) → IsSatelliteIndex s → IsSatelliteIndex t → take 3 line ≡ index_name s → take 3 line ≡ index_name t → s ≡ t
one-satellite line s t h g e f = same_satellite s t h g (sym e ∙ f)

-- the line without its LF
plain-front : (doppler : Bool) (r : SatelliteRow) → All IsPlain (trim_end (index_name r.satellite ++ flat_map (code_text doppler) r.observed.items))
plain-front doppler r =
    let s : System = system_at r.satellite in
    let name = All-cons IsPlain (letter_of s) (last_digits 2 (number_of r.satellite)) (plain-letter s) (plain-last_digits 2 (number_of r.satellite)) in
    plain-trimmed (index_name r.satellite ++ flat_map (code_text doppler) r.observed.items)
    (plain-both (index_name r.satellite) (flat_map (code_text doppler) r.observed.items) name (plain-codes doppler r.observed.items))

pub mixed_line-line : (doppler : Bool) (r : SatelliteRow) → IsLine (mixed_satellite_line doppler r)
mixed_line-line doppler r =
    let front : List ℕ = trim_end (index_name r.satellite ++ flat_map (code_text doppler) r.observed.items) in
    (front, no-end front (plain-front doppler r), refl)

pub mixed_line-row : (doppler : Bool) (r : SatelliteRow) → HasNoMark (mixed_satellite_line doppler r)
mixed_line-row doppler r = plain-line (trim_end (index_name r.satellite ++ flat_map (code_text doppler) r.observed.items)) (plain-front doppler r)

-- ---- the columns

-- the columns of a line, with the blanks at its end
abbrev pub mixed_whole : Bool → SatelliteRow → List ℕ
mixed_whole doppler r = index_name r.satellite ++ flat_map (code_text doppler) r.observed.items

pub mixed-long : (f : FormView) (r : SatelliteRow) → IsMixedRow f r → length (mixed_whole f.doppler r) ≡ 3 + code_width f.doppler * width_at f r.satellite
mixed-long f r h =
    let all = length-cells f.doppler r.observed.items in
    let width = ap (λ (n : ℕ). code_width f.doppler * n) h.width in
    omega (arith, all, width)

-- so many blanks stood at the end
blanks-at : (text rest : List ℕ) (k : ℕ) → rest ++ replicate k 32 ≡ text → length rest + k ≡ length text
blanks-at text rest k e = sym (length-append rest (replicate {A = ℕ} k 32) ∙ ap (λ n. length rest + n) (length-replicate {A = ℕ} k 32)) ∙ ap length e

same-padded : (a b text : List ℕ) (j k : ℕ) → text ++ replicate j 32 ≡ a → text ++ replicate k 32 ≡ b → length a ≡ length b → a ≡ b
same-padded a b text j k e f n =
    let same : j ≡ k = omega (arith, blanks-at a text j e, blanks-at b text k f, n) in
    sym e ∙ ap (λ (m : ℕ). text ++ replicate m 32) same ∙ f

abbrev row_from : ℕ → List Observed → SatelliteRow
row_from satellite os = record { satellite = satellite; observed = record { items = os } }

same-row : (s t : ℕ) (os ps : List Observed) → s ≡ t → os ≡ ps → row_from s os ≡ row_from t ps
same-row s t os ps e f = cc

-- two rows of one line are equal
pub one-mixed-row : (f : FormView) (r s : SatelliteRow) → IsMixedRow f r → IsMixedRow f s → mixed_satellite_line f.doppler r ≡ mixed_satellite_line f.doppler s → r ≡ s
unfolding IsTrimmed
one-mixed-row f r s h g e =
    let a : List ℕ = mixed_whole f.doppler r in
    let b : List ℕ = mixed_whole f.doppler s in
    let line : List ℕ = mixed_satellite_line f.doppler r in
    let kept : trim_end a ≡ trim_end b = same_end (trim_end a) (trim_end b) e in
    let satellite : r.satellite ≡ s.satellite =
    one-satellite line r.satellite s.satellite h.satellite g.satellite (mixed-named f.doppler line r refl) (mixed-named f.doppler line s e) in
    let width : width_at f r.satellite ≡ width_at f s.satellite = ap (width_at f) satellite in
    let columns : code_width f.doppler * width_at f r.satellite ≡ code_width f.doppler * width_at f s.satellite = ap (λ (n : ℕ). code_width f.doppler * n) width in
    let t = trimmed a in
    let u = trimmed b in
    let whole : a ≡ b =
    same-padded a b (trim_end a) t.0 u.0 t.1 (ap (λ (x : List ℕ). x ++ replicate u.0 32) kept ∙ u.1) (omega (arith, mixed-long f r h, mixed-long f s g, columns)) in
    let items : r.observed.items ≡ s.observed.items =
    same-codes f.doppler r.observed.items s.observed.items h.observed g.observed (omega (arith, h.width, g.width, width)) (ap (drop 3) whole) in
    same-row r.satellite s.satellite r.observed.items s.observed.items satellite items

-- ---- the form of a row's line

name-long : (kept : List ℕ) (s : ℕ) → take 3 (kept ++ 10 ∷ []) ≡ index_name s → 3 ≤ length kept
name-long [] s e = absurd (let long = ap length e in omega (arith, long))
name-long (x ∷ []) s e = absurd (let long = ap length e in omega (arith, long))
name-long (x ∷ y ∷ []) s e = absurd (let units : 10 ≡ 48 + number_of s % 10 = ap (λ (xs : List ℕ). get_or xs 2 0) e in omega (arith, units))
name-long (x ∷ y ∷ z ∷ kept) s e = omega arith

some-items : (doppler : Bool) (os : List Observed) → list_any (is_shown doppler) os ≡ true → 0 < length os
some-items doppler [] e = absurd cc
some-items doppler (o ∷ os) e = omega arith

-- a row has codes, since it has a line
pub mixed-wide : (f : FormView) (r : SatelliteRow) → IsMixedRow f r → 0 < width_at f r.satellite
mixed-wide f r h = let some = some-items f.doppler r.observed.items h.line in omega (arith, some, h.width)

pub mixed-row-form : (f : FormView) (r : SatelliteRow) → IsMixedRow f r → IsMixedForm f (mixed_satellite_line f.doppler r) r.satellite
unfolding IsTrimmed
mixed-row-form f r h =
    let kept : List ℕ = trim_end (mixed_whole f.doppler r) in
    let t = trimmed (mixed_whole f.doppler r) in
    let sum : length kept + t.0 ≡ length (mixed_whole f.doppler r) = blanks-at (mixed_whole f.doppler r) kept t.0 t.1 in
    let long = mixed-long f r h in
    let one : length (kept ++ 10 ∷ []) ≡ length kept + 1 = length-append kept (10 ∷ []) in
    let name = mixed-named f.doppler (mixed_satellite_line f.doppler r) r refl in
    let three : 3 ≤ length kept = name-long kept r.satellite name in
    let back : suc (length kept - 1) ≡ length kept = omega (arith, three) in
    let place : length (kept ++ 10 ∷ []) - 2 ≡ length kept - 1 = omega (arith, one) in (
      h.satellite,
      name,
      mixed-wide f r h,
      omega (arith, one, sum, long),
      λ e.
          let read = get_or_from_slice_get (kept ++ 10 ∷ []) (length kept - 1) 32 0 (rw place at e) in
          solid (mixed_whole f.doppler r) (length kept - 1) (sym back) (sym (get_front kept (10 ∷ []) (length kept - 1) (omega (arith, three))) ∙ read),
    )

-- ---- a line of this form

-- the parts of a line of the form of a satellite line: the name, and the columns after it
pub record HasMixedRowForm (f : FormView) (line columns : List ℕ) (s : ℕ) : Type 0 where
  pub satellite : IsSatelliteIndex s
  pub front : List ℕ
  pub whole_line : line ≡ front ++ 10 ∷ []
  pub parts : front ≡ index_name s ++ columns
  pub last : get_or front (length front - 1) 0 ≢ 32
  pub few : length columns ≤ code_width f.doppler * width_at f s

pub has-mixed-form : (f : FormView) (line columns : List ℕ) (s : ℕ) → IsLine line → IsMixedForm f line s → columns ≡ drop 3 (take (length line - 1) line)
    → HasMixedRowForm f line columns s
has-mixed-form f line columns s l h e =
    let front : List ℕ = l.0 in
    let size : length line ≡ length front + 1 = ap length l.2 ∙ length-append front (10 ∷ []) in
    let name : take 3 (front ++ 10 ∷ []) ≡ index_name s = rw (l.2) at h.1 in
    let three : 3 ≤ length front = name-long front s name in
    let cut : take (length line - 1) line ≡ front =
    let back : length line - 1 ≡ length front = omega (arith, size) in rw (back, l.2) (take-exact (length front) front (10 ∷ []) refl) in
    let rest : columns ≡ drop 3 front = e ∙ ap (drop 3) cut in
    let first : take 3 front ≡ index_name s = sym (take-append-le 3 front (10 ∷ []) three) ∙ name in
    record {
      satellite = h.0;
      front = front;
      whole_line = l.2;
      parts = sym (take-append-drop 3 front) ∙ ap (λ (t : List ℕ). t ++ drop 3 front) first ∙ ap (λ (t : List ℕ). index_name s ++ t) (sym rest);
      last = λ z.
          let place : length line - 2 ≡ length front - 1 = omega (arith, size) in
          let read : get_or (front ++ 10 ∷ []) (length front - 1) 0 ≡ 32 = get_front front (10 ∷ []) (length front - 1) (omega (arith, three)) ∙ z in
          let inside : length front - 1 < length (front ++ 10 ∷ []) = omega (arith, length-append front (10 ∷ []), three) in
          h.4 (rw (place, l.2) (slice_get-get_or (front ++ 10 ∷ []) (length front - 1) 0 inside ∙ ap Some read));
      few = omega (arith, size, ap length rest, length-drop 3 front, h.3);
    }

-- blanks alone have no columns in a line
shows-if : (doppler : Bool) (name front : List ℕ) (cells : List Observed) (b : Bool) → length name ≡ 3 → get_or name (length name - 1) 0 ≢ 32
    → trim_end (name ++ flat_map (code_text doppler) cells) ≡ front → 3 < length front → list_any (is_shown doppler) cells ≡ b → IsTrue b
shows-if doppler name front cells true three units e long is = refl
shows-if doppler name front cells false three units e long is =
    let none = blank-codes doppler cells is in
    let short : trim_end (name ++ flat_map (code_text doppler) cells) ≡ name =
    ap (λ (xs : List ℕ). trim_end (name ++ xs)) none.1 ∙ trim_end-blanks name none.0 ∙ trim_end-solid name (omega (arith, three)) units in
    let size : length front ≡ 3 = ap length (sym e ∙ short) ∙ three in
    absurd (omega (arith, size, long))

-- what a line with these columns is
pub record IsMixedLineOf (f : FormView) (line : List ℕ) (r : SatelliteRow) : Type 0 where
  pub row : IsMixedRow f r
  pub text : line ≡ mixed_satellite_line f.doppler r

-- the row of a satellite and of what its columns show
pub mixed-row-shown : (f : FormView) (line columns : List ℕ) (s : ℕ) (cells : List Observed) → HasMixedRowForm f line columns s → 0 < length columns → All (IsObservedIn f.doppler) cells
    → length cells ≡ width_at f s → left (code_width f.doppler * width_at f s) columns ≡ flat_map (code_text f.doppler) cells → (has_phases f s ≡ false → All HasNoPhase cells)
    → IsMixedLineOf f line (record { satellite = s; observed = record { items = cells } })
unfolding left
mixed-row-shown f line columns s cells form some observed count shown phases =
    let blanks : ℕ = code_width f.doppler * width_at f s - length columns in
    let name : List ℕ = index_name s in
    let long : length form.front ≡ 3 + length columns = ap length form.parts ∙ length-append name columns in
    let kept : trim_end form.front ≡ form.front = trim_end-solid form.front (omega (arith, long)) form.last in
    let text : name ++ flat_map (code_text f.doppler) cells ≡ form.front ++ replicate blanks 32 =
    ap (λ (xs : List ℕ). name ++ xs) (sym shown) ∙ sym (append_assoc name columns (replicate blanks 32)) ∙ ap (λ (xs : List ℕ). xs ++ replicate blanks 32) (sym form.parts) in
    let trimmed_text : trim_end (name ++ flat_map (code_text f.doppler) cells) ≡ form.front = ap trim_end text ∙ trim_end-blanks form.front blanks ∙ kept in
    let units : get_or name (length name - 1) 0 ≢ 32 = λ z. omega (arith, z) in
    let shows : (b : Bool) → list_any (is_shown f.doppler) cells ≡ b → IsTrue b = λ b. shows-if f.doppler name form.front cells b refl units trimmed_text (omega (arith, long, some)) in
    record {
      row = record { satellite = form.satellite; width = count; observed = observed; phases = phases; line = shows (list_any (is_shown f.doppler) cells) refl };
      text = form.whole_line ∙ ap (λ (xs : List ℕ). xs ++ 10 ∷ []) (sym trimmed_text);
    }

-- ---- the codes of a line

-- what n codes show in columns
pub record ShowsMixedCells (doppler phases : Bool) (n : ℕ) (columns : List ℕ) : Type 0 where
  pub cells : List Observed
  pub observed : All (IsObservedIn doppler) cells
  pub count : length cells ≡ n
  pub text : left (code_width doppler * n) columns ≡ flat_map (code_text doppler) cells
  pub none : phases ≡ false → All HasNoPhase cells

-- no codes have no columns
no-codes : (doppler : Bool) → left (code_width doppler * 0) [] ≡ []
unfolding left
no-codes false = refl
no-codes true = refl

pub mixed-cells-of : (doppler phases : Bool) (n : ℕ) (columns : List ℕ) → AreMixedCells doppler phases n columns → ShowsMixedCells doppler phases n columns
mixed-cells-of doppler phases zero columns h = record {
  cells = [];
  observed = All-nil (IsObservedIn doppler);
  count = refl;
  text = ap (left (code_width doppler * 0)) h ∙ no-codes doppler;
  none = λ e. All-nil HasNoPhase;
}
mixed-cells-of doppler phases (suc n) columns h =
    let cell = h.0 in
    let rest = mixed-cells-of doppler phases n (drop (code_width doppler) columns) h.1 in
    record {
      cells = cell.0 ∷ rest.cells;
      observed = All-cons (IsObservedIn doppler) cell.0 rest.cells cell.1 rest.observed;
      count = omega (arith, rest.count);
      text = left-code doppler n columns ∙ ap (λ (t : List ℕ). t ++ left (code_width doppler * n) (drop (code_width doppler) columns)) cell.2
          ∙ ap (λ (t : List ℕ). code_text doppler cell.0 ++ t) rest.text;
      none = λ e. All-cons HasNoPhase cell.0 rest.cells (cell.3 e) (rest.none e);
    }

pub mixed-cells-from : (doppler phases : Bool) (n : ℕ) (columns : List ℕ) (cells : List Observed) → length columns ≤ code_width doppler * n → All (IsObservedIn doppler) cells
    → length cells ≡ n → left (code_width doppler * n) columns ≡ flat_map (code_text doppler) cells → (phases ≡ false → All HasNoPhase cells) → AreMixedCells doppler phases n columns
mixed-cells-from doppler phases zero [] cells few h count e none = refl
mixed-cells-from doppler phases zero (x ∷ columns) cells few h count e none = absurd (omega (arith, few, no-width doppler))
mixed-cells-from doppler phases (suc n) columns [] few h count e none = absurd (omega (arith, count))
mixed-cells-from doppler phases (suc n) columns (o ∷ cells) few h count e none =
    let w = code_width doppler in
    let is = All-head (IsObservedIn doppler) o cells h in
    let long : length (code_text doppler o) ≡ w = length-code doppler o in
    let front : List ℕ = left w (take w columns) in
    let rest : List ℕ = left (w * n) (drop w columns) in
    let whole_front : length front ≡ w = length-left w (take w columns) (omega (arith, length-take w columns)) in
    let both_parts : front ++ rest ≡ code_text doppler o ++ flat_map (code_text doppler) cells = sym (left-code doppler n columns) ∙ e in
    let first : front ≡ code_text doppler o =
    sym (take-exact w front rest whole_front) ∙ ap (take w) both_parts ∙ take-exact w (code_text doppler o) (flat_map (code_text doppler) cells) long in
    let others : rest ≡ flat_map (code_text doppler) cells =
    sym (drop-exact w front rest whole_front) ∙ ap (drop w) both_parts ∙ drop-exact w (code_text doppler o) (flat_map (code_text doppler) cells) long in
    let size : length (drop w columns) ≡ length columns - w = length-drop w columns in (
      (o, is, first, λ p. All-head HasNoPhase o cells (none p)),
      mixed-cells-from doppler phases n (drop w columns) cells (omega (arith, size, few, more-width doppler n)) (All-tail (IsObservedIn doppler) o cells h) (omega (arith, count)) others
          (λ p. All-tail HasNoPhase o cells (none p)),
    )

-- the row whose line a line is
pub mixed-row-of : (f : FormView) (line columns : List ℕ) (s : ℕ) → HasMixedRowForm f line columns s → 0 < length columns → AreMixedCells f.doppler (has_phases f s) (width_at f s) columns
    → (r : SatelliteRow) × IsMixedRow f r × (line ≡ mixed_satellite_line f.doppler r)
mixed-row-of f line columns s form some cells =
    let c = mixed-cells-of f.doppler (has_phases f s) (width_at f s) columns cells in
    let is = mixed-row-shown f line columns s c.cells form some c.observed c.count c.text c.none in
    (record { satellite = s; observed = record { items = c.cells } }, is.row, is.text)

-- the columns of a row's line
pub mixed-cells-of-row : (f : FormView) (line columns : List ℕ) (s : ℕ) → HasMixedRowForm f line columns s → (r : SatelliteRow) → IsMixedRow f r → r.satellite ≡ s
    → line ≡ mixed_satellite_line f.doppler r → (0 < length columns) × AreMixedCells f.doppler (has_phases f s) (width_at f s) columns
unfolding IsTrimmed left
mixed-cells-of-row f line columns s form r h same e =
    let n = code_width f.doppler * width_at f s in
    let a : List ℕ = mixed_whole f.doppler r in
    let kept : List ℕ = trim_end a in
    let t = trimmed a in
    let name : List ℕ = index_name r.satellite in
    let os = r.observed.items in
    let text_of_codes : List ℕ = flat_map (code_text f.doppler) os in
    let front : form.front ≡ kept = same_end form.front kept (sym form.whole_line ∙ e) in
    let text : form.front ++ replicate t.0 32 ≡ name ++ text_of_codes = ap (λ (xs : List ℕ). xs ++ replicate t.0 32) front ∙ t.1 in
    let whole_text : index_name s ++ (columns ++ replicate t.0 32) ≡ name ++ text_of_codes =
    sym (append_assoc (index_name s) columns (replicate t.0 32)) ∙ ap (λ (xs : List ℕ). xs ++ replicate t.0 32) (sym form.parts) ∙ text in
    let rest : columns ++ replicate t.0 32 ≡ text_of_codes = ap (drop 3) whole_text in
    let width : length os ≡ width_at f s = h.width ∙ ap (width_at f) same in
    let all : length text_of_codes ≡ n = length-cells f.doppler os ∙ ap (λ (m : ℕ). code_width f.doppler * m) width in
    let size : length columns + t.0 ≡ n = blanks-at text_of_codes columns t.0 rest ∙ all in
    let blanks : n - length columns ≡ t.0 = omega (arith, size) in
    let padded : left n columns ≡ text_of_codes = rw blanks rest in
    let none : length columns ≢ 0 = λ z. some-columns columns t.0 text_of_codes z rest (solid-codes f.doppler os h.observed h.line) in
    let phases : has_phases f s ≡ false → All HasNoPhase os = λ p. h.phases (ap (has_phases f) same ∙ p) in
    (omega (arith, none), mixed-cells-from f.doppler (has_phases f s) (width_at f s) columns os form.few h.observed width padded phases)

-- one code less
pub mixed-cells-front : (doppler phases : Bool) (n m : ℕ) (columns : List ℕ) → n ≡ suc m → AreMixedCells doppler phases n columns
    → IsMixedCell doppler phases (take (code_width doppler) columns) × AreMixedCells doppler phases m (drop (code_width doppler) columns)
mixed-cells-front doppler phases n m columns e h = rw e at h

pub mixed-cells-back : (doppler phases : Bool) (n m : ℕ) (columns : List ℕ) → n ≡ suc m → IsMixedCell doppler phases (take (code_width doppler) columns)
    → AreMixedCells doppler phases m (drop (code_width doppler) columns) → AreMixedCells doppler phases n columns
mixed-cells-back doppler phases n m columns e cell rest = rw e (cell, rest)

-- columns show one value of a code at most
pub one-cell : (doppler : Bool) (columns : List ℕ) (o p : Observed) → IsObservedIn doppler o → IsObservedIn doppler p → left (code_width doppler) columns ≡ code_text doppler o
    → left (code_width doppler) columns ≡ code_text doppler p → o ≡ p
one-cell doppler columns o p h g e f = one-code doppler o p h g (sym e ∙ f)

-- the codes that a line of a row shows, whatever phases it may have
pub codes-of-cells : (doppler phases : Bool) (n : ℕ) (columns : List ℕ) → AreMixedCells doppler phases n columns → AreCodes doppler n columns
codes-of-cells doppler phases zero columns h = h
codes-of-cells doppler phases (suc n) columns h = ((h.0.0, h.0.1, h.0.2), codes-of-cells doppler phases n (drop (code_width doppler) columns) h.1)

-- one code less
pub codes-front : (doppler : Bool) (n m : ℕ) (columns : List ℕ) → n ≡ suc m → AreCodes doppler n columns
    → ((o : Observed) × IsObservedIn doppler o × (left (code_width doppler) (take (code_width doppler) columns) ≡ code_text doppler o)) × AreCodes doppler m (drop (code_width doppler) columns)
codes-front doppler n m columns e h = rw e at h

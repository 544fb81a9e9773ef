-- The cells of an MSM: their number, and the loops over its cell mask.
use Rattle.std.proofs.Common.{◌≡◌, ℕ, suc, ◌+◌, ◌-◌, ◌*◌, ◌^◌, ◌<◌, ◌≤◌, [], ◌∷◌, ◌++◌, List, length, take, get_or, map, Option, Some, None, refl, sym, ◌∙◌, ap, subst, arith, true, false, Bool, cond, count_ones, append_assoc, length-append}
use Rattle.std.specs.List.{AllByRecursion}
use Rattle.std.proofs.lemmas.List.{length-map, append-nil}
use Rattle.std.proofs.lemmas.List.Elements.{All-from_recursion, All-get_or}
use Rattle.std.proofs.lemmas.Bool.Decides.{nat_tests}
use Rattle.rtk_message.specs.Msm1074.{satellite_count, signal_count}
use Rattle.rtk_message.specs.declared.msm1074.MsmHeader.{MsmHeader}
use Rattle.rtk_obs.specs.declared.code.Band.{Band}
use Rattle.rtk_obs.specs.declared.code.Code.{Code}
use Rattle.rtk_obs.specs.declared.cell.Cell.{Cell}
use Rattle.rtk_obs.specs.declared.cell.CellEntry.{CellEntry}
use Rattle.rtk_obs.specs.Cell.{is_satellite, entry_of, IsSatellite}
use Rattle.rtk_obs.specs.Code.{band_of}
use Rattle.rtk_obs.specs.Mask.{set_bits, join_from}
use Rattle.rtk_obs.specs.MsmCells.{Slot, satellites_of, signals_of, row_slots, slots_of, coded_entry, slot_entry, msm_entries, code_of_signal}
use Rattle.rtk_obs.specs.Steps.MsmRows.{IsCellMask, cells_in}
use Rattle.rtk_obs.proofs.MaskLemmas.{set_bits-none, set_bits-step, set_bits_from-length, count-set_bits_from, length-join_from, join_from-length, join_from-room, join_from-first, join_from-empty, join_from-append, join_from-more, all-join_from}

-- the satellite of a slot is the satellite of its row
abbrev pub satellite_in : List ℕ → Slot → ℕ
satellite_in satellites s = get_or satellites (s.row) 0

-- ---- counts

pub length-row_slots : (ss : List ℕ) (row bits : ℕ) → length (row_slots ss row bits) ≡ length (set_bits (length ss) bits)
length-row_slots ss row bits = length-map (set_bits (length ss) bits) _

module _ (h : MsmHeader) (rows : List ℕ) (is : IsCellMask h rows) where
  pub count-satellites : length (satellites_of h) ≡ satellite_count h
  count-satellites = count-set_bits_from 1 64 h.satellite_mask is.satellites

  count-signals : length (signals_of h) ≡ signal_count h
  count-signals = count-set_bits_from 1 32 h.signal_mask is.signals

  rows_fit : AllByRecursion (λ b. b < 2 ^ length (signals_of h)) rows
  rows_fit = subst (λ (n : ℕ). AllByRecursion (λ b. b < 2 ^ n) rows) (sym count-signals) is.fit

  count-slots : length (slots_of h rows) ≡ cells_in rows
  count-slots =
      length-join_from (row_slots (signals_of h)) count_ones (λ b. b < 2 ^ length (signals_of h))
      (λ k bits below. length-row_slots (signals_of h) k bits ∙ count-set_bits_from 1 (length (signals_of h)) bits below)
      0 rows rows_fit

  few_slots : length (slots_of h rows) ≤ 64
  few_slots =
      let most = join_from-length (row_slots (signals_of h)) (length (signals_of h))
      (λ k bits. rw (length-row_slots (signals_of h) k bits) (set_bits_from-length 1 (length (signals_of h)) bits)) 0 rows in
      let rows_are = is.rows in
      let signals_are = count-signals in
      let all : length (slots_of h rows) ≤ satellite_count h * signal_count h = rw rows_are at (rw signals_are at most) in
      omega (arith, all, is.few)

  pub few_in_message : cells_in rows ≤ 64
  few_in_message = omega (arith, count-slots, few_slots)

  pub fits_at : (i d : ℕ) → i < length rows → get_or rows i d < 2 ^ length (signals_of h)
  fits_at i d inside =
      All-get_or (λ (b : ℕ). b < 2 ^ length (signals_of h)) rows i d inside (All-from_recursion (λ (b : ℕ). b < 2 ^ length (signals_of h)) rows rows_fit)

  -- the cells of the rows so far and of this row are cells of the message
  pub cells_at : (masks ss : List ℕ) (place d cell : ℕ) → masks ≡ rows → ss ≡ signals_of h → place < length masks
      → cell ≡ length (join_from (row_slots (signals_of h)) 0 (take place masks))
      → cell + length (row_slots ss place (get_or masks place d)) ≤ cells_in rows
  cells_at masks ss place d cell same signals inside so_far =
      let e : 0 + place ≡ place = omega arith in
      let room = rw e at (join_from-room (row_slots (signals_of h)) 0 masks place d inside) in
      let all : length (join_from (row_slots (signals_of h)) 0 masks) ≡ cells_in rows =
      ap (λ (xs : List ℕ). length (join_from (row_slots (signals_of h)) 0 xs)) same ∙ count-slots in
      let here : length (row_slots ss place (get_or masks place d)) ≡ length (row_slots (signals_of h) place (get_or masks place d)) =
      ap (λ (xs : List ℕ). length (row_slots xs place (get_or masks place d))) signals in
      omega (arith, room, all, here, so_far)

-- ---- the loop over the set bits of a row, the top one first

row_slots-none : (ss : List ℕ) (row : ℕ) → row_slots ss row 0 ≡ []
row_slots-none ss row = rw (set_bits-none (length ss)) refl

abbrev pub slot_of : ℕ → ℕ → Slot
slot_of row signal = record { row = row; signal = signal }

row_slots-step : (ss : List ℕ) (row rest top : ℕ) → (top < length ss) × (2 ^ top ≤ rest) × (rest < 2 ^ suc top)
    → row_slots ss row rest ≡ slot_of row (get_or ss (length ss - 1 - top) 0) ∷ row_slots ss row (rest - 2 ^ top)
row_slots-step ss row rest top bit =
    let e : length ss - top - 1 ≡ length ss - 1 - top = omega arith in
    rw (set_bits-step (length ss) top rest bit.0 bit.1 bit.2, e) refl

pub next_length : (ss : List ℕ) (row rest top : ℕ) → (top < length ss) × (2 ^ top ≤ rest) × (rest < 2 ^ suc top)
    → length (row_slots ss row rest) ≡ suc (length (row_slots ss row (rest - 2 ^ top)))
next_length ss row rest top bit = ap length (row_slots-step ss row rest top bit)

pub no_slots : (ss : List ℕ) (row rest : ℕ) → rest ≡ 0 → length (row_slots ss row rest) ≡ 0
no_slots ss row rest none = ap (λ (r : ℕ). length (row_slots ss row r)) none ∙ ap length (row_slots-none ss row)

pub count-row_slots : (ss : List ℕ) (row bits : ℕ) → bits < 2 ^ length ss → length (row_slots ss row bits) ≡ count_ones bits
count-row_slots ss row bits fits = length-row_slots ss row bits ∙ count-set_bits_from 1 (length ss) bits fits

-- and their number, as it is counted in the bits
pub next_count : (ss : List ℕ) (rest top : ℕ) → (top < length ss) × (2 ^ top ≤ rest) × (rest < 2 ^ suc top) → rest < 2 ^ length ss → count_ones rest ≡ suc (count_ones (rest - 2 ^ top))
next_count ss rest top bit fits =
    sym (count-row_slots ss 0 rest fits) ∙ (next_length ss 0 rest top bit ∙ ap suc (count-row_slots ss 0 (rest - 2 ^ top) (omega (arith, fits))))

pub no_count : (ss : List ℕ) (rest : ℕ) → rest ≡ 0 → rest < 2 ^ length ss → count_ones rest ≡ 0
no_count ss rest none fits = sym (count-row_slots ss 0 rest fits) ∙ no_slots ss 0 rest none

module _ {Y : Type 0} (f : ℕ → Slot → List Y) where
  -- the entries that stand and those of the bits that are left are the same after a bit
  pub next_entries : (ss : List ℕ) (row cell rest top signal : ℕ) (stood stand all : List Y)
      → (top < length ss) × (2 ^ top ≤ rest) × (rest < 2 ^ suc top) → signal ≡ get_or ss (length ss - 1 - top) 0
      → stand ≡ stood ++ f cell (slot_of row signal)
      → stood ++ join_from f cell (row_slots ss row rest) ≡ all
      → stand ++ join_from f (cell + 1) (row_slots ss row (rest - 2 ^ top)) ≡ all
  next_entries ss row cell rest top signal stood stand all bit is added so_far =
      let s : Slot = slot_of row (get_or ss (length ss - 1 - top) 0) in
      let left : List Slot = row_slots ss row (rest - 2 ^ top) in
      let now : stand ≡ stood ++ f cell s = added ∙ ap (λ (n : ℕ). stood ++ f cell (slot_of row n)) is in
      let rest_is : join_from f cell (row_slots ss row rest) ≡ f cell s ++ join_from f (cell + 1) left =
      ap (λ (xs : List Slot). join_from f cell xs) (row_slots-step ss row rest top bit) ∙ join_from-first f cell s left in
      ap (λ (es : List Y). es ++ join_from f (cell + 1) left) now
      ∙ (append_assoc stood (f cell s) (join_from f (cell + 1) left)
      ∙ (ap (λ (es : List Y). stood ++ es) (sym rest_is) ∙ so_far))

  pub all_entries : (ss : List ℕ) (row cell rest : ℕ) (stand all : List Y) → rest ≡ 0
      → stand ++ join_from f cell (row_slots ss row rest) ≡ all → stand ≡ all
  all_entries ss row cell rest stand all none so_far =
      let nothing : join_from f cell (row_slots ss row rest) ≡ [] =
      ap (λ (r : ℕ). join_from f cell (row_slots ss row r)) none
      ∙ (ap (λ (xs : List Slot). join_from f cell xs) (row_slots-none ss row) ∙ join_from-empty f cell) in
      sym (append-nil stand) ∙ (ap (λ (es : List Y). stand ++ es) (sym nothing) ∙ so_far)

-- cells that give no entry
module _ {Y : Type 0} (f : ℕ → Slot → List Y) where
  none-from : (cell row : ℕ) (g : ℕ → ℕ) (ps : List ℕ) → ((k signal : ℕ) → f k (slot_of row signal) ≡ []) → join_from f cell (map (λ p. slot_of row (g p)) ps) ≡ []
  unfolding join_from
  none-from cell row g [] none = refl
  none-from cell row g (p ∷ ps) none = rw (none cell (g p), none-from (suc cell) row g ps none) refl

  pub none-of-row : (ss : List ℕ) (cell row bits : ℕ) (stood : List Y) → ((k signal : ℕ) → f k (slot_of row signal) ≡ []) → stood ≡ stood ++ join_from f cell (row_slots ss row bits)
  none-of-row ss cell row bits stood none =
      sym (ap (λ (es : List Y). stood ++ es) (none-from cell row (λ p. get_or ss (p - 1) 0) (set_bits (length ss) bits) none) ∙ append-nil stood)

-- a satellite that RINEX doesn't have has no entries
module _ (h : MsmHeader) (cell_of : ℕ → ℕ → Band → Cell) where
  without_satellite : (cell row : ℕ) (f : ℕ → ℕ) (ps : List ℕ) → is_satellite (get_or (satellites_of h) row 0) ≡ false
      → join_from (slot_entry h cell_of) cell (map (λ p. slot_of row (f p)) ps) ≡ []
  unfolding join_from
  without_satellite cell row f [] unknown = refl
  without_satellite cell row f (p ∷ ps) unknown = rw (unknown, without_satellite (suc cell) row f ps unknown) refl

  pub no_entries : (ss : List ℕ) (cell row bits satellite : ℕ) (stood : List CellEntry) → satellite ≡ get_or (satellites_of h) row 0 → is_satellite satellite ≡ false
      → stood ≡ stood ++ join_from (slot_entry h cell_of) cell (row_slots ss row bits)
  no_entries ss cell row bits satellite stood is unknown =
      let gone : is_satellite (get_or (satellites_of h) row 0) ≡ false = sym (ap is_satellite is) ∙ unknown in
      sym (ap (λ (es : List CellEntry). stood ++ es) (without_satellite cell row (λ p. get_or ss (p - 1) 0) (set_bits (length ss) bits) gone) ∙ append-nil stood)

-- ---- one row more

module _ (h : MsmHeader) where
  next_row : (masks : List ℕ) (place d : ℕ) → place < length masks
      → join_from (row_slots (signals_of h)) 0 (take (place + 1) masks)
      ≡ join_from (row_slots (signals_of h)) 0 (take place masks) ++ row_slots (signals_of h) place (get_or masks place d)
  next_row masks place d inside =
      sym (join_from-more (row_slots (signals_of h)) masks place d (join_from (row_slots (signals_of h)) 0 (take place masks))
      (join_from (row_slots (signals_of h)) 0 (take place masks) ++ row_slots (signals_of h) place (get_or masks place d)) inside refl refl)

  pub next_row_length : (masks ss : List ℕ) (place d cell next : ℕ) → ss ≡ signals_of h → place < length masks
      → cell ≡ length (join_from (row_slots (signals_of h)) 0 (take place masks))
      → next ≡ cell + length (row_slots ss place (get_or masks place d))
      → next ≡ length (join_from (row_slots (signals_of h)) 0 (take (place + 1) masks))
  next_row_length masks ss place d cell next is inside so_far more =
      let here : next ≡ cell + length (row_slots (signals_of h) place (get_or masks place d)) =
      more ∙ ap (λ (xs : List ℕ). cell + length (row_slots xs place (get_or masks place d))) is in
      omega (arith, here, so_far, ap length (next_row masks place d inside), length-append (join_from (row_slots (signals_of h)) 0 (take place masks)) (row_slots (signals_of h) place (get_or masks place d)))

  pub no_row_length : 0 ≡ length (join_from (row_slots (signals_of h)) 0 [])
  no_row_length = sym (ap length (join_from-empty (row_slots (signals_of h)) 0))

  pub next_row_entries : {Y : Type 0} (f : ℕ → Slot → List Y) (masks ss : List ℕ) (place d cell : ℕ) (stood stand : List Y) → ss ≡ signals_of h → place < length masks
      → cell ≡ length (join_from (row_slots (signals_of h)) 0 (take place masks))
      → stood ≡ join_from f 0 (join_from (row_slots (signals_of h)) 0 (take place masks))
      → stand ≡ stood ++ join_from f cell (row_slots ss place (get_or masks place d))
      → stand ≡ join_from f 0 (join_from (row_slots (signals_of h)) 0 (take (place + 1) masks))
  next_row_entries {Y} f masks ss place d cell stood stand is inside count so_far more =
      let before : List Slot = join_from (row_slots (signals_of h)) 0 (take place masks) in
      let row : List Slot = row_slots (signals_of h) place (get_or masks place d) in
      let here : stand ≡ stood ++ join_from f cell row =
      more ∙ ap (λ (xs : List ℕ). stood ++ join_from f cell (row_slots xs place (get_or masks place d))) is in
      let e : 0 + length before ≡ cell = omega (arith, count) in
      here
      ∙ (ap (λ (es : List Y). es ++ join_from f cell row) so_far
      ∙ sym (ap (λ (xs : List Slot). join_from f 0 xs) (next_row masks place d inside)
      ∙ (join_from-append f 0 before row ∙ ap (λ (k : ℕ). join_from f 0 before ++ join_from f k row) e)))

  pub no_row_entries : {Y : Type 0} (f : ℕ → Slot → List Y) → [] ≡ join_from f 0 (join_from (row_slots (signals_of h)) 0 [])
  no_row_entries f = sym (ap (λ (xs : List Slot). join_from f 0 xs) (join_from-empty (row_slots (signals_of h)) 0) ∙ join_from-empty f 0)

-- ---- each entry is of a satellite from 1 to 32, and has the cell at its place

satellite_in_range : (n : ℕ) → is_satellite n ≡ true → IsSatellite n
satellite_in_range n h = grind (arith, nat_tests)

if_satellite : (P : CellEntry → Type 0) (b : Bool) (satellite : ℕ) (es : List CellEntry) → is_satellite satellite ≡ b → (IsSatellite satellite → AllByRecursion P es) → AllByRecursion P (cond b es [])
if_satellite P true satellite es e a = a (satellite_in_range satellite e)
if_satellite P false satellite es e a = tt

module _ (h : MsmHeader) (cell_of : ℕ → ℕ → Band → Cell) (P : CellEntry → Type 0)
    (each : (k row satellite : ℕ) (code : Code) → IsSatellite satellite → P (entry_of satellite code (cell_of k row (band_of code)))) where
  all-coded_entry : (k row satellite : ℕ) (code : Option Code) → IsSatellite satellite → AllByRecursion P (coded_entry (cell_of k row) satellite code)
  all-coded_entry k row satellite None s = tt
  all-coded_entry k row satellite (Some code) s = (each k row satellite code s, tt)

  pub all-msm_entries : (rows : List ℕ) → AllByRecursion P (msm_entries h rows cell_of)
  all-msm_entries rows =
      all-join_from (slot_entry h cell_of) P 0 (length (slots_of h rows)) (slots_of h rows) (omega arith)
      (λ k s below. if_satellite P (is_satellite (satellite_in (satellites_of h) s)) (satellite_in (satellites_of h) s) (coded_entry (cell_of k s.row) (satellite_in (satellites_of h) s) (code_of_signal s.signal)) refl
      (all-coded_entry k s.row (satellite_in (satellites_of h) s) (code_of_signal s.signal)))

-- ---- a slot has one entry at most

module _ (h : MsmHeader) (cell_of : ℕ → ℕ → Band → Cell) where
  coded_few : (cell_on : Band → Cell) (satellite : ℕ) (code : Option Code) → length (coded_entry cell_on satellite code) ≤ 1
  coded_few cell_on satellite None = omega arith
  coded_few cell_on satellite (Some code) = omega arith

  few_if : (b : Bool) (es : List CellEntry) → length es ≤ 1 → length (cond b es []) ≤ 1
  few_if true es few = few
  few_if false es few = omega arith

  at_most_one : (k : ℕ) (s : Slot) → length (slot_entry h cell_of k s) ≤ 1
  at_most_one k s =
      few_if (is_satellite (satellite_in (satellites_of h) s)) (coded_entry (cell_of k s.row) (satellite_in (satellites_of h) s) (code_of_signal s.signal))
      (coded_few (cell_of k s.row) (satellite_in (satellites_of h) s) (code_of_signal s.signal))

  pub few_entries : (rows : List ℕ) → IsCellMask h rows → length (msm_entries h rows cell_of) ≤ 64
  few_entries rows is = omega (arith, join_from-length (slot_entry h cell_of) 1 at_most_one 0 (slots_of h rows), few_slots h rows is)

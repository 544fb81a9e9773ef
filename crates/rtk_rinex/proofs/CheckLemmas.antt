-- One line more of a text that is checked.
use Rattle.std.proofs.Common.{◌≡◌, ◌≢◌, ℕ, ◌+◌, ◌/◌, ◌%◌, ◌<◌, ◌≤◌, List, [], ◌∷◌, ◌++◌, length, take, flat_map, Option, Some, None, true, refl, sym, ◌∙◌, ap, arith, append_assoc}
use Rattle.std.specs.Prelude.{All, AllPairs}
use Rattle.std.specs.Int.{IsInRange}
use Rattle.std.specs.List.{filter}
use Rattle.std.proofs.lemmas.List.{flat_map_more}
use Rattle.std.proofs.lemmas.List.Elements.{All-nil, All-cons, All-head, All-tail}
use Rattle.std.proofs.lemmas.List.Kept.{AllPairs-cons}
use Rattle.std.proofs.lemmas.List.Sums.{sum_by-append}
use Rattle.rtk_obs.specs.declared.time.Civil.{Civil}
use Rattle.rtk_obs.specs.CivilText.{last_digits}
use Rattle.rtk_obs.specs.Reading.{reading_of}
use Rattle.rtk_rinex.specs.Record.{EpochTableView, observations, has_line, trim_end, epoch_line, satellite_line, record_text}
use Rattle.rtk_rinex.specs.Table.{IsTableRow, IsTableEpoch}
use Rattle.rtk_rinex.specs.CheckLine.{IsNextSatellite, IsNextTime, IsEpochFault, IsSatelliteFault}
use Rattle.rtk_rinex.specs.Lines.{IsLine}
use Rattle.rtk_rinex.specs.CheckText.{BeginsWithFault, last_satellite, AreRows, last_time, AreEpochs, record_lines, satellite_lines}
use Rattle.rtk_rinex.specs.declared.check_fault.Cause.{Cause}
use Rattle.rtk_rinex.specs.declared.check_fault.Cause.TheVariants.{HeaderLine, Columns, Value, Order, Truncated, OutOfMemory}
use Rattle.rtk_rinex.specs.declared.epoch_table.SatelliteRow.{SatelliteRow}
use Rattle.rtk_rinex.proofs.RecordLemmas.{trim_end-front, lines_of-some}
use Rattle.rtk_rinex.proofs.RowLemmas.{named}

-- good records begin a text
pub record ReadsFront (n first : ℕ) (bytes rest : List ℕ) : Type 0 where
  pub epochs : List EpochTableView
  pub are_epochs : AreEpochs n first None epochs
  pub text : bytes ≡ flat_map record_text epochs ++ rest

-- ---- rows and epochs, one more

pub last_satellite-more : (last : Option ℕ) (rows : List SatelliteRow) (r : SatelliteRow) → last_satellite last (rows ++ r ∷ []) ≡ Some r.satellite
last_satellite-more last [] r = refl
last_satellite-more last (s ∷ rows) r = last_satellite-more (Some s.satellite) rows r

pub rows-more : (n : ℕ) (last : Option ℕ) (rows : List SatelliteRow) (r : SatelliteRow) → AreRows n last rows → IsTableRow n r
    → IsNextSatellite (last_satellite last rows) r.satellite → AreRows n last (rows ++ r ∷ [])
rows-more n last [] r h is next = (is, next, tt)
rows-more n last (s ∷ rows) r h is next = (h.0, h.1, rows-more n (Some s.satellite) rows r h.2 is next)

pub last_time-more : (last : Option ℕ) (epochs : List EpochTableView) (e : EpochTableView) → last_time last (epochs ++ e ∷ []) ≡ Some e.time
last_time-more last [] e = refl
last_time-more last (f ∷ epochs) e = last_time-more (Some f.time) epochs e

pub epochs-more : (n first : ℕ) (last : Option ℕ) (epochs : List EpochTableView) (e : EpochTableView) → AreEpochs n first last epochs → IsTableEpoch n e
    → IsNextTime first (last_time last epochs) e.time → AreEpochs n first last (epochs ++ e ∷ [])
epochs-more n first last [] e h is next = (is, next, tt)
epochs-more n first last (f ∷ epochs) e h is next = (h.0, h.1, epochs-more n first (Some f.time) epochs e h.2 is next)

-- ---- the satellite of a line

pub satellite_line-is : (r : SatelliteRow)
    → satellite_line r ≡ 71 ∷ (48 + r.satellite / 10 % 10) ∷ (48 + r.satellite % 10) ∷ (trim_end (flat_map observations r.observed.items) ++ 10 ∷ [])
satellite_line-is r =
    let units : ℕ = 48 + r.satellite % 10 in
    let front : List ℕ = 71 ∷ (48 + r.satellite / 10 % 10) ∷ [] in
    let digit : units ≢ 32 = λ e. omega (arith, e) in
    ap (λ (xs : List ℕ). xs ++ 10 ∷ []) (trim_end-front front units (flat_map observations r.observed.items) digit)

-- a line names the satellite of its row
pub named-row : (line : List ℕ) (r : SatelliteRow) → line ≡ satellite_line r → take 3 line ≡ 71 ∷ last_digits 2 r.satellite
named-row line r e = rw (e, satellite_line-is r) refl

pub one_satellite : (line : List ℕ) (s t : ℕ) → IsInRange 1 32 s → IsInRange 1 32 t → take 3 line ≡ 71 ∷ last_digits 2 s → take 3 line ≡ 71 ∷ last_digits 2 t → s ≡ t
one_satellite line s t h g e f = sym ((named line s h e).3) ∙ (named line t g f).3

-- ---- texts, one piece more

pub text-more : {X : Type 0} (f : X → List ℕ) (xs : List X) (x : X) (bytes rest line after : List ℕ)
    → bytes ≡ flat_map f xs ++ rest → rest ≡ line ++ after → line ≡ f x → bytes ≡ flat_map f (xs ++ x ∷ []) ++ after
text-more f xs x bytes rest line after e g h =
    e ∙ ap (λ (t : List ℕ). flat_map f xs ++ t) g ∙ sym (append_assoc (flat_map f xs) line after)
    ∙ ap (λ (t : List ℕ). t ++ after) (ap (λ (t : List ℕ). flat_map f xs ++ t) h ∙ flat_map_more f [] xs x)

-- ---- a line with a fault

pub satellite-fault : (n : ℕ) (last : Option ℕ) (text line rest : List ℕ) (cause : Cause) → IsLine line → text ≡ line ++ rest
    → IsSatelliteFault n last line cause → BeginsWithFault (IsSatelliteFault n last) text cause
satellite-fault n last text line rest HeaderLine l e h = (line, rest, l, e, h)
satellite-fault n last text line rest Columns l e h = (line, rest, l, e, h)
satellite-fault n last text line rest Value l e h = (line, rest, l, e, h)
satellite-fault n last text line rest Order l e h = (line, rest, l, e, h)
satellite-fault n last text line rest Truncated l e h = absurd h
satellite-fault n last text line rest OutOfMemory l e h = (line, rest, l, e, h)

pub epoch-fault : (first : ℕ) (last : Option ℕ) (text line rest : List ℕ) (cause : Cause) → IsLine line → text ≡ line ++ rest
    → IsEpochFault first last line cause → BeginsWithFault (IsEpochFault first last) text cause
epoch-fault first last text line rest HeaderLine l e h = (line, rest, l, e, h)
epoch-fault first last text line rest Columns l e h = (line, rest, l, e, h)
epoch-fault first last text line rest Value l e h = (line, rest, l, e, h)
epoch-fault first last text line rest Order l e h = (line, rest, l, e, h)
epoch-fault first last text line rest Truncated l e h = absurd h
epoch-fault first last text line rest OutOfMemory l e h = (line, rest, l, e, h)

-- ---- the rows of a record

pub rows-all : (n : ℕ) (last : Option ℕ) (rows : List SatelliteRow) → AreRows n last rows → All (IsTableRow n) rows
rows-all n last [] h = All-nil (IsTableRow n)
rows-all n last (r ∷ rows) h = All-cons (IsTableRow n) r rows h.0 (rows-all n (Some r.satellite) rows h.2)

rows-above : (n s b : ℕ) (rows : List SatelliteRow) → AreRows n (Some s) rows → b ≤ s → All (λ (r : SatelliteRow). b < r.satellite) rows
rows-above n s b [] h le = All-nil (λ (r : SatelliteRow). b < r.satellite)
rows-above n s b (r ∷ rows) h le =
    let less : s < r.satellite = h.1 in
    All-cons (λ (r : SatelliteRow). b < r.satellite) r rows (omega arith) (rows-above n r.satellite b rows h.2 (omega arith))

pub rows-rise : (n : ℕ) (last : Option ℕ) (rows : List SatelliteRow) → AreRows n last rows → AllPairs (λ a b. a.satellite < b.satellite) rows
rows-rise n last [] h = λ i j d low high. absurd (omega arith)
rows-rise n last (r ∷ rows) h =
    AllPairs-cons (λ (a b : SatelliteRow). a.satellite < b.satellite) r rows (rows-above n r.satellite r.satellite rows h.2 (omega arith)) (rows-rise n (Some r.satellite) rows h.2)

filter-lines : (n : ℕ) (rows : List SatelliteRow) → All (IsTableRow n) rows → filter has_line rows ≡ rows
filter-lines n [] h = refl
filter-lines n (r ∷ rows) h =
    let line : has_line r ≡ true = (All-head (IsTableRow n) r rows h).line in
    let rest : filter has_line rows ≡ rows = filter-lines n rows (All-tail (IsTableRow n) r rows h) in
    rw (line, rest) refl

pub record-lines : (n time : ℕ) (rows : List SatelliteRow) → All (IsTableRow n) rows → length rows ≢ 0
    → record_text (record { time = time; rows = rows }) ≡ epoch_line (reading_of time) (length rows) ++ flat_map satellite_line rows
unfolding record_text
record-lines n time rows h some = rw (filter-lines n rows h) (lines_of-some (reading_of time) rows some)

pub record_lines-more : (epochs : List EpochTableView) (e : EpochTableView) → record_lines (epochs ++ e ∷ []) ≡ record_lines epochs + (1 + length e.rows)
record_lines-more epochs e = sum_by-append (λ (e : EpochTableView). 1 + length e.rows) epochs (e ∷ []) ∙ omega arith

pub satellite_lines-more : (epochs : List EpochTableView) (e : EpochTableView) → satellite_lines (epochs ++ e ∷ []) ≡ satellite_lines epochs + length e.rows
satellite_lines-more epochs e = sum_by-append (λ (e : EpochTableView). length e.rows) epochs (e ∷ []) ∙ omega arith

-- the text of a record, of its epoch line and its rows
pub record-is : (bytes line after : List ℕ) (c : Civil) (rows : List SatelliteRow) (count : ℕ) (rest text : List ℕ)
    → bytes ≡ line ++ after → line ≡ epoch_line c count → after ≡ flat_map satellite_line rows ++ rest → length rows ≡ count
    → text ≡ epoch_line c (length rows) ++ flat_map satellite_line rows → bytes ≡ text ++ rest
record-is bytes line after c rows count rest text e f g h t =
    let first : line ≡ epoch_line c (length rows) = f ∙ ap (λ (n : ℕ). epoch_line c n) (sym h) in
    e ∙ ap (λ (xs : List ℕ). line ++ xs) g ∙ ap (λ (xs : List ℕ). xs ++ (flat_map satellite_line rows ++ rest)) first
    ∙ sym (append_assoc (epoch_line c (length rows)) (flat_map satellite_line rows) rest) ∙ ap (λ (xs : List ℕ). xs ++ rest) (sym t)

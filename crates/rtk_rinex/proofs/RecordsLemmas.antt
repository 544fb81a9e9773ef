-- What stands next in the text of records that are known to be good.
use Rattle.std.proofs.Common.{◌≡◌, ◌≢◌, ℕ, zero, suc, ◌+◌, ◌-◌, ◌<◌, ◌≤◌, Option, Some, None, List, [], ◌∷◌, ◌++◌, length, take, drop, get_or, flat_map, true, refl, sym, ◌∙◌, ap, arith, append_assoc, length-append, inl, inr}
use Rattle.std.specs.Prelude.{All, AllPairs}
use Rattle.std.specs.Int.{IsInRange}
use Rattle.memchr.specs.Find.{IsFirstByte, is_byte}
use mathlib.Core.Logic.{∥∥₁_map}
use Rattle.std.proofs.lemmas.Bool.Decides.{leb_tells, nat_tests}
use Rattle.std.proofs.lemmas.Grind.{not_there}
use Rattle.std.proofs.lemmas.List.{append-nil}
use Rattle.std.proofs.lemmas.List.Elements.{All-nil, All-cons, All-head, All-tail, All-append}
use Rattle.rtk_rinex.specs.declared.epoch_table.SatelliteRow.{SatelliteRow}
use Rattle.rtk_obs.specs.Reading.{IsMoment, reading_of}
use Rattle.rtk_rinex.specs.Header.{HeadView, PositionView, IsHeadView, header_text}
use Rattle.rtk_rinex.specs.Record.{EpochTableView, IsSatelliteRow, epoch_line, satellite_line, record_text}
use Rattle.rtk_rinex.specs.Table.{WellFormedTable, IsWellFormedTable, IsTableRow, IsTableEpoch, table_text}
use Rattle.rtk_rinex.specs.Lines.{IsLine}
use Rattle.rtk_rinex.specs.CheckLine.{IsNextSatellite}
use Rattle.rtk_rinex.specs.CheckText.{last_satellite, AreRows}
use Rattle.rtk_rinex.specs.CheckTable.{HoldsTable}
use Rattle.rtk_rinex.specs.Records.{RecordsView, AreLeft, IsRecordsView, IsNextOf, IsNextTimeOf}
use Rattle.rtk_rinex.specs.Steps.HeaderRead.{IsOnlyHeader}
use Rattle.rtk_rinex.specs.Steps.ReadRecords.{ReadsRows, HasNoMark, WritesRows, IsEndOrRecord, BeginsWithRecord}
use Rattle.rtk_rinex.proofs.DigitsLemmas.{take-exact}
use Rattle.rtk_rinex.proofs.FieldLemmas.{none_of}
use Rattle.rtk_rinex.proofs.CheckLemmas.{rows-all, rows-rise, record-lines, record-is}
use Rattle.rtk_rinex.proofs.LineLemmas.{satellite_line-line, same_line}
use Rattle.rtk_rinex.proofs.OneLemmas.{Below, pairs-head, pairs-tail, one_epoch_line, one_row, count-of, same_rows, epoch-front, epoch_line-of, one_record, some_text, row-next}
use Rattle.rtk_rinex.proofs.TextLemmas.{epochs-after-header, rows_more}

-- ---- bounds of what is known to exist

-- a bound that follows from a fact follows if the fact is true, whatever its proof
pub below : {P : Type 0} (a b : ℕ) → ∥ P ∥₁ → (P → a < b) → a < b
below a b h f =
    elim (leb_tells (a + 1) b) [
      | inl low ↦ omega (arith, low.1)
      | inr high ↦ absurd (not_there h (λ p. omega (arith, high.1, f p)))
    ]

pub satellite-next : {P : Type 0} (last : Option ℕ) (s : ℕ) → ∥ P ∥₁ → (P → IsNextSatellite last s) → IsNextSatellite last s
satellite-next None s h f = tt
satellite-next (Some last) s h f = below last s h f

-- ---- the next row

-- a row whose satellite is greater than those of the rows before begins the text
pub record HasNextRow (n : ℕ) (before : List SatelliteRow) (bytes : List ℕ) : Type 0 where
  pub row : SatelliteRow
  pub rest : List ℕ
  pub is_row : IsTableRow n row
  pub next : IsNextSatellite (last_satellite None before) row.satellite
  pub text : bytes ≡ satellite_line row ++ rest

first_of : (n : ℕ) (before rows more : List SatelliteRow) (bytes y : List ℕ) → All (IsTableRow n) rows → AllPairs Below rows
    → rows ≡ before ++ more → bytes ≡ flat_map satellite_line more ++ y → length before < length rows → HasNextRow n before bytes
first_of n before rows [] bytes y h p e t less = absurd (omega (arith, less, ap length e, length-append {A = SatelliteRow} before []))
first_of n before rows (r ∷ more) bytes y h p e t less =
    let good : All (IsTableRow n) (before ++ r ∷ more) = rw e at h in
    let rise : AllPairs Below (before ++ r ∷ more) = rw e at p in
    record {
      row = r;
      rest = flat_map satellite_line more ++ y;
      is_row = All-head (IsTableRow n) r more (rows_more n before (r ∷ more) good);
      next = row-next before r more rise;
      text = t ∙ append_assoc (satellite_line r) (flat_map satellite_line more) y;
    }

abbrev pub HasRows : ℕ → ℕ → List ℕ → Type 0
HasRows n count text = (rest : List ℕ) × ReadsRows n count text rest

-- after fewer rows than are due stands the next one
pub row-due : (n count : ℕ) (before : List SatelliteRow) (text bytes : List ℕ) → n ≤ 16 → AreRows n None before → length before < count
    → text ≡ flat_map satellite_line before ++ bytes → HasRows n count text → HasNextRow n before bytes
row-due n count before text bytes le are less e has =
    let due = has.1 in
    let goes = same_rows n before due.rows bytes has.0 le (rows-all n None before are) (rows-all n None due.rows due.are_rows)
    (omega (arith, less, due.count)) (sym e ∙ due.text) in
    first_of n before due.rows goes.more bytes has.0 (rows-all n None due.rows due.are_rows) (rows-rise n None due.rows due.are_rows)
    goes.list goes.text (omega (arith, less, due.count))

-- the line that stands there is the line of that row
pub line-due : (line after bytes : List ℕ) (r : SatelliteRow) (rest : List ℕ) → IsLine line → bytes ≡ line ++ after → bytes ≡ satellite_line r ++ rest → line ≡ satellite_line r
line-due line after bytes r rest is split text = (same_line line (satellite_line r) after rest is (satellite_line-line r) (sym split ∙ text)).0

-- the satellite of the row that was read there is greater than those of the rows before
pub next-row : (n count : ℕ) (before : List SatelliteRow) (text bytes line after : List ℕ) (row : SatelliteRow) → n ≤ 16 → AreRows n None before → length before < count
    → text ≡ flat_map satellite_line before ++ bytes → IsLine line → bytes ≡ line ++ after → IsTableRow n row → line ≡ satellite_line row
    → ∥ HasRows n count text ∥₁ → IsNextSatellite (last_satellite None before) row.satellite
next-row n count before text bytes line after row le are less e is split good line_is has =
    satellite-next (last_satellite None before) row.satellite has (λ h.
    let due = row-due n count before text bytes le are less e h in
    let same : due.row ≡ row = one_row n due.row row le due.is_row good (sym (line-due line after bytes due.row due.rest is split due.text) ∙ line_is) in
    rw same at due.next)

last_below : (n b : ℕ) (rows : List SatelliteRow) (s : ℕ) → AreRows n (Some b) rows → IsNextSatellite (last_satellite (Some b) rows) s → b < s
last_below n b [] s h next = next
last_below n b (r ∷ rows) s h next =
    let less : b < r.satellite = h.1 in omega (arith, less, last_below n r.satellite rows s h.2 next)

-- the next satellite is greater than those of all rows before
pub rows-below : (n : ℕ) (last : Option ℕ) (rows : List SatelliteRow) (s : ℕ) → AreRows n last rows → IsNextSatellite (last_satellite last rows) s
    → All (λ (r : SatelliteRow). r.satellite < s) rows
rows-below n last [] s h next = All-nil (λ (r : SatelliteRow). r.satellite < s)
rows-below n last (r ∷ rows) s h next =
    All-cons (λ (r : SatelliteRow). r.satellite < s) r rows (last_below n r.satellite rows s h.2 next) (rows-below n (Some r.satellite) rows s h.2 next)

-- a row of a file is a row of an epoch
pub row-good : (n : ℕ) (r : SatelliteRow) → IsTableRow n r → IsSatelliteRow r
row-good n r h = record { satellite = h.satellite; strengths = λ k d lt. (h.observed k d lt).strength }

-- ---- the next record

rows_after : (n b : ℕ) (rows : List SatelliteRow) → All (IsTableRow n) rows → AllPairs Below rows → All (λ (r : SatelliteRow). b < r.satellite) rows → AreRows n (Some b) rows
rows_after n b [] h p l = tt
rows_after n b (r ∷ rows) h p l = (
  All-head (IsTableRow n) r rows h,
  All-head (λ (r : SatelliteRow). b < r.satellite) r rows l,
  rows_after n r.satellite rows (All-tail (IsTableRow n) r rows h) (pairs-tail Below r rows p) (pairs-head Below r rows p),
)

are_rows-of : (n : ℕ) (rows : List SatelliteRow) → All (IsTableRow n) rows → AllPairs Below rows → AreRows n None rows
are_rows-of n [] h p = tt
are_rows-of n (r ∷ rows) h p = (
  All-head (IsTableRow n) r rows h,
  tt,
  rows_after n r.satellite rows (All-tail (IsTableRow n) r rows h) (pairs-tail Below r rows p) (pairs-head Below r rows p),
)

-- the epoch line of the record that begins a text, and what stands after it
pub record HasEpochLine (n : ℕ) (bytes : List ℕ) : Type 0 where
  pub epoch : EpochTableView
  pub rest : List ℕ
  pub is_epoch : IsTableEpoch n epoch
  pub line : IsLine (epoch_line (reading_of epoch.time) (length epoch.rows))
  pub count : IsInRange 1 32 (length epoch.rows)
  pub text : bytes ≡ epoch_line (reading_of epoch.time) (length epoch.rows) ++ (flat_map satellite_line epoch.rows ++ rest)

pub epoch_line-due : (n : ℕ) (bytes : List ℕ) → BeginsWithRecord n bytes → HasEpochLine n bytes
epoch_line-due n bytes has = record {
  epoch = has.0;
  rest = has.1;
  is_epoch = has.2;
  line = epoch_line-of n has.0 has.2;
  count = count-of n has.0 has.2;
  text = has.3 ∙ epoch-front n has.0 has.1 has.2;
}

-- the rows that stand after the epoch line
pub rows-due : (n t count : ℕ) (bytes line after : List ℕ) → IsMoment t → IsInRange 1 32 count → IsLine line → bytes ≡ line ++ after
    → line ≡ epoch_line (reading_of t) count → BeginsWithRecord n bytes → HasRows n count after
rows-due n t count bytes line after moment range is split line_is has =
    let due = epoch_line-due n bytes has in
    let e = due.epoch in
    let same = same_line line (epoch_line (reading_of e.time) (length e.rows)) after (flat_map satellite_line e.rows ++ due.rest) is due.line (sym split ∙ due.text) in
    let one = one_epoch_line t e.time count (length e.rows) moment due.is_epoch.time (omega (arith, range)) (omega (arith, due.count)) (sym line_is ∙ same.0) in (
      due.rest,
      record { rows = e.rows; are_rows = are_rows-of n e.rows due.is_epoch.rows due.is_epoch.rise; count = sym one.1; text = same.1 },
    )

-- the epoch of an epoch line and the rows after it
pub epoch-read : (n t count : ℕ) (e : EpochTableView) → e.time ≡ t → IsMoment t → IsInRange 1 32 count → length e.rows ≡ count → AreRows n None e.rows → IsTableEpoch n e
epoch-read n t count e time moment range long rows = record {
  time = rw time moment;
  some = λ none. omega (arith, range, long, ap length none);
  rows = rows-all n None e.rows rows;
  rise = rows-rise n None e.rows rows;
}

pub record-read : (n t count : ℕ) (e : EpochTableView) (bytes line after rest : List ℕ) → e.time ≡ t → IsInRange 1 32 count → length e.rows ≡ count → AreRows n None e.rows
    → bytes ≡ line ++ after → line ≡ epoch_line (reading_of t) count → after ≡ flat_map satellite_line e.rows ++ rest → bytes ≡ record_text e ++ rest
record-read n t count e bytes line after rest time range long rows split line_is text =
    let some : length e.rows ≢ 0 = λ none. omega (arith, range, long, none) in
    let whole = record-lines n e.time e.rows (rows-all n None e.rows rows) some in
    let first : line ≡ epoch_line (reading_of e.time) count = line_is ∙ ap (λ (m : ℕ). epoch_line (reading_of m) count) (sym time) in
    record-is bytes line after (reading_of e.time) e.rows count rest (record_text e) split first text long whole

-- ---- the records that are left

abbrev pub view_of : ℕ → List ℕ → RecordsView
view_of n text = record { code_count = n; text = text }

abbrev pub HasLeft : ℕ → List ℕ → Type 0
HasLeft n text = (epochs : List EpochTableView) × AreLeft (view_of n text) epochs

-- a text that is not empty begins with a record
pub record-due : (n : ℕ) (text : List ℕ) (epochs : List EpochTableView) → AreLeft (view_of n text) epochs → length text ≢ 0 → BeginsWithRecord n text
record-due n text [] left some = absurd (some (ap length left.text))
record-due n text (e ∷ epochs) left some = (e, flat_map record_text epochs, All-head (IsTableEpoch n) e epochs left.are_epochs, left.text)

-- the record that was read is the first one that was left, and the others are left
pub next-read : (n : ℕ) (bytes rest text : List ℕ) (e : EpochTableView) (epochs : List EpochTableView) → n ≤ 16 → IsTableEpoch n e → bytes ≡ record_text e ++ rest
    → text ≡ record_text e → AreLeft (view_of n bytes) epochs → IsNextOf epochs text e (view_of n rest)
next-read n bytes rest text e [] le is split text_is left = some_text n e rest is (sym split ∙ left.text)
next-read n bytes rest text e (f ∷ epochs) le is split text_is left =
    let one = one_record n e f rest (flat_map record_text epochs) le is (All-head (IsTableEpoch n) f epochs left.are_epochs) (sym split ∙ left.text) in (
      text_is ∙ ap record_text one.0,
      one.0,
      record { are_epochs = All-tail (IsTableEpoch n) f epochs left.are_epochs; text = one.1 },
    )

others_of : (n : ℕ) (text rest : List ℕ) (e : EpochTableView) (epochs : List EpochTableView) → IsNextOf epochs text e (view_of n rest) → HasLeft n rest
others_of n text rest e [] next = absurd next
others_of n text rest e (f ∷ epochs) next = (epochs, next.2)

pub others-left : (n : ℕ) (bytes rest : List ℕ) (e : EpochTableView) → n ≤ 16 → IsTableEpoch n e → bytes ≡ record_text e ++ rest → HasLeft n bytes → HasLeft n rest
others-left n bytes rest e le is split left =
    others_of n (record_text e) rest e left.0 (next-read n bytes rest (record_text e) e left.0 le is split refl left.1)

-- no records are left of an empty text
pub none-left : (n : ℕ) (text : List ℕ) (epochs : List EpochTableView) → AreLeft (view_of n text) epochs → length text ≡ 0 → epochs ≡ []
none-left n text [] left none = refl
none-left n text (e ∷ epochs) left none =
    absurd (some_text n e (flat_map record_text epochs) (All-head (IsTableEpoch n) e epochs left.are_epochs) (sym left.text ∙ none_of text none))

-- a record has some bytes
pub record-some : (n : ℕ) (e : EpochTableView) (bytes rest : List ℕ) → IsTableEpoch n e → bytes ≡ record_text e ++ rest → length rest < length bytes
record-some n e bytes rest is split =
    let some : length (record_text e) ≢ 0 = λ none. some_text n e [] is (append-nil (record_text e) ∙ none_of (record_text e) none) in
    omega (arith, ap length split, length-append (record_text e) rest, some)

-- the text before the rest
pub front-is : (bytes text rest : List ℕ) → bytes ≡ text ++ rest → take (length bytes - length rest) bytes ≡ text
front-is bytes text rest e =
    let size : length bytes - length rest ≡ length text = omega (arith, ap length e, length-append text rest) in
    rw (size, e) (take-exact (length text) text rest refl)

-- ---- the records of a table

pub left-after : (bytes rest : List ℕ) (h : HeadView) (s : PositionView) (first : ℕ) (t : WellFormedTable) → bytes ≡ header_text h s first ++ rest
    → IsOnlyHeader bytes h s first → IsWellFormedTable t → bytes ≡ table_text t
    → (length h.listed ≡ length t.head.listed) × AreLeft (view_of (length h.listed) rest) t.epochs
left-after bytes rest h s first t split only is e =
    let one = only t.head t.site t.first (flat_map record_text t.epochs) is.head is.site is.first e in
    let good : All (IsTableEpoch (length h.listed)) t.epochs = rw one.0 at is.epochs in (
      ap (λ (v : HeadView). length v.listed) (sym one.0),
      record { are_epochs = good; text = epochs-after-header bytes rest h s first t split e one.0 one.1 one.2 },
    )

pub records-of : (bytes rest : List ℕ) (h : HeadView) (s : PositionView) (first records lines : ℕ) → IsHeadView h → bytes ≡ header_text h s first ++ rest
    → IsOnlyHeader bytes h s first → ∥ HoldsTable bytes records lines ∥₁ → IsRecordsView (view_of (length h.listed) rest)
records-of bytes rest h s first records lines good split only holds = (
  good.1.0.1,
  ∥∥₁_map holds (λ t. (t.table.epochs, (left-after bytes rest h s first t.table split only t.is_table t.text).1)),
)

-- ---- records whose values are not read

abbrev IsUnmarked : ℕ → Type 0
IsUnmarked x = x ≢ 62

pub rows-unmarked : (line_of : SatelliteRow → List ℕ) → WritesRows line_of → (rows : List SatelliteRow) → HasNoMark (flat_map line_of rows)
rows-unmarked line_of of [] = All-nil IsUnmarked
rows-unmarked line_of of (r ∷ rows) = All-append IsUnmarked (line_of r) (flat_map line_of rows) (of r) (rows-unmarked line_of of rows)

front-at : (front rest : List ℕ) (k : ℕ) → k < length front → get_or (front ++ rest) k 0 ≡ get_or front k 0
front-at [] rest k less = absurd (omega (arith, less))
front-at (x ∷ front) rest zero less = refl
front-at (x ∷ front) rest (suc k) less = front-at front rest k (omega (arith, less))

mark-is : (x : ℕ) → is_byte 62 x ≡ true → x ≡ 62
mark-is x e = grind (arith, nat_tests)

unmarked-front : (front rest : List ℕ) (n : ℕ) → HasNoMark front → n < length front → is_byte 62 (get_or (front ++ rest) n 0) ≡ true → ⊥
unmarked-front front rest n none less is = none n 0 less (sym (front-at front rest n less) ∙ mark-is (get_or (front ++ rest) n 0) is)

mark-here : (front rest : List ℕ) → is_byte 62 (get_or (front ++ 62 ∷ rest) (length front) 0) ≡ true
mark-here [] rest = refl
mark-here (x ∷ front) rest = mark-here front rest

-- without a mark no record stands after the rows
pub no-record-after : (front rest : List ℕ) → IsEndOrRecord rest → IsFirstByte (is_byte 62) (front ++ rest) None → [] ≡ rest
no-record-after front rest (inl end) first = sym end
no-record-after front rest (inr mark) first =
    let inside : length front < length (front ++ rest) = omega (arith, length-append front rest, ap length mark.1) in
    absurd (first (length front) (omega arith) inside (rw (mark.1) (mark-here front mark.0)))

no-later : (front rest : List ℕ) (n : ℕ) → IsEndOrRecord rest → IsFirstByte (is_byte 62) (front ++ rest) (Some n) → n ≤ length front
no-later front rest n (inl end) first = let inside : n < length (front ++ rest) = first.0.high in omega (arith, inside, length-append front rest, ap length end)
no-later front rest n (inr mark) first =
    elim (leb_tells n (length front)) [
      | inl same ↦ same.1
      | inr after ↦ absurd (first.0.before (length front) (omega arith) (omega (arith, after.1)) (rw (mark.1) (mark-here front mark.0)))
    ]

-- the first mark is that of the record after the rows
pub record-after : (front rest : List ℕ) (n : ℕ) → HasNoMark front → IsEndOrRecord rest → IsFirstByte (is_byte 62) (front ++ rest) (Some n) → n ≡ length front
record-after front rest n none ends first =
    elim (leb_tells (length front) n) [
      | inl low ↦ omega (arith, low.1, no-later front rest n ends first)
      | inr before ↦ absurd (unmarked-front front rest n none (omega (arith, before.1)) first.1)
    ]

-- what is left are records, so it begins with a mark if it is not empty
pub records-begin : (n : ℕ) (epochs : List EpochTableView) → All (IsTableEpoch n) epochs → IsEndOrRecord (flat_map record_text epochs)
records-begin n [] good = inl refl
records-begin n (e ∷ epochs) good =
    let text : List ℕ = epoch_line (reading_of e.time) (length e.rows) ++ (flat_map satellite_line e.rows ++ flat_map record_text epochs) in
    inr (drop 1 text, epoch-front n e (flat_map record_text epochs) (All-head (IsTableEpoch n) e epochs good))

-- the record that begins a text: its moment, and the text after it
abbrev pub SkipsRecord : List ℕ → ℕ → List ℕ → Type 0
SkipsRecord bytes time rest = (n : ℕ) (e : EpochTableView) (after : List ℕ) → IsTableEpoch n e → IsEndOrRecord after → bytes ≡ record_text e ++ after → (time ≡ e.time) × (rest ≡ after)

pub time-read : (n t : ℕ) (bytes rest : List ℕ) (epochs : List EpochTableView) → SkipsRecord bytes t rest → length bytes ≢ 0 → AreLeft (view_of n bytes) epochs
    → IsNextTimeOf epochs t (view_of n rest)
time-read n t bytes rest [] skips some left = some (ap length left.text)
time-read n t bytes rest (e ∷ epochs) skips some left =
    let others = All-tail (IsTableEpoch n) e epochs left.are_epochs in
    let is = skips n e (flat_map record_text epochs) (All-head (IsTableEpoch n) e epochs left.are_epochs) (records-begin n epochs others) left.text in
    (is.0, record { are_epochs = others; text = is.1 })

pub others-skipped : (n t : ℕ) (bytes rest : List ℕ) → SkipsRecord bytes t rest → length bytes ≢ 0 → HasLeft n bytes → HasLeft n rest
others-skipped n t bytes rest skips some ([], left) = absurd (some (ap length left.text))
others-skipped n t bytes rest skips some (e ∷ epochs, left) = (epochs, (time-read n t bytes rest (e ∷ epochs) skips some left).1)

pub less-left : (n t : ℕ) (bytes rest : List ℕ) → SkipsRecord bytes t rest → length bytes ≢ 0 → HasLeft n bytes → length rest < length bytes
less-left n t bytes rest skips some ([], left) = absurd (some (ap length left.text))
less-left n t bytes rest skips some (e ∷ epochs, left) =
    let first = All-head (IsTableEpoch n) e epochs left.are_epochs in
    let is = skips n e (flat_map record_text epochs) first (records-begin n epochs (All-tail (IsTableEpoch n) e epochs left.are_epochs)) left.text in
    record-some n e bytes rest first (left.text ∙ ap (λ (xs : List ℕ). record_text e ++ xs) (sym is.1))

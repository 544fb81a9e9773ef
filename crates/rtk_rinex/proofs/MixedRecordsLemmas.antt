-- The records of a text of any systems, read one by one, and the rows of each.
use Rattle.std.proofs.Common.{◌≡◌, ◌≢◌, ℕ, ◌-◌, ◌*◌, ◌<◌, Bool, false, Option, Some, None, List, [], ◌∷◌, ◌++◌, length, take, drop, flat_map, inl, inr, refl, sym, ◌∙◌, ap, arith, length-append}
use Rattle.std.specs.Prelude.{All, ℤ}
use Rattle.std.specs.Int.{IsInRange}
use mathlib.Core.Logic.{∥∥₁_map}
use Rattle.std.proofs.lemmas.Grind.{not_there}
use Rattle.std.proofs.lemmas.List.Elements.{All-head, All-tail}
use Rattle.rtk_rinex.specs.declared.epoch_table.Observed.{Observed}
use Rattle.rtk_rinex.specs.declared.epoch_table.SatelliteRow.{SatelliteRow}
use Rattle.rtk_rinex.specs.Columns.{left}
use Rattle.rtk_obs.specs.Reading.{reading_of}
use Rattle.rtk_rinex.specs.Header.{PositionView}
use Rattle.rtk_rinex.specs.Record.{EpochTableView, code_text, code_width, epoch_columns, epoch_line}
use Rattle.rtk_rinex.specs.Table.{IsObservedIn}
use Rattle.rtk_rinex.specs.Lines.{HasNoEnd, IsLine}
use Rattle.rtk_rinex.specs.MixedHead.{MixedHeadView}
use Rattle.rtk_rinex.specs.MixedHeader.{mixed_header_text}
use Rattle.rtk_rinex.specs.MixedHeaderFault.{IsOnlyMixedHeader}
use Rattle.rtk_rinex.specs.MixedRecord.{mixed_satellite_line, mixed_record_text}
use Rattle.rtk_rinex.specs.MixedForm.{FormView, width_at, has_phases, most_satellites, form_of_head}
use Rattle.rtk_rinex.specs.MixedTable.{MixedTable, IsMixedTable, IsMixedRow, IsMixedEpoch, HasNoPhase, mixed_table_text}
use Rattle.rtk_rinex.specs.MixedCheckLine.{IsMixedForm}
use Rattle.rtk_rinex.specs.MixedCheckTable.{HoldsMixedTable}
use Rattle.rtk_rinex.specs.MixedRecords.{MixedRecordsView, AreMixedLeft, IsMixedRecordsView, MixedRowsView, AreRowsLeft, IsRecordOf, IsNextRecordOf, IsNextRowOf}
use Rattle.rtk_rinex.specs.Steps.MixedReadRecords.{AreMixedCells, BeginsWithMixedRecord, BeginsMixedRecords}
use Rattle.rtk_rinex.specs.Steps.ReadRecords.{IsEndOrRecord}
use Rattle.rtk_rinex.proofs.DigitsLemmas.{take-exact, drop-exact}
use Rattle.rtk_rinex.proofs.EpochLemmas.{length-line, line-columns}
use Rattle.rtk_rinex.proofs.FieldLemmas.{none_of}
use Rattle.rtk_rinex.proofs.LineLemmas.{no_line, same_line}
use Rattle.rtk_rinex.proofs.MixedCountLemmas.{count-few}
use Rattle.rtk_rinex.proofs.MixedOneLemmas.{count-of, epoch-front, epoch_line-of, some_text}
use Rattle.rtk_rinex.proofs.MixedRowLemmas.{HasMixedRowForm, IsMixedLineOf, mixed_line-line, mixed-named, mixed-cells-of, mixed-cells-of-row, mixed-row-shown, one-satellite, one-mixed-row}
use Rattle.rtk_rinex.proofs.MixedCodeLemmas.{same-codes}
use Rattle.rtk_rinex.proofs.MixedTextLemmas.{epochs-after-header}
use Rattle.rtk_rinex.proofs.RecordsLemmas.{below}

-- ---- the records that are left

abbrev pub left_view : FormView → List ℕ → MixedRecordsView
left_view f text = record { form = f; text = text }

abbrev pub HasMixedLeft : FormView → List ℕ → Type 0
HasMixedLeft f text = (epochs : List EpochTableView) × AreMixedLeft (left_view f text) epochs

-- what is left are records, so it begins with a mark if it is not empty
records-begin : (f : FormView) (epochs : List EpochTableView) → All (IsMixedEpoch f) epochs → IsEndOrRecord (flat_map (mixed_record_text f.doppler) epochs)
records-begin f [] good = inl refl
records-begin f (e ∷ epochs) good =
    let rest : List ℕ = flat_map (mixed_record_text f.doppler) epochs in
    let text : List ℕ = epoch_line (reading_of e.time) (length e.rows) ++ (flat_map (mixed_satellite_line f.doppler) e.rows ++ rest) in
    inr (drop 1 text, epoch-front f e rest (All-head (IsMixedEpoch f) e epochs good))

-- a text that is not empty begins with a record
pub record-due : (f : FormView) (text : List ℕ) → length text ≢ 0 → HasMixedLeft f text → BeginsMixedRecords f text
record-due f text some ([], left) = absurd (some (ap length left.text))
record-due f text some (e ∷ epochs, left) = (
  (e, flat_map (mixed_record_text f.doppler) epochs, All-head (IsMixedEpoch f) e epochs left.are_epochs, left.text),
  records-begin f epochs (All-tail (IsMixedEpoch f) e epochs left.are_epochs),
)

-- no records are left of an empty text
pub none-left : (f : FormView) (text : List ℕ) (epochs : List EpochTableView) → AreMixedLeft (left_view f text) epochs → length text ≡ 0 → epochs ≡ []
none-left f text [] left none = refl
none-left f text (e ∷ epochs) left none =
    absurd (some_text f e (flat_map (mixed_record_text f.doppler) epochs) (All-head (IsMixedEpoch f) e epochs left.are_epochs) (sym left.text ∙ none_of text none))

-- the record that begins a text, and the text after it
abbrev pub PartsRecord : FormView → List ℕ → MixedRowsView → List ℕ → Type 0
PartsRecord f bytes rows rest = (e : EpochTableView) (after : List ℕ) → IsMixedEpoch f e → IsEndOrRecord after → bytes ≡ mixed_record_text f.doppler e ++ after
    → IsRecordOf e rows × (rest ≡ after)

-- it is the first one that was left, and the others are left
pub next-read : (f : FormView) (bytes rest : List ℕ) (rows : MixedRowsView) (epochs : List EpochTableView) → PartsRecord f bytes rows rest → length bytes ≢ 0
    → AreMixedLeft (left_view f bytes) epochs → IsNextRecordOf epochs rows (left_view f rest)
next-read f bytes rest rows [] parts some left = some (ap length left.text)
next-read f bytes rest rows (e ∷ epochs) parts some left =
    let others = All-tail (IsMixedEpoch f) e epochs left.are_epochs in
    let is = parts e (flat_map (mixed_record_text f.doppler) epochs) (All-head (IsMixedEpoch f) e epochs left.are_epochs) (records-begin f epochs others) left.text in
    (is.0, record { are_epochs = others; text = is.1 })

pub others-left : (f : FormView) (bytes rest : List ℕ) (rows : MixedRowsView) → PartsRecord f bytes rows rest → length bytes ≢ 0 → HasMixedLeft f bytes → HasMixedLeft f rest
others-left f bytes rest rows parts some ([], left) = absurd (some (ap length left.text))
others-left f bytes rest rows parts some (e ∷ epochs, left) = (epochs, (next-read f bytes rest rows (e ∷ epochs) parts some left).1)

-- a record has some bytes
pub less-left : (f : FormView) (bytes rest : List ℕ) (rows : MixedRowsView) → PartsRecord f bytes rows rest → length bytes ≢ 0 → HasMixedLeft f bytes → length rest < length bytes
less-left f bytes rest rows parts some ([], left) = absurd (some (ap length left.text))
less-left f bytes rest rows parts some (e ∷ epochs, left) =
    let first = All-head (IsMixedEpoch f) e epochs left.are_epochs in
    let is = parts e (flat_map (mixed_record_text f.doppler) epochs) first (records-begin f epochs (All-tail (IsMixedEpoch f) e epochs left.are_epochs)) left.text in
    let long : length (mixed_record_text f.doppler e) ≢ 0 = λ none. some_text f e [] first (ap (λ (xs : List ℕ). xs ++ []) (none_of (mixed_record_text f.doppler e) none)) in
    omega (arith, ap length left.text, length-append (mixed_record_text f.doppler e) (flat_map (mixed_record_text f.doppler) epochs), ap length is.1, long)

-- ---- the records of a table

pub left-after : (bytes rest : List ℕ) (h : MixedHeadView) (s : PositionView) (first : ℕ) (t : MixedTable) → bytes ≡ mixed_header_text h s first ++ rest
    → IsOnlyMixedHeader bytes h s first → IsMixedTable t → bytes ≡ mixed_table_text t
    → (form_of_head h ≡ form_of_head t.head) × AreMixedLeft (left_view (form_of_head h) rest) t.epochs
left-after bytes rest h s first t split only is e =
    let one = only t.head t.site t.first (flat_map (mixed_record_text t.head.doppler) t.epochs) is.head is.site is.first e in
    let good : All (IsMixedEpoch (form_of_head h)) t.epochs = rw one.0 at is.epochs in (
      ap form_of_head (sym one.0),
      record { are_epochs = good; text = epochs-after-header bytes rest h s first t split e one.0 one.1 one.2 },
    )

pub records-of : (bytes rest : List ℕ) (h : MixedHeadView) (s : PositionView) (first records lines : ℕ) → bytes ≡ mixed_header_text h s first ++ rest
    → IsOnlyMixedHeader bytes h s first → ∥ HoldsMixedTable bytes records lines ∥₁ → IsMixedRecordsView (left_view (form_of_head h) rest)
records-of bytes rest h s first records lines split only holds =
    ∥∥₁_map holds (λ t. (t.table.epochs, (left-after bytes rest h s first t.table split only t.is_table t.text).1))

-- ---- the rows of a record

abbrev pub rows_view : FormView → ℕ → List ℕ → List ℕ → ℕ → MixedRowsView
rows_view f time text lines count = record { form = f; time = time; text = text; lines = lines; count = count }

-- the row whose line begins what is left of the lines
pub record HasMixedRow (f : FormView) (lines : List ℕ) : Type 0 where
  pub row : SatelliteRow
  pub rest : List ℕ
  pub is_row : IsMixedRow f row
  pub text : lines ≡ mixed_satellite_line f.doppler row ++ rest

pub row-due : (r : MixedRowsView) (rows : List SatelliteRow) → AreRowsLeft r rows → r.count ≢ 0 → HasMixedRow r.form r.lines
row-due r [] left some = absurd (some (sym left.count))
row-due r (row ∷ rows) left some = record { row = row; rest = flat_map (mixed_satellite_line r.form.doppler) rows; is_row = All-head (IsMixedRow r.form) row rows left.are_rows; text = left.text }

-- the line that stands there is the line of that row
pub line-due : (doppler : Bool) (line after lines : List ℕ) (row : SatelliteRow) (rest : List ℕ) → IsLine line → lines ≡ line ++ after → lines ≡ mixed_satellite_line doppler row ++ rest
    → (line ≡ mixed_satellite_line doppler row) × (after ≡ rest)
line-due doppler line after lines row rest is split text = same_line line (mixed_satellite_line doppler row) after rest is (mixed_line-line doppler row) (sym split ∙ text)

-- the row that was read is the first one, and the others are left
pub row-read : (f : FormView) (time : ℕ) (text lines line after : List ℕ) (count : ℕ) (row : SatelliteRow) (rows : List SatelliteRow) → count ≢ 0 → IsLine line
    → lines ≡ line ++ after → IsMixedRow f row → line ≡ mixed_satellite_line f.doppler row → AreRowsLeft (rows_view f time text lines count) rows
    → IsNextRowOf rows row (rows_view f time text after (count - 1))
row-read f time text lines line after count row [] some is split good line_is left = some (sym left.count)
row-read f time text lines line after count row (r ∷ rows) some is split good line_is left =
    let due = line-due f.doppler line after lines r (flat_map (mixed_satellite_line f.doppler) rows) is split left.text in
    let head = All-head (IsMixedRow f) r rows left.are_rows in (
      one-mixed-row f row r good head (sym line_is ∙ due.0),
      record {
        are_rows = All-tail (IsMixedRow f) r rows left.are_rows;
        count = omega (arith, left.count);
        text = due.1;
      },
    )

abbrev pub HasRowsLeft : MixedRowsView → Type 0
HasRowsLeft r = (rows : List SatelliteRow) × AreRowsLeft r rows

pub others-of-rows : (row : SatelliteRow) (left : MixedRowsView) (rows : List SatelliteRow) → IsNextRowOf rows row left → HasRowsLeft left
others-of-rows row left [] next = absurd next
others-of-rows row left (r ∷ rows) next = (rows, next.1)

-- no rows are left if their number is 0
pub no-rows : (r : MixedRowsView) (rows : List SatelliteRow) → AreRowsLeft r rows → r.count ≡ 0 → rows ≡ []
no-rows r [] left none = refl
no-rows r (row ∷ rows) left none = absurd (omega (arith, left.count, none))

-- ---- the columns of a row

-- what the columns show has no phase if they may show none
phases-of : (doppler phases : Bool) (n : ℕ) (columns : List ℕ) (cells : List Observed) → All (IsObservedIn doppler) cells → length cells ≡ n
    → left (code_width doppler * n) columns ≡ flat_map (code_text doppler) cells → AreMixedCells doppler phases n columns → phases ≡ false → All HasNoPhase cells
phases-of doppler phases n columns cells h count text mixed none =
    let m = mixed-cells-of doppler phases n columns mixed in
    let same : m.cells ≡ cells = same-codes doppler m.cells cells m.observed h (m.count ∙ sym count) (sym m.text ∙ text) in
    rw same at (m.none none)

none-there : {P : Type 0} (v : Option ℤ) → ∥ P ∥₁ → (P → v ≡ None) → v ≡ None
none-there None h f = refl
none-there (Some x) h f = absurd (not_there h (λ p. let same = f p in cc))

no-phases : {P : Type 0} (cells : List Observed) → ∥ P ∥₁ → (P → All HasNoPhase cells) → All HasNoPhase cells
no-phases cells h f = λ k d less. (none-there _ h (λ p. (f p k d less).0), none-there _ h (λ p. (f p k d less).1))

-- a row of a file has this line
abbrev pub HasRowOf : FormView → List ℕ → Type 0
HasRowOf f line = (r : SatelliteRow) × IsMixedRow f r × (line ≡ mixed_satellite_line f.doppler r)

-- the columns of the line of a row whose satellite was read
pub columns-of : (f : FormView) (line columns : List ℕ) (s : ℕ) (form : HasMixedRowForm f line columns s) → IsMixedForm f line s → HasRowOf f line
    → (0 < length columns) × AreMixedCells f.doppler (has_phases f s) (width_at f s) columns
columns-of f line columns s form is r =
    mixed-cells-of-row f line columns s form r.0 r.1 (one-satellite line r.0.satellite s r.1.satellite form.satellite (mixed-named f.doppler line r.0 r.2) is.1) r.2

-- the row that was read has this line
pub row-is : (f : FormView) (line columns : List ℕ) (s : ℕ) (cells : List Observed) → HasMixedRowForm f line columns s → IsMixedForm f line s → ∥ HasRowOf f line ∥₁
    → All (IsObservedIn f.doppler) cells → length cells ≡ width_at f s → left (code_width f.doppler * width_at f s) columns ≡ flat_map (code_text f.doppler) cells
    → IsMixedLineOf f line (record { satellite = s; observed = record { items = cells } })
row-is f line columns s cells form is has observed count shown =
    let some = below 0 (length columns) has (λ r. (columns-of f line columns s form is r).0) in
    mixed-row-shown f line columns s cells form some observed count shown (λ none.
    no-phases cells has (λ r.
    phases-of f.doppler (has_phases f s) (width_at f s) columns cells observed count shown (columns-of f line columns s form is r).1 none))

-- ---- the epoch line

-- the epoch line that was read is that of this epoch
pub record IsEpochLineOf (f : FormView) (e : EpochTableView) (line after rest : List ℕ) : Type 0 where
  pub count : IsInRange 1 (most_satellites f) (length e.rows)
  pub columns : take 35 line ≡ epoch_columns (reading_of e.time) (length e.rows)
  pub long : length line ≡ 36
  pub lines : after ≡ flat_map (mixed_satellite_line f.doppler) e.rows ++ rest

pub line-read : (f : FormView) (e : EpochTableView) (bytes rest line after : List ℕ) → IsMixedEpoch f e → bytes ≡ mixed_record_text f.doppler e ++ rest → IsLine line
    → bytes ≡ line ++ after → IsEpochLineOf f e line after rest
line-read f e bytes rest line after is text line_is split =
    let count = count-of f e is in
    let few = count-few f (length e.rows) count in
    let same = same_line line (epoch_line (reading_of e.time) (length e.rows)) after (flat_map (mixed_satellite_line f.doppler) e.rows ++ rest) line_is (epoch_line-of f e is)
    (sym split ∙ text ∙ epoch-front f e rest is) in
    record {
      count = count;
      columns = line-columns line e.time (length e.rows) is.time few same.0;
      long = length-line line e.time (length e.rows) is.time few same.0;
      lines = same.1;
    }

-- such a line is there
pub line-there : (f : FormView) (bytes : List ℕ) → BeginsWithMixedRecord f bytes → HasNoEnd bytes → ⊥
line-there f bytes has none = no_line bytes _ _ none (epoch_line-of f has.0 has.2) (has.3 ∙ epoch-front f has.0 has.1 has.2)

-- a text that is split before this rest of it
pub split-parts : (text front rest : List ℕ) → text ≡ front ++ rest → (take (length text - length rest) text ≡ front) × (drop (length text - length rest) text ≡ rest)
split-parts text front rest e =
    let size : length text - length rest ≡ length front = omega (arith, ap length e, length-append front rest) in
    (rw (size, e) (take-exact (length front) front rest refl), rw (size, e) (drop-exact (length front) front rest refl))

-- how a text is split before this rest of it
abbrev pub SplitsBefore : List ℕ → List ℕ → List ℕ → List ℕ → Type 0
SplitsBefore text rest front back = (first : List ℕ) → text ≡ first ++ rest → (front ≡ first) × (back ≡ rest)

-- the record whose rows were not read, and the text after it
pub record-parts : (f : FormView) (e : EpochTableView) (bytes whole lines rows skipped back others after : List ℕ) (time count : ℕ) → IsMixedEpoch f e → bytes ≡ mixed_record_text f.doppler e ++ after
    → (time ≡ e.time) × (count ≡ length e.rows) × (lines ≡ flat_map (mixed_satellite_line f.doppler) e.rows ++ after) → skipped ≡ after
    → SplitsBefore bytes skipped whole back → SplitsBefore lines skipped rows others
    → IsRecordOf e (rows_view f time whole rows count) × (back ≡ after)
record-parts f e bytes whole lines rows skipped back others after time count is text stamp same of_bytes of_lines =
    let first = of_bytes (mixed_record_text f.doppler e) (text ∙ ap (λ (xs : List ℕ). mixed_record_text f.doppler e ++ xs) (sym same)) in
    let second = of_lines (flat_map (mixed_satellite_line f.doppler) e.rows) (stamp.2 ∙ ap (λ (xs : List ℕ). flat_map (mixed_satellite_line f.doppler) e.rows ++ xs) (sym same)) in (
      record { time = stamp.0; text = first.0; rows = record { are_rows = is.rows; count = sym stamp.1; text = second.0 } },
      first.1 ∙ same,
    )

-- Records have one fault at most: its line and its cause.
use Rattle.std.proofs.Common.{◌≡◌, ℕ, ◌+◌, ◌≤◌, Option, None, List, [], ◌∷◌, ◌++◌, length, refl, sym, ◌∙◌, ap, arith, append_assoc, flat_map, inl, inr, ◌⊎◌, ⊎_elim}
use Rattle.std.specs.Prelude.{All, AllPairs}
use Rattle.std.specs.Int.{IsInRange}
use Rattle.std.proofs.lemmas.Bool.Decides.{leb_tells}
use Rattle.std.proofs.lemmas.List.{append-nil}
use Rattle.std.proofs.lemmas.List.Elements.{All-head, All-tail}
use Rattle.rtk_rinex.specs.declared.check_fault.Cause.{Cause}
use Rattle.rtk_rinex.specs.declared.check_fault.Cause.TheVariants.{HeaderLine, Columns, Value, Order, Truncated, OutOfMemory}
use Rattle.rtk_rinex.specs.declared.check_fault.CheckFault.{CheckFault}
use Rattle.rtk_rinex.specs.declared.epoch_table.SatelliteRow.{SatelliteRow}
use Rattle.rtk_obs.specs.Reading.{IsMoment, reading_of}
use Rattle.rtk_rinex.specs.Record.{EpochTableView, epoch_line, satellite_line, record_text}
use Rattle.rtk_rinex.specs.Table.{IsTableRow, IsTableEpoch, StartsAt}
use Rattle.rtk_rinex.specs.CheckLine.{IsNextTime, IsEpochFault, IsSatelliteFault}
use Rattle.rtk_rinex.specs.Lines.{HasNoEnd, IsLine}
use Rattle.rtk_rinex.specs.CheckText.{BeginsWithFault, last_satellite, last_time, record_lines, IsFaultOfRows, IsFaultAfterEpochLine, IsFaultOfEpochLine, IsFaultOfRecord, IsFaultOfRecords}
use Rattle.rtk_rinex.proofs.CheckLemmas.{one_satellite, rows-all, rows-rise}
use Rattle.rtk_rinex.proofs.LineLemmas.{epoch_line-line, no_line, same_line}
use Rattle.rtk_rinex.proofs.OneLemmas.{Below, Earlier, Goes, same_cons, one_epoch_line, same_rows, one_record, row-next, epoch-next, epochs-all, epochs-rise, epochs-start}
use Rattle.rtk_rinex.proofs.FormLemmas.{no_satellite_fault}
use Rattle.rtk_rinex.proofs.TextLemmas.{rows_more, all_more, record-fault}

-- ---- a line has one cause

-- one cause holds of a line at most
abbrev pub HasOneCause : (List ℕ → Cause → Type 0) → Type 0
HasOneCause Fault = (line : List ℕ) (c d : Cause) → Fault line c → Fault line d → c ≡ d

one_satellite_cause : (n : ℕ) (last : Option ℕ) → HasOneCause (IsSatelliteFault n last)
one_satellite_cause n last line HeaderLine d a b = absurd a
one_satellite_cause n last line Truncated d a b = absurd a
one_satellite_cause n last line OutOfMemory d a b = absurd a
one_satellite_cause n last line Columns HeaderLine a b = absurd b
one_satellite_cause n last line Columns Columns a b = refl
one_satellite_cause n last line Columns Value a b = absurd (a b.0 b.1)
one_satellite_cause n last line Columns Order a b = absurd (a b.0 b.1)
one_satellite_cause n last line Columns Truncated a b = absurd b
one_satellite_cause n last line Columns OutOfMemory a b = absurd b
one_satellite_cause n last line Value HeaderLine a b = absurd b
one_satellite_cause n last line Value Columns a b = absurd (b a.0 a.1)
one_satellite_cause n last line Value Value a b = refl
one_satellite_cause n last line Value Order a b =
    let same : a.0 ≡ b.0 = one_satellite line a.0 b.0 a.1.0 b.1.0 a.1.1 b.1.1 in
    absurd (b.2 (rw same at a.2))
one_satellite_cause n last line Value Truncated a b = absurd b
one_satellite_cause n last line Value OutOfMemory a b = absurd b
one_satellite_cause n last line Order HeaderLine a b = absurd b
one_satellite_cause n last line Order Columns a b = absurd (b a.0 a.1)
one_satellite_cause n last line Order Value a b =
    let same : b.0 ≡ a.0 = one_satellite line b.0 a.0 b.1.0 a.1.0 b.1.1 a.1.1 in
    absurd (a.2 (rw same at b.2))
one_satellite_cause n last line Order Order a b = refl
one_satellite_cause n last line Order Truncated a b = absurd b
one_satellite_cause n last line Order OutOfMemory a b = absurd b

one_epoch_cause : (first : ℕ) (last : Option ℕ) → HasOneCause (IsEpochFault first last)
one_epoch_cause first last line HeaderLine d a b = absurd a
one_epoch_cause first last line Value d a b = absurd a
one_epoch_cause first last line Truncated d a b = absurd a
one_epoch_cause first last line OutOfMemory d a b = absurd a
one_epoch_cause first last line Columns HeaderLine a b = absurd b
one_epoch_cause first last line Columns Columns a b = refl
one_epoch_cause first last line Columns Value a b = absurd b
one_epoch_cause first last line Columns Order a b = absurd (a b.0 b.1 b.2)
one_epoch_cause first last line Columns Truncated a b = absurd b
one_epoch_cause first last line Columns OutOfMemory a b = absurd b
one_epoch_cause first last line Order HeaderLine a b = absurd b
one_epoch_cause first last line Order Columns a b = absurd (b a.0 a.1 a.2)
one_epoch_cause first last line Order Value a b = absurd b
one_epoch_cause first last line Order Order a b = refl
one_epoch_cause first last line Order Truncated a b = absurd b
one_epoch_cause first last line Order OutOfMemory a b = absurd b

-- ---- a text in which a line is due has one cause

abbrev FaultOfLine : (List ℕ → Cause → Type 0) → List ℕ → Cause → Type 0
FaultOfLine Fault text cause = (line : List ℕ) × (rest : List ℕ) × IsLine line × (text ≡ line ++ rest) × Fault line cause

-- no line ends, or the line has the fault
begun : (Fault : List ℕ → Cause → Type 0) (text : List ℕ) (c : Cause) → BeginsWithFault Fault text c
    → ((c ≡ Truncated) × HasNoEnd text) ⊎ FaultOfLine Fault text c
begun Fault text HeaderLine b = inr b
begun Fault text Columns b = inr b
begun Fault text Value b = inr b
begun Fault text Order b = inr b
begun Fault text Truncated b = inl (refl, b)
begun Fault text OutOfMemory b = inr b

pub one_beginning : (Fault : List ℕ → Cause → Type 0) (text : List ℕ) (c d : Cause) → HasOneCause Fault
    → BeginsWithFault Fault text c → BeginsWithFault Fault text d → c ≡ d
one_beginning Fault text c d one a b =
    ⊎_elim
    (λ cut. ⊎_elim
    (λ other. cut.0 ∙ sym other.0)
    (λ line. absurd (no_line text line.0 line.1 cut.1 line.2 line.3))
    (begun Fault text d b))
    (λ here. ⊎_elim
    (λ cut. absurd (no_line text here.0 here.1 cut.1 here.2 here.3))
    (λ line.
    let same = same_line here.0 line.0 here.1 line.1 here.2 line.2 (sym here.3 ∙ line.3) in
    one here.0 c d here.4 (rw (← same.0) at line.4))
    (begun Fault text d b))
    (begun Fault text c a)

-- ---- the rows of a record

-- the faults have one line and one cause
abbrev pub IsSame : CheckFault → CheckFault → Type 0
IsSame f g = (f.line ≡ g.line) × (f.cause ≡ g.cause)

pub turned : (f g : CheckFault) → IsSame g f → IsSame f g
turned f g s = (sym s.0, sym s.1)

rows_with_more : (n count before : ℕ) (bytes : List ℕ) (f g : CheckFault) (a : IsFaultOfRows n count before bytes f) (b : IsFaultOfRows n count before bytes g)
    → (more : List SatelliteRow)
    → b.rows ≡ a.rows ++ more → a.rest ≡ flat_map satellite_line more ++ b.rest → IsSame f g
rows_with_more n count before bytes f g a b [] e text =
    let rows : b.rows ≡ a.rows = e ∙ append-nil a.rows in
    let cause = rw (rows, ← text) at b.cause in (
      a.line ∙ (let size = ap length rows in omega (arith, size)) ∙ sym b.line,
      one_beginning (IsSatelliteFault n (last_satellite None a.rows)) a.rest f.cause g.cause (one_satellite_cause n (last_satellite None a.rows)) a.cause cause,
    )
rows_with_more n count before bytes f g a b (r ∷ more) e text =
    let good : All (IsTableRow n) (a.rows ++ r ∷ more) = rw e at (rows-all n None b.rows b.are_rows) in
    let rise : AllPairs Below (a.rows ++ r ∷ more) = rw e at (rows-rise n None b.rows b.are_rows) in
    absurd (no_satellite_fault n (last_satellite None a.rows) a.rest f.cause r (flat_map satellite_line more ++ b.rest) a.cause
    (All-head (IsTableRow n) r more (rows_more n a.rows (r ∷ more) good)) (row-next a.rows r more rise)
    (text ∙ append_assoc (satellite_line r) (flat_map satellite_line more) b.rest))

rows_ordered : (n count before : ℕ) (bytes : List ℕ) (f g : CheckFault) → n ≤ 16 → (a : IsFaultOfRows n count before bytes f) (b : IsFaultOfRows n count before bytes g)
    → length a.rows ≤ length b.rows → IsSame f g
rows_ordered n count before bytes f g le a b long =
    let goes = same_rows n a.rows b.rows a.rest b.rest le (rows-all n None a.rows a.are_rows) (rows-all n None b.rows b.are_rows) long (sym a.text ∙ b.text) in
    rows_with_more n count before bytes f g a b goes.more goes.list goes.text

one_of_rows : (n count before : ℕ) (bytes : List ℕ) (f g : CheckFault) → n ≤ 16 → IsFaultOfRows n count before bytes f → IsFaultOfRows n count before bytes g
    → IsSame f g
one_of_rows n count before bytes f g le a b =
    elim (leb_tells (length a.rows) (length b.rows)) [
      | inl less ↦ rows_ordered n count before bytes f g le a b less.1
      | inr more ↦ turned f g (rows_ordered n count before bytes g f le b a (omega (arith, more.1)))
    ]

-- ---- a record

-- a good epoch line has no fault
good_line : (first : ℕ) (last : Option ℕ) (text : List ℕ) (cause : Cause) (t n : ℕ) (y : List ℕ)
    → BeginsWithFault (IsEpochFault first last) text cause → IsMoment t → IsInRange 1 32 n → IsNextTime first last t
    → text ≡ epoch_line (reading_of t) n ++ y → ⊥
good_line first last text HeaderLine t n y b m range next e = b.4
good_line first last text Columns t n y b m range next e =
    let same = same_line b.0 (epoch_line (reading_of t) n) b.1 y b.2 (epoch_line-line t n m (omega (arith, range))) (sym b.3 ∙ e) in
    b.4 t n (m, range, same.0)
good_line first last text Value t n y b m range next e = b.4
good_line first last text Order t n y b m range next e =
    let same = same_line b.0 (epoch_line (reading_of t) n) b.1 y b.2 (epoch_line-line t n m (omega (arith, range))) (sym b.3 ∙ e) in
    let is = b.4.2 in
    let one = one_epoch_line t b.4.0 n b.4.1 m is.0 (omega (arith, range)) (omega (arith, is.1)) (sym same.0 ∙ is.2) in
    b.4.3 (rw one.0 at next)
good_line first last text Truncated t n y b m range next e =
    no_line text (epoch_line (reading_of t) n) y b (epoch_line-line t n m (omega (arith, range))) e
good_line first last text OutOfMemory t n y b m range next e = b.4

line_or_rows : (n first : ℕ) (last : Option ℕ) (before : ℕ) (text : List ℕ) (f g : CheckFault) → IsFaultOfEpochLine first last before text f
    → IsFaultAfterEpochLine n first last before text g → ⊥
line_or_rows n first last before text f g a b =
    good_line first last text f.cause b.time b.count b.rest a.cause b.moment b.range b.next b.text

one_after_line : (n first : ℕ) (last : Option ℕ) (before : ℕ) (text : List ℕ) (f g : CheckFault) → n ≤ 16 → IsFaultAfterEpochLine n first last before text f
    → IsFaultAfterEpochLine n first last before text g → IsSame f g
one_after_line n first last before text f g le a b =
    let line = same_line (epoch_line (reading_of a.time) a.count) (epoch_line (reading_of b.time) b.count) a.rest b.rest
    (epoch_line-line a.time a.count a.moment (omega (arith, a.range))) (epoch_line-line b.time b.count b.moment (omega (arith, b.range))) (sym a.text ∙ b.text) in
    let one = one_epoch_line a.time b.time a.count b.count a.moment b.moment (omega (arith, a.range)) (omega (arith, b.range)) line.0 in
    let rows : IsFaultOfRows n a.count (before + 1) a.rest g = rw (← one.1, ← line.1) at b.rows in
    one_of_rows n a.count (before + 1) a.rest f g le a.rows rows

one_of_record : (n first : ℕ) (last : Option ℕ) (before : ℕ) (text : List ℕ) (f g : CheckFault) → n ≤ 16 → IsFaultOfRecord n first last before text f
    → IsFaultOfRecord n first last before text g → IsSame f g
one_of_record n first last before text f g le a b =
    ⊎_elim
    (λ line. ⊎_elim
    (λ other. (line.line ∙ sym other.line, one_beginning (IsEpochFault first last) text f.cause g.cause (one_epoch_cause first last) line.cause other.cause))
    (λ rows. absurd (line_or_rows n first last before text f g line rows))
    b)
    (λ rows. ⊎_elim
    (λ line. absurd (line_or_rows n first last before text g f line rows))
    (λ other. one_after_line n first last before text f g le rows other)
    b)
    a

-- ---- the records

same_records : (n : ℕ) (epochs others : List EpochTableView) (x y : List ℕ) → n ≤ 16 → All (IsTableEpoch n) epochs → All (IsTableEpoch n) others
    → length epochs ≤ length others → flat_map record_text epochs ++ x ≡ flat_map record_text others ++ y → Goes record_text epochs others x y
same_records n [] others x y le h g long e = record { more = others; list = refl; text = e }
same_records n (a ∷ epochs) [] x y le h g long e = absurd (omega arith)
same_records n (a ∷ epochs) (b ∷ others) x y le h g long e =
    let left = append_assoc (record_text a) (flat_map record_text epochs) x in
    let right = append_assoc (record_text b) (flat_map record_text others) y in
    let one = one_record n a b (flat_map record_text epochs ++ x) (flat_map record_text others ++ y) le
    (All-head (IsTableEpoch n) a epochs h) (All-head (IsTableEpoch n) b others g) (sym left ∙ e ∙ right) in
    let rest = same_records n epochs others x y le (All-tail (IsTableEpoch n) a epochs h) (All-tail (IsTableEpoch n) b others g) (omega arith) one.1 in
    record { more = rest.more; list = same_cons a b (epochs ++ rest.more) others one.0 rest.list; text = rest.text }

records_with_more : (n first before : ℕ) (bytes : List ℕ) (f g : CheckFault) → n ≤ 16 → (a : IsFaultOfRecords n first before bytes f) (b : IsFaultOfRecords n first before bytes g)
    → (more : List EpochTableView) → b.epochs ≡ a.epochs ++ more → a.rest ≡ flat_map record_text more ++ b.rest → IsSame f g
records_with_more n first before bytes f g le a b [] e text =
    let epochs : b.epochs ≡ a.epochs = e ∙ append-nil a.epochs in
    let next : IsFaultOfRecord n first (last_time None a.epochs) (before + record_lines a.epochs) a.rest g = rw (epochs, ← text) at b.next in
    one_of_record n first (last_time None a.epochs) (before + record_lines a.epochs) a.rest f g le a.next next
records_with_more n first before bytes f g le a b (q ∷ more) e text =
    let good : All (IsTableEpoch n) (a.epochs ++ q ∷ more) = rw e at (epochs-all n first None b.epochs b.are_epochs) in
    let rise : AllPairs Earlier (a.epochs ++ q ∷ more) = rw e at (epochs-rise n first None b.epochs b.are_epochs) in
    let start : StartsAt first (a.epochs ++ q ∷ more) = rw e at (epochs-start n first b.epochs b.are_epochs) in
    absurd (record-fault n first (last_time None a.epochs) _ a.rest f q (flat_map record_text more ++ b.rest) le a.next
    (All-head (IsTableEpoch n) q more (all_more n a.epochs (q ∷ more) good)) (epoch-next first a.epochs q more start rise)
    (text ∙ append_assoc (record_text q) (flat_map record_text more) b.rest))

records_ordered : (n first before : ℕ) (bytes : List ℕ) (f g : CheckFault) → n ≤ 16 → (a : IsFaultOfRecords n first before bytes f) (b : IsFaultOfRecords n first before bytes g)
    → length a.epochs ≤ length b.epochs → IsSame f g
records_ordered n first before bytes f g le a b long =
    let goes = same_records n a.epochs b.epochs a.rest b.rest le (epochs-all n first None a.epochs a.are_epochs) (epochs-all n first None b.epochs b.are_epochs) long (sym a.text ∙ b.text) in
    records_with_more n first before bytes f g le a b goes.more goes.list goes.text

-- records have one fault
pub one_of_records : (n first before : ℕ) (bytes : List ℕ) (f g : CheckFault) → n ≤ 16 → IsFaultOfRecords n first before bytes f → IsFaultOfRecords n first before bytes g
    → IsSame f g
one_of_records n first before bytes f g le a b =
    elim (leb_tells (length a.epochs) (length b.epochs)) [
      | inl less ↦ records_ordered n first before bytes f g le a b less.1
      | inr more ↦ turned f g (records_ordered n first before bytes g f le b a (omega (arith, more.1)))
    ]

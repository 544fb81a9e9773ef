-- Records of any systems have one fault at most: its line and its cause.
use Rattle.std.proofs.Common.{◌≡◌, ℕ, ◌+◌, ◌≤◌, Option, None, List, [], ◌∷◌, ◌++◌, length, refl, sym, ◌∙◌, ap, arith, append_assoc, flat_map, inl, inr, ⊎_elim}
use Rattle.std.specs.Prelude.{All, AllPairs}
use Rattle.std.specs.Int.{IsInRange}
use Rattle.std.proofs.lemmas.Bool.Decides.{leb_tells}
use Rattle.std.proofs.lemmas.List.{append-nil}
use Rattle.std.proofs.lemmas.List.Elements.{All-head, All-tail}
use Rattle.rtk_rinex.specs.declared.check_fault.Cause.{Cause}
use Rattle.rtk_rinex.specs.declared.check_fault.Cause.TheVariants.{HeaderLine, Columns, Value, Order, Truncated, OutOfMemory}
use Rattle.rtk_rinex.specs.declared.check_fault.CheckFault.{CheckFault}
use Rattle.rtk_rinex.specs.declared.epoch_table.SatelliteRow.{SatelliteRow}
use Rattle.rtk_obs.specs.Reading.{IsMoment, reading_of}
use Rattle.rtk_rinex.specs.Record.{EpochTableView, epoch_line}
use Rattle.rtk_rinex.specs.Table.{StartsAt}
use Rattle.rtk_rinex.specs.CheckLine.{IsNextTime}
use Rattle.rtk_rinex.specs.CheckText.{BeginsWithFault, last_satellite, last_time, record_lines}
use Rattle.rtk_rinex.specs.MixedRecord.{mixed_satellite_line, mixed_record_text}
use Rattle.rtk_rinex.specs.MixedForm.{FormView, most_satellites}
use Rattle.rtk_rinex.specs.MixedTable.{IsMixedRow, IsMixedEpoch}
use Rattle.rtk_rinex.specs.MixedCheckLine.{IsMixedEpochFault, IsMixedSatelliteFault}
use Rattle.rtk_rinex.specs.MixedCheckText.{IsFaultOfMixedRows, IsFaultAfterMixedEpochLine, IsFaultOfMixedEpochLine, IsFaultOfMixedRecord, IsFaultOfMixedRecords}
use Rattle.rtk_rinex.proofs.LineLemmas.{epoch_line-line, no_line, same_line}
use Rattle.rtk_rinex.proofs.OneLemmas.{Below, Earlier, Goes, same_cons, one_epoch_line, row-next, epoch-next}
use Rattle.rtk_rinex.proofs.OneRecordsLemmas.{HasOneCause, one_beginning, IsSame, turned}
use Rattle.rtk_rinex.proofs.MixedCheckLemmas.{rows-all, rows-rise}
use Rattle.rtk_rinex.proofs.MixedCountLemmas.{count-few}
use Rattle.rtk_rinex.proofs.MixedFormLemmas.{no_satellite_fault}
use Rattle.rtk_rinex.proofs.MixedOneLemmas.{same_rows, one_record, epochs-all, epochs-rise, epochs-start}
use Rattle.rtk_rinex.proofs.MixedRowLemmas.{one-satellite}
use Rattle.rtk_rinex.proofs.MixedTextLemmas.{rows_more, all_more, record-fault}

-- ---- a line has one cause

one_satellite_cause : (n : FormView) (last : Option ℕ) → HasOneCause (IsMixedSatelliteFault n last)
one_satellite_cause n last line HeaderLine d a b = absurd a
one_satellite_cause n last line Truncated d a b = absurd a
one_satellite_cause n last line OutOfMemory d a b = absurd a
one_satellite_cause n last line Columns HeaderLine a b = absurd b
one_satellite_cause n last line Columns Columns a b = refl
one_satellite_cause n last line Columns Value a b = absurd (a b.0 b.1)
one_satellite_cause n last line Columns Order a b = absurd (a b.0 b.1)
one_satellite_cause n last line Columns Truncated a b = absurd b
one_satellite_cause n last line Columns OutOfMemory a b = absurd b
one_satellite_cause n last line Value HeaderLine a b = absurd b
one_satellite_cause n last line Value Columns a b = absurd (b a.0 a.1)
one_satellite_cause n last line Value Value a b = refl
one_satellite_cause n last line Value Order a b =
    let same : a.0 ≡ b.0 = one-satellite line a.0 b.0 a.1.0 b.1.0 a.1.1 b.1.1 in
    absurd (b.2 (rw same at a.2))
one_satellite_cause n last line Value Truncated a b = absurd b
one_satellite_cause n last line Value OutOfMemory a b = absurd b
one_satellite_cause n last line Order HeaderLine a b = absurd b
one_satellite_cause n last line Order Columns a b = absurd (b a.0 a.1)
one_satellite_cause n last line Order Value a b =
    let same : b.0 ≡ a.0 = one-satellite line b.0 a.0 b.1.0 a.1.0 b.1.1 a.1.1 in
    absurd (a.2 (rw same at b.2))
one_satellite_cause n last line Order Order a b = refl
one_satellite_cause n last line Order Truncated a b = absurd b
one_satellite_cause n last line Order OutOfMemory a b = absurd b

one_epoch_cause : (n : FormView) (first : ℕ) (last : Option ℕ) → HasOneCause (IsMixedEpochFault n first last)
one_epoch_cause n first last line HeaderLine d a b = absurd a
one_epoch_cause n first last line Value d a b = absurd a
one_epoch_cause n first last line Truncated d a b = absurd a
one_epoch_cause n first last line OutOfMemory d a b = absurd a
one_epoch_cause n first last line Columns HeaderLine a b = absurd b
one_epoch_cause n first last line Columns Columns a b = refl
one_epoch_cause n first last line Columns Value a b = absurd b
one_epoch_cause n first last line Columns Order a b = absurd (a b.0 b.1 b.2)
one_epoch_cause n first last line Columns Truncated a b = absurd b
one_epoch_cause n first last line Columns OutOfMemory a b = absurd b
one_epoch_cause n first last line Order HeaderLine a b = absurd b
one_epoch_cause n first last line Order Columns a b = absurd (b a.0 a.1 a.2)
one_epoch_cause n first last line Order Value a b = absurd b
one_epoch_cause n first last line Order Order a b = refl
one_epoch_cause n first last line Order Truncated a b = absurd b
one_epoch_cause n first last line Order OutOfMemory a b = absurd b

-- ---- the rows of a record

rows_with_more : (n : FormView) (count before : ℕ) (bytes : List ℕ) (f g : CheckFault) (a : IsFaultOfMixedRows n count before bytes f) (b : IsFaultOfMixedRows n count before bytes g)
    → (more : List SatelliteRow)
    → b.rows ≡ a.rows ++ more → a.rest ≡ flat_map (mixed_satellite_line n.doppler) more ++ b.rest → IsSame f g
rows_with_more n count before bytes f g a b [] e text =
    let rows : b.rows ≡ a.rows = e ∙ append-nil a.rows in
    let cause = rw (rows, ← text) at b.cause in (
      a.line ∙ (let size = ap length rows in omega (arith, size)) ∙ sym b.line,
      one_beginning (IsMixedSatelliteFault n (last_satellite None a.rows)) a.rest f.cause g.cause (one_satellite_cause n (last_satellite None a.rows)) a.cause cause,
    )
rows_with_more n count before bytes f g a b (r ∷ more) e text =
    let good : All (IsMixedRow n) (a.rows ++ r ∷ more) = rw e at (rows-all n None b.rows b.are_rows) in
    let rise : AllPairs Below (a.rows ++ r ∷ more) = rw e at (rows-rise n None b.rows b.are_rows) in
    absurd (no_satellite_fault n (last_satellite None a.rows) a.rest f.cause r (flat_map (mixed_satellite_line n.doppler) more ++ b.rest) a.cause
    (All-head (IsMixedRow n) r more (rows_more n a.rows (r ∷ more) good)) (row-next a.rows r more rise)
    (text ∙ append_assoc (mixed_satellite_line n.doppler r) (flat_map (mixed_satellite_line n.doppler) more) b.rest))

rows_ordered : (n : FormView) (count before : ℕ) (bytes : List ℕ) (f g : CheckFault) → (a : IsFaultOfMixedRows n count before bytes f) (b : IsFaultOfMixedRows n count before bytes g)
    → length a.rows ≤ length b.rows → IsSame f g
rows_ordered n count before bytes f g a b long =
    let goes = same_rows n a.rows b.rows a.rest b.rest (rows-all n None a.rows a.are_rows) (rows-all n None b.rows b.are_rows) long (sym a.text ∙ b.text) in
    rows_with_more n count before bytes f g a b goes.more goes.list goes.text

one_of_rows : (n : FormView) (count before : ℕ) (bytes : List ℕ) (f g : CheckFault) → IsFaultOfMixedRows n count before bytes f → IsFaultOfMixedRows n count before bytes g
    → IsSame f g
one_of_rows n count before bytes f g a b =
    elim (leb_tells (length a.rows) (length b.rows)) [
      | inl less ↦ rows_ordered n count before bytes f g a b less.1
      | inr more ↦ turned f g (rows_ordered n count before bytes g f b a (omega (arith, more.1)))
    ]

-- ---- a record

-- a good epoch line has no fault
good_line : (n : FormView) (first : ℕ) (last : Option ℕ) (text : List ℕ) (cause : Cause) (t k : ℕ) (y : List ℕ)
    → BeginsWithFault (IsMixedEpochFault n first last) text cause → IsMoment t → IsInRange 1 (most_satellites n) k → IsNextTime first last t
    → text ≡ epoch_line (reading_of t) k ++ y → ⊥
good_line n first last text HeaderLine t k y b m range next e = b.4
good_line n first last text Columns t k y b m range next e =
    let same = same_line b.0 (epoch_line (reading_of t) k) b.1 y b.2 (epoch_line-line t k m (count-few n k range)) (sym b.3 ∙ e) in
    b.4 t k (m, range, same.0)
good_line n first last text Value t k y b m range next e = b.4
good_line n first last text Order t k y b m range next e =
    let same = same_line b.0 (epoch_line (reading_of t) k) b.1 y b.2 (epoch_line-line t k m (count-few n k range)) (sym b.3 ∙ e) in
    let is = b.4.2 in
    let one = one_epoch_line t b.4.0 k b.4.1 m is.0 (count-few n k range) (count-few n b.4.1 is.1) (sym same.0 ∙ is.2) in
    b.4.3 (rw one.0 at next)
good_line n first last text Truncated t k y b m range next e =
    no_line text (epoch_line (reading_of t) k) y b (epoch_line-line t k m (count-few n k range)) e
good_line n first last text OutOfMemory t k y b m range next e = b.4

line_or_rows : (n : FormView) (first : ℕ) (last : Option ℕ) (before : ℕ) (text : List ℕ) (f g : CheckFault) → IsFaultOfMixedEpochLine n first last before text f
    → IsFaultAfterMixedEpochLine n first last before text g → ⊥
line_or_rows n first last before text f g a b =
    good_line n first last text f.cause b.time b.count b.rest a.cause b.moment b.range b.next b.text

one_after_line : (n : FormView) (first : ℕ) (last : Option ℕ) (before : ℕ) (text : List ℕ) (f g : CheckFault) → IsFaultAfterMixedEpochLine n first last before text f
    → IsFaultAfterMixedEpochLine n first last before text g → IsSame f g
one_after_line n first last before text f g a b =
    let line = same_line (epoch_line (reading_of a.time) a.count) (epoch_line (reading_of b.time) b.count) a.rest b.rest
    (epoch_line-line a.time a.count a.moment (count-few n a.count a.range)) (epoch_line-line b.time b.count b.moment (count-few n b.count b.range)) (sym a.text ∙ b.text) in
    let one = one_epoch_line a.time b.time a.count b.count a.moment b.moment (count-few n a.count a.range) (count-few n b.count b.range) line.0 in
    let rows : IsFaultOfMixedRows n a.count (before + 1) a.rest g = rw (← one.1, ← line.1) at b.rows in
    one_of_rows n a.count (before + 1) a.rest f g a.rows rows

one_of_record : (n : FormView) (first : ℕ) (last : Option ℕ) (before : ℕ) (text : List ℕ) (f g : CheckFault) → IsFaultOfMixedRecord n first last before text f
    → IsFaultOfMixedRecord n first last before text g → IsSame f g
one_of_record n first last before text f g a b =
    ⊎_elim
    (λ line. ⊎_elim
    (λ other. (line.line ∙ sym other.line, one_beginning (IsMixedEpochFault n first last) text f.cause g.cause (one_epoch_cause n first last) line.cause other.cause))
    (λ rows. absurd (line_or_rows n first last before text f g line rows))
    b)
    (λ rows. ⊎_elim
    (λ line. absurd (line_or_rows n first last before text g f line rows))
    (λ other. one_after_line n first last before text f g rows other)
    b)
    a

-- ---- the records

same_records : (n : FormView) (epochs others : List EpochTableView) (x y : List ℕ) → All (IsMixedEpoch n) epochs → All (IsMixedEpoch n) others
    → length epochs ≤ length others → flat_map (mixed_record_text n.doppler) epochs ++ x ≡ flat_map (mixed_record_text n.doppler) others ++ y → Goes (mixed_record_text n.doppler) epochs others x y
same_records n [] others x y h g long e = record { more = others; list = refl; text = e }
same_records n (a ∷ epochs) [] x y h g long e = absurd (omega arith)
same_records n (a ∷ epochs) (b ∷ others) x y h g long e =
    let left = append_assoc (mixed_record_text n.doppler a) (flat_map (mixed_record_text n.doppler) epochs) x in
    let right = append_assoc (mixed_record_text n.doppler b) (flat_map (mixed_record_text n.doppler) others) y in
    let one = one_record n a b (flat_map (mixed_record_text n.doppler) epochs ++ x) (flat_map (mixed_record_text n.doppler) others ++ y)
    (All-head (IsMixedEpoch n) a epochs h) (All-head (IsMixedEpoch n) b others g) (sym left ∙ e ∙ right) in
    let rest = same_records n epochs others x y (All-tail (IsMixedEpoch n) a epochs h) (All-tail (IsMixedEpoch n) b others g) (omega arith) one.1 in
    record { more = rest.more; list = same_cons a b (epochs ++ rest.more) others one.0 rest.list; text = rest.text }

records_with_more : (n : FormView) (first before : ℕ) (bytes : List ℕ) (f g : CheckFault) → (a : IsFaultOfMixedRecords n first before bytes f) (b : IsFaultOfMixedRecords n first before bytes g)
    → (more : List EpochTableView) → b.epochs ≡ a.epochs ++ more → a.rest ≡ flat_map (mixed_record_text n.doppler) more ++ b.rest → IsSame f g
records_with_more n first before bytes f g a b [] e text =
    let epochs : b.epochs ≡ a.epochs = e ∙ append-nil a.epochs in
    let next : IsFaultOfMixedRecord n first (last_time None a.epochs) (before + record_lines a.epochs) a.rest g = rw (epochs, ← text) at b.next in
    one_of_record n first (last_time None a.epochs) (before + record_lines a.epochs) a.rest f g a.next next
records_with_more n first before bytes f g a b (q ∷ more) e text =
    let good : All (IsMixedEpoch n) (a.epochs ++ q ∷ more) = rw e at (epochs-all n first None b.epochs b.are_epochs) in
    let rise : AllPairs Earlier (a.epochs ++ q ∷ more) = rw e at (epochs-rise n first None b.epochs b.are_epochs) in
    let start : StartsAt first (a.epochs ++ q ∷ more) = rw e at (epochs-start n first b.epochs b.are_epochs) in
    absurd (record-fault n first (last_time None a.epochs) _ a.rest f q (flat_map (mixed_record_text n.doppler) more ++ b.rest) a.next
    (All-head (IsMixedEpoch n) q more (all_more n a.epochs (q ∷ more) good)) (epoch-next first a.epochs q more start rise)
    (text ∙ append_assoc (mixed_record_text n.doppler q) (flat_map (mixed_record_text n.doppler) more) b.rest))

records_ordered : (n : FormView) (first before : ℕ) (bytes : List ℕ) (f g : CheckFault) → (a : IsFaultOfMixedRecords n first before bytes f) (b : IsFaultOfMixedRecords n first before bytes g)
    → length a.epochs ≤ length b.epochs → IsSame f g
records_ordered n first before bytes f g a b long =
    let goes = same_records n a.epochs b.epochs a.rest b.rest (epochs-all n first None a.epochs a.are_epochs) (epochs-all n first None b.epochs b.are_epochs) long (sym a.text ∙ b.text) in
    records_with_more n first before bytes f g a b goes.more goes.list goes.text

-- records have one fault
pub one_of_records : (n : FormView) (first before : ℕ) (bytes : List ℕ) (f g : CheckFault) → IsFaultOfMixedRecords n first before bytes f → IsFaultOfMixedRecords n first before bytes g
    → IsSame f g
one_of_records n first before bytes f g a b =
    elim (leb_tells (length a.epochs) (length b.epochs)) [
      | inl less ↦ records_ordered n first before bytes f g a b less.1
      | inr more ↦ turned f g (records_ordered n first before bytes g f b a (omega (arith, more.1)))
    ]

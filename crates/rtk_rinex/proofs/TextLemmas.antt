-- The answers of the check of a whole text.
use Rattle.std.proofs.Common.{◌≡◌, ℕ, ◌<◌, ◌≤◌, Option, None, List, [], ◌∷◌, ◌++◌, length, drop, get_or, refl, sym, ◌∙◌, ap, arith, append_assoc, length-append, flat_map, ⊎_elim}
use Rattle.std.specs.Prelude.{All, AllPairs, Result, Ok, Err, OnErr}
use Rattle.std.proofs.lemmas.List.{append-nil, append_cancel_left}
use Rattle.std.proofs.lemmas.List.Elements.{All-head, All-tail}
use Rattle.rtk_rinex.specs.declared.check_fault.CheckFault.{CheckFault}
use Rattle.rtk_rinex.specs.declared.epoch_table.SatelliteRow.{SatelliteRow}
use Rattle.rtk_rinex.specs.Columns.{left}
use Rattle.rtk_obs.specs.Reading.{IsMoment, reading_of}
use Rattle.rtk_rinex.specs.Header.{HeadView, PositionView, IsHeadView, IsPositionView, header_line, header_text}
use Rattle.rtk_rinex.specs.Record.{EpochTableView, epoch_line, satellite_line, record_text}
use Rattle.rtk_rinex.specs.Table.{WellFormedTable, IsWellFormedTable, IsTableEpoch, IsTableRow, StartsAt, table_text}
use Rattle.rtk_rinex.specs.HeaderFault.{AreLines}
use Rattle.rtk_rinex.specs.Steps.HeaderRead.{HasHeader, IsOnlyHeader}
use Rattle.rtk_rinex.specs.CheckText.{BeginsWithFault, last_satellite, last_time, IsFaultAfterEpochLine, IsFaultOfRecord, IsFaultOfRecords}
use Rattle.rtk_rinex.specs.Steps.ReadRecords.{ReadsRecords}
use Rattle.rtk_rinex.specs.CheckTable.{HoldsTable, IsWithoutTable}
use Rattle.rtk_rinex.specs.CheckLine.{IsNextTime, IsSatelliteFault}
use Rattle.rtk_rinex.proofs.EpochLemmas.{length-line}
use Rattle.rtk_rinex.proofs.CheckLemmas.{rows-all}
use Rattle.rtk_rinex.proofs.LineLemmas.{epoch_line-line, same_line}
use Rattle.rtk_rinex.proofs.OneLemmas.{Below, Earlier, one_epoch_line, count-of, same_rows, epoch-front, epoch_line-of, some_text, same_epochs, row-next, epoch-next, epochs-all, epochs-rise, epochs-start}
use Rattle.rtk_rinex.proofs.FormLemmas.{no_satellite_fault, no_epoch_fault}

pub on_err : {T E : Type 0} (r : Result T E) {Q : Type 0} → Q → OnErr r Q
on_err (Ok x) q = tt
on_err (Err e) q = q

-- ---- faults of the header

pub header-of : (t : WellFormedTable) (bytes : List ℕ) → IsWellFormedTable t → bytes ≡ table_text t → HasHeader bytes
header-of t bytes is e =
    (header_text t.head t.site t.first, flat_map record_text t.epochs, (t.head, t.site, t.first, is.head, is.site, is.first, refl), e)

pub header-none : (bytes : List ℕ) → ¬ (HasHeader bytes) → IsWithoutTable bytes
header-none bytes h = λ t is e. h (header-of t bytes is e)

-- a header has more bytes than lines
pub line_bytes : (lines : List (List ℕ)) → length lines ≤ length (flat_map (λ (line : List ℕ). line ++ 10 ∷ []) lines)
line_bytes [] = omega arith
line_bytes (l ∷ lines) =
    omega (arith, line_bytes lines, length-append (l ++ 10 ∷ []) (flat_map (λ (line : List ℕ). line ++ 10 ∷ []) lines), length-append l (10 ∷ []))

pub more_bytes : (text : List ℕ) (lines : List (List ℕ)) → get_or text 0 0 ≡ 32 → text ≡ flat_map (λ (line : List ℕ). line ++ 10 ∷ []) lines → length lines < length text
more_bytes text [] h e = absurd (let none : get_or text 0 0 ≡ 0 = ap (λ (xs : List ℕ). get_or xs 0 0) e in omega (arith, none, h))
more_bytes text ([] ∷ lines) h e = absurd (let lf : get_or text 0 0 ≡ 10 = ap (λ (xs : List ℕ). get_or xs 0 0) e in omega (arith, lf, h))
more_bytes text ((x ∷ l) ∷ lines) h e =
    omega (arith, line_bytes lines, ap length e, length-append ((x ∷ l) ++ 10 ∷ []) (flat_map (λ (line : List ℕ). line ++ 10 ∷ []) lines), length-append (x ∷ l) (10 ∷ []))

first_blank : (h : HeadView) (s : PositionView) (first : ℕ) → get_or (header_text h s first) 0 0 ≡ 32
unfolding header_text header_line left
first_blank h s first = refl

pub few_lines : (n : ℕ) (h : HeadView) (s : PositionView) (first : ℕ) → AreLines n (header_text h s first) → n < length (header_text h s first)
few_lines n h s first l = let more = more_bytes (header_text h s first) l.0 (first_blank h s first) l.3 in omega (arith, more, l.2)

pub after_header : (bytes rest : List ℕ) (used : ℕ) (h : HeadView) (s : PositionView) (first : ℕ) → bytes ≡ header_text h s first ++ drop used bytes → rest ≡ drop used bytes
    → bytes ≡ header_text h s first ++ rest
after_header bytes rest used h s first e f = e ∙ ap (λ (t : List ℕ). header_text h s first ++ t) (sym f)

-- ---- the table

abbrev pub table_from : HeadView → PositionView → ℕ → List EpochTableView → WellFormedTable
table_from h s first epochs = record { head = h; site = s; first = first; epochs = epochs }

pub same_table : (h k : HeadView) (s t : PositionView) (f g : ℕ) (a b : List EpochTableView) → h ≡ k → s ≡ t → f ≡ g → a ≡ b → table_from h s f a ≡ table_from k t g b
same_table h k s t f g a b e₁ e₂ e₃ e₄ = cc

-- the header of a table's text, and its epochs' text
pub epochs-after-header : (bytes rest : List ℕ) (h : HeadView) (s : PositionView) (first : ℕ) (u : WellFormedTable) → bytes ≡ header_text h s first ++ rest
    → bytes ≡ table_text u → u.head ≡ h → u.site ≡ s → u.first ≡ first → rest ≡ flat_map record_text u.epochs
epochs-after-header bytes rest h s first u e f a b c =
    let same : header_text u.head u.site u.first ≡ header_text h s first = rw (a, b, c) refl in
    append_cancel_left (header_text h s first) rest (flat_map record_text u.epochs)
    (sym e ∙ f ∙ ap (λ (t : List ℕ). t ++ flat_map record_text u.epochs) same)

no_rest : (n : ℕ) (more : List EpochTableView) → All (IsTableEpoch n) more → [] ≡ flat_map record_text more ++ [] → more ≡ []
no_rest n [] h e = refl
no_rest n (a ∷ more) h e =
    absurd (some_text n a (flat_map record_text more ++ []) (h 0 a (omega arith)) (sym (append_assoc (record_text a) (flat_map record_text more) []) ∙ sym e))

pub all_more : (n : ℕ) (xs more : List EpochTableView) → All (IsTableEpoch n) (xs ++ more) → All (IsTableEpoch n) more
all_more n [] more h = h
all_more n (x ∷ xs) more h = all_more n xs more (All-tail (IsTableEpoch n) x (xs ++ more) h)

pub same_list : (n : ℕ) (epochs others : List EpochTableView) → n ≤ 16 → All (IsTableEpoch n) epochs → All (IsTableEpoch n) others
    → flat_map record_text epochs ≡ flat_map record_text others → others ≡ epochs
same_list n epochs others le h g e =
    let goes = same_epochs n epochs others [] le h g (append-nil (flat_map record_text epochs) ∙ e) in
    let none : goes.more ≡ [] = no_rest n goes.more (all_more n epochs goes.more (rw goes.list at g)) goes.text in
    goes.list ∙ ap (λ (t : List EpochTableView). epochs ++ t) none ∙ append-nil epochs

pub holds : (bytes rest : List ℕ) (h : HeadView) (s : PositionView) (first records lines : ℕ) → IsHeadView h → IsPositionView s → IsMoment first
    → bytes ≡ header_text h s first ++ rest → IsOnlyHeader bytes h s first → ReadsRecords (length h.listed) first records lines rest
    → HoldsTable bytes records lines
holds bytes rest h s first records lines heading site moment e only r =
    let n = length h.listed in
    let le : n ≤ 16 = heading.1.0.1 in
    let all = epochs-all n first None r.epochs r.are_epochs in
    record {
      table = table_from h s first r.epochs;
      is_table = record {
        head = heading;
        site = site;
        first = moment;
        starts = epochs-start n first r.epochs r.are_epochs;
        epochs = all;
        rise = epochs-rise n first None r.epochs r.are_epochs;
      };
      text = e ∙ ap (λ (t : List ℕ). header_text h s first ++ t) r.text;
      only = λ u is f.
          let o = only u.head u.site u.first (flat_map record_text u.epochs) is.head is.site is.first f in
          let rest_is = epochs-after-header bytes rest h s first u e f o.0 o.1 o.2 in
          let good : All (IsTableEpoch n) u.epochs = rw o.0 at is.epochs in
          same_table u.head h u.site s u.first first u.epochs r.epochs o.0 o.1 o.2 (same_list n r.epochs u.epochs le all good (sym r.text ∙ rest_is));
      epochs = r.count;
      satellites = r.satellites;
    }

-- ---- a fault in the records

pub rows_more : (n : ℕ) (xs more : List SatelliteRow) → All (IsTableRow n) (xs ++ more) → All (IsTableRow n) more
rows_more n [] more h = h
rows_more n (x ∷ xs) more h = rows_more n xs more (All-tail (IsTableRow n) x (xs ++ more) h)

rows-fault : (n before : ℕ) (text : List ℕ) (f : CheckFault) (rows others more : List SatelliteRow) (rest y : List ℕ)
    → BeginsWithFault (IsSatelliteFault n (last_satellite None rows)) rest f.cause → All (IsTableRow n) others → AllPairs Below others
    → others ≡ rows ++ more → rest ≡ flat_map satellite_line more ++ y → length rows < length others → ⊥
rows-fault n before text f rows others [] rest y b h p e t less = omega (arith, less, ap length e, length-append {A = SatelliteRow} rows [])
rows-fault n before text f rows others (r ∷ more) rest y b h p e t less =
    let good : All (IsTableRow n) (rows ++ r ∷ more) = rw e at h in
    let rise : AllPairs Below (rows ++ r ∷ more) = rw e at p in
    let is = All-head (IsTableRow n) r more (rows_more n rows (r ∷ more) good) in
    no_satellite_fault n (last_satellite None rows) rest f.cause r (flat_map satellite_line more ++ y) b is (row-next rows r more rise)
    (t ∙ append_assoc (satellite_line r) (flat_map satellite_line more) y)

fault-after-line : (n first : ℕ) (last : Option ℕ) (before : ℕ) (text : List ℕ) (f : CheckFault) (a : EpochTableView) (y : List ℕ) → n ≤ 16
    → IsFaultAfterEpochLine n first last before text f → IsTableEpoch n a → text ≡ record_text a ++ y → ⊥
fault-after-line n first last before text f a y le b h e =
    let c = count-of n a h in
    let line = same_line (epoch_line (reading_of b.time) b.count) (epoch_line (reading_of a.time) (length a.rows)) b.rest (flat_map satellite_line a.rows ++ y)
    (epoch_line-line b.time b.count b.moment (omega (arith, b.range))) (epoch_line-of n a h) (sym b.text ∙ e ∙ epoch-front n a y h) in
    let one = one_epoch_line b.time a.time b.count (length a.rows) b.moment h.time (omega (arith, b.range)) (omega (arith, c)) line.0 in
    let w = b.rows in
    let less : length w.rows < length a.rows = omega (arith, w.due, one.1) in
    let goes = same_rows n w.rows a.rows w.rest y le (rows-all n None w.rows w.are_rows) h.rows (omega (arith, less)) (sym w.text ∙ line.1) in
    rows-fault n before text f w.rows a.rows goes.more w.rest y w.cause h.rows h.rise goes.list goes.text less

pub record-fault : (n first : ℕ) (last : Option ℕ) (before : ℕ) (text : List ℕ) (f : CheckFault) (a : EpochTableView) (y : List ℕ) → n ≤ 16
    → IsFaultOfRecord n first last before text f → IsTableEpoch n a → IsNextTime first last a.time → text ≡ record_text a ++ y → ⊥
record-fault n first last before text f a y le b h next e =
    ⊎_elim
    (λ line. no_epoch_fault n first last text f.cause a (flat_map satellite_line a.rows ++ y) line.cause h next (e ∙ epoch-front n a y h))
    (λ after. fault-after-line n first last before text f a y le after h e) b

end-fault : (n first : ℕ) (last : Option ℕ) (before : ℕ) (text : List ℕ) (f : CheckFault) → IsFaultOfRecord n first last before text f → text ≡ [] → ⊥
end-fault n first last before text f b e =
    ⊎_elim (λ line. line.some e)
    (λ after.
    let long = length-line (epoch_line (reading_of after.time) after.count) after.time after.count after.moment (omega (arith, after.range)) refl in
    let zero = ap length (sym after.text ∙ e) in
    omega (arith, long, length-append (epoch_line (reading_of after.time) after.count) after.rest, zero))
    b

next-fault : (n first before : ℕ) (f : CheckFault) (epochs others more : List EpochTableView) (rest : List ℕ) → n ≤ 16
    → IsFaultOfRecord n first (last_time None epochs) before rest f → All (IsTableEpoch n) others → AllPairs Earlier others → StartsAt first others
    → others ≡ epochs ++ more → rest ≡ flat_map record_text more ++ [] → ⊥
next-fault n first before f epochs others [] rest le b h p s e t = end-fault n first (last_time None epochs) before rest f b t
next-fault n first before f epochs others (a ∷ more) rest le b h p s e t =
    let good : All (IsTableEpoch n) (epochs ++ a ∷ more) = rw e at h in
    let rise : AllPairs Earlier (epochs ++ a ∷ more) = rw e at p in
    let start : StartsAt first (epochs ++ a ∷ more) = rw e at s in
    record-fault n first (last_time None epochs) before rest f a (flat_map record_text more ++ []) le b
    (All-head (IsTableEpoch n) a more (all_more n epochs (a ∷ more) good)) (epoch-next first epochs a more start rise)
    (t ∙ append_assoc (record_text a) (flat_map record_text more) [])

pub no_records : (n first before : ℕ) (text : List ℕ) (f : CheckFault) (others : List EpochTableView) → n ≤ 16 → IsFaultOfRecords n first before text f
    → All (IsTableEpoch n) others → AllPairs Earlier others → StartsAt first others → text ≡ flat_map record_text others → ⊥
no_records n first before text f others le r h p s e =
    let goes = same_epochs n r.epochs others r.rest le (epochs-all n first None r.epochs r.are_epochs) h (sym r.text ∙ e) in
    next-fault n first _ f r.epochs others goes.more r.rest le r.next h p s goes.list goes.text

pub records-none : (bytes rest : List ℕ) (h : HeadView) (s : PositionView) (first lines : ℕ) (f : CheckFault) → IsHeadView h → bytes ≡ header_text h s first ++ rest
    → IsOnlyHeader bytes h s first → IsFaultOfRecords (length h.listed) first lines rest f → IsWithoutTable bytes
records-none bytes rest h s first lines f heading e only r =
    λ u is same.
    let o = only u.head u.site u.first (flat_map record_text u.epochs) is.head is.site is.first same in
    let rest_is = epochs-after-header bytes rest h s first u e same o.0 o.1 o.2 in
    let good : All (IsTableEpoch (length h.listed)) u.epochs = rw o.0 at is.epochs in
    let start : StartsAt first u.epochs = rw o.2 at is.starts in
    no_records (length h.listed) first lines rest f u.epochs heading.1.0.1 r good is.rise start rest_is

-- The answers of the check of a whole text of any systems.
use Rattle.std.proofs.Common.{◌≡◌, ℕ, ◌<◌, Option, None, List, [], ◌∷◌, ◌++◌, length, drop, get_or, refl, sym, ◌∙◌, ap, arith, append_assoc, length-append, flat_map, ⊎_elim}
use Rattle.std.specs.Prelude.{All, AllPairs}
use Rattle.std.proofs.lemmas.List.{append-nil, append_cancel_left}
use Rattle.std.proofs.lemmas.List.Elements.{All-head, All-tail}
use Rattle.rtk_rinex.specs.declared.check_fault.CheckFault.{CheckFault}
use Rattle.rtk_rinex.specs.declared.epoch_table.SatelliteRow.{SatelliteRow}
use Rattle.rtk_rinex.specs.Columns.{left}
use Rattle.rtk_obs.specs.Reading.{IsMoment, reading_of}
use Rattle.rtk_rinex.specs.Header.{PositionView, IsPositionView, header_line}
use Rattle.rtk_rinex.specs.Record.{EpochTableView, epoch_line}
use Rattle.rtk_rinex.specs.Table.{StartsAt}
use Rattle.rtk_rinex.specs.HeaderFault.{AreLines}
use Rattle.rtk_rinex.specs.MixedHead.{MixedHeadView, IsMixedHead}
use Rattle.rtk_rinex.specs.MixedHeader.{mixed_header_text}
use Rattle.rtk_rinex.specs.MixedHeaderFault.{BeginsWithMixedHeader, IsOnlyMixedHeader}
use Rattle.rtk_rinex.specs.MixedRecord.{mixed_satellite_line, mixed_record_text}
use Rattle.rtk_rinex.specs.MixedForm.{FormView, form_of_head}
use Rattle.rtk_rinex.specs.MixedTable.{MixedTable, IsMixedTable, IsMixedEpoch, IsMixedRow, mixed_table_text}
use Rattle.rtk_rinex.specs.CheckText.{BeginsWithFault, last_satellite, last_time}
use Rattle.rtk_rinex.specs.MixedCheckText.{IsFaultAfterMixedEpochLine, IsFaultOfMixedRecord, IsFaultOfMixedRecords}
use Rattle.rtk_rinex.specs.Steps.MixedReadRecords.{ReadsMixedRecords}
use Rattle.rtk_rinex.specs.MixedCheckTable.{HoldsMixedTable, IsWithoutMixedTable}
use Rattle.rtk_rinex.specs.CheckLine.{IsNextTime}
use Rattle.rtk_rinex.specs.MixedCheckLine.{IsMixedSatelliteFault}
use Rattle.rtk_rinex.proofs.EpochLemmas.{length-line}
use Rattle.rtk_rinex.proofs.LineLemmas.{epoch_line-line, same_line}
use Rattle.rtk_rinex.proofs.MixedCheckLemmas.{rows-all}
use Rattle.rtk_rinex.proofs.MixedCountLemmas.{count-few}
use Rattle.rtk_rinex.proofs.MixedFormLemmas.{no_satellite_fault, no_epoch_fault}
use Rattle.rtk_rinex.proofs.MixedOneLemmas.{count-of, same_rows, epoch-front, epoch_line-of, some_text, same_epochs, epochs-all, epochs-rise, epochs-start}
use Rattle.rtk_rinex.proofs.OneLemmas.{Below, Earlier, one_epoch_line, row-next, epoch-next}
use Rattle.rtk_rinex.proofs.TextLemmas.{more_bytes}

-- ---- faults of the header

pub header-of : (t : MixedTable) (bytes : List ℕ) → IsMixedTable t → bytes ≡ mixed_table_text t → BeginsWithMixedHeader bytes
header-of t bytes is e =
    (mixed_header_text t.head t.site t.first, flat_map (mixed_record_text t.head.doppler) t.epochs, (t.head, t.site, t.first, is.head, is.site, is.first, refl), e)

pub header-none : (bytes : List ℕ) → ¬ (BeginsWithMixedHeader bytes) → IsWithoutMixedTable bytes
header-none bytes h = λ t is e. h (header-of t bytes is e)

first_blank : (h : MixedHeadView) (s : PositionView) (first : ℕ) → get_or (mixed_header_text h s first) 0 0 ≡ 32
unfolding mixed_header_text header_line left
first_blank h s first = refl

pub few_lines : (n : ℕ) (h : MixedHeadView) (s : PositionView) (first : ℕ) → AreLines n (mixed_header_text h s first) → n < length (mixed_header_text h s first)
few_lines n h s first l = let more = more_bytes (mixed_header_text h s first) l.0 (first_blank h s first) l.3 in omega (arith, more, l.2)

pub after_header : (bytes rest : List ℕ) (used : ℕ) (h : MixedHeadView) (s : PositionView) (first : ℕ) → bytes ≡ mixed_header_text h s first ++ drop used bytes → rest ≡ drop used bytes
    → bytes ≡ mixed_header_text h s first ++ rest
after_header bytes rest used h s first e f = e ∙ ap (λ (t : List ℕ). mixed_header_text h s first ++ t) (sym f)

-- ---- the table

abbrev pub table_from : MixedHeadView → PositionView → ℕ → List EpochTableView → MixedTable
table_from h s first epochs = record { head = h; site = s; first = first; epochs = epochs }

pub same_table : (h k : MixedHeadView) (s t : PositionView) (f g : ℕ) (a b : List EpochTableView) → h ≡ k → s ≡ t → f ≡ g → a ≡ b → table_from h s f a ≡ table_from k t g b
same_table h k s t f g a b e₁ e₂ e₃ e₄ = cc

-- the header of a table's text, and its epochs' text
pub epochs-after-header : (bytes rest : List ℕ) (h : MixedHeadView) (s : PositionView) (first : ℕ) (u : MixedTable) → bytes ≡ mixed_header_text h s first ++ rest
    → bytes ≡ mixed_table_text u → u.head ≡ h → u.site ≡ s → u.first ≡ first → rest ≡ flat_map (mixed_record_text h.doppler) u.epochs
epochs-after-header bytes rest h s first u e f a b c =
    let same : mixed_header_text u.head u.site u.first ≡ mixed_header_text h s first = rw (a, b, c) refl in
    append_cancel_left (mixed_header_text h s first) rest (flat_map (mixed_record_text u.head.doppler) u.epochs)
    (sym e ∙ f ∙ ap (λ (t : List ℕ). t ++ flat_map (mixed_record_text u.head.doppler) u.epochs) same)
    ∙ ap (λ (k : MixedHeadView). flat_map (mixed_record_text k.doppler) u.epochs) a

no_rest : (n : FormView) (more : List EpochTableView) → All (IsMixedEpoch n) more → [] ≡ flat_map (mixed_record_text n.doppler) more ++ [] → more ≡ []
no_rest n [] h e = refl
no_rest n (a ∷ more) h e =
    absurd (some_text n a (flat_map (mixed_record_text n.doppler) more ++ []) (h 0 a (omega arith)) (sym (append_assoc (mixed_record_text n.doppler a) (flat_map (mixed_record_text n.doppler) more) []) ∙ sym e))

pub all_more : (n : FormView) (xs more : List EpochTableView) → All (IsMixedEpoch n) (xs ++ more) → All (IsMixedEpoch n) more
all_more n [] more h = h
all_more n (x ∷ xs) more h = all_more n xs more (All-tail (IsMixedEpoch n) x (xs ++ more) h)

pub same_list : (n : FormView) (epochs others : List EpochTableView) → All (IsMixedEpoch n) epochs → All (IsMixedEpoch n) others
    → flat_map (mixed_record_text n.doppler) epochs ≡ flat_map (mixed_record_text n.doppler) others → others ≡ epochs
same_list n epochs others h g e =
    let goes = same_epochs n epochs others [] h g (append-nil (flat_map (mixed_record_text n.doppler) epochs) ∙ e) in
    let none : goes.more ≡ [] = no_rest n goes.more (all_more n epochs goes.more (rw goes.list at g)) goes.text in
    goes.list ∙ ap (λ (t : List EpochTableView). epochs ++ t) none ∙ append-nil epochs

pub holds : (bytes rest : List ℕ) (h : MixedHeadView) (s : PositionView) (first records lines : ℕ) → IsMixedHead h → IsPositionView s → IsMoment first
    → bytes ≡ mixed_header_text h s first ++ rest → IsOnlyMixedHeader bytes h s first → ReadsMixedRecords (form_of_head h) first records lines rest
    → HoldsMixedTable bytes records lines
holds bytes rest h s first records lines heading site moment e only r =
    let n = form_of_head h in
    let all = epochs-all n first None r.epochs r.are_epochs in
    record {
      table = table_from h s first r.epochs;
      is_table = record {
        head = heading;
        site = site;
        first = moment;
        starts = epochs-start n first r.epochs r.are_epochs;
        epochs = all;
        rise = epochs-rise n first None r.epochs r.are_epochs;
      };
      text = e ∙ ap (λ (t : List ℕ). mixed_header_text h s first ++ t) r.text;
      only = λ u is f.
          let o = only u.head u.site u.first (flat_map (mixed_record_text u.head.doppler) u.epochs) is.head is.site is.first f in
          let rest_is = epochs-after-header bytes rest h s first u e f o.0 o.1 o.2 in
          let good : All (IsMixedEpoch n) u.epochs = rw o.0 at is.epochs in
          same_table u.head h u.site s u.first first u.epochs r.epochs o.0 o.1 o.2 (same_list n r.epochs u.epochs all good (sym r.text ∙ rest_is));
      epochs = r.count;
      satellites = r.satellites;
    }

-- ---- a fault in the records

pub rows_more : (n : FormView) (xs more : List SatelliteRow) → All (IsMixedRow n) (xs ++ more) → All (IsMixedRow n) more
rows_more n [] more h = h
rows_more n (x ∷ xs) more h = rows_more n xs more (All-tail (IsMixedRow n) x (xs ++ more) h)

rows-fault : (n : FormView) (before : ℕ) (text : List ℕ) (f : CheckFault) (rows others more : List SatelliteRow) (rest y : List ℕ)
    → BeginsWithFault (IsMixedSatelliteFault n (last_satellite None rows)) rest f.cause → All (IsMixedRow n) others → AllPairs Below others
    → others ≡ rows ++ more → rest ≡ flat_map (mixed_satellite_line n.doppler) more ++ y → length rows < length others → ⊥
rows-fault n before text f rows others [] rest y b h p e t less = omega (arith, less, ap length e, length-append {A = SatelliteRow} rows [])
rows-fault n before text f rows others (r ∷ more) rest y b h p e t less =
    let good : All (IsMixedRow n) (rows ++ r ∷ more) = rw e at h in
    let rise : AllPairs Below (rows ++ r ∷ more) = rw e at p in
    let is = All-head (IsMixedRow n) r more (rows_more n rows (r ∷ more) good) in
    no_satellite_fault n (last_satellite None rows) rest f.cause r (flat_map (mixed_satellite_line n.doppler) more ++ y) b is (row-next rows r more rise)
    (t ∙ append_assoc (mixed_satellite_line n.doppler r) (flat_map (mixed_satellite_line n.doppler) more) y)

fault-after-line : (n : FormView) (first : ℕ) (last : Option ℕ) (before : ℕ) (text : List ℕ) (f : CheckFault) (a : EpochTableView) (y : List ℕ)
    → IsFaultAfterMixedEpochLine n first last before text f → IsMixedEpoch n a → text ≡ mixed_record_text n.doppler a ++ y → ⊥
fault-after-line n first last before text f a y b h e =
    let c = count-of n a h in
    let line = same_line (epoch_line (reading_of b.time) b.count) (epoch_line (reading_of a.time) (length a.rows)) b.rest (flat_map (mixed_satellite_line n.doppler) a.rows ++ y)
    (epoch_line-line b.time b.count b.moment (count-few n b.count b.range)) (epoch_line-of n a h) (sym b.text ∙ e ∙ epoch-front n a y h) in
    let one = one_epoch_line b.time a.time b.count (length a.rows) b.moment h.time (count-few n b.count b.range) (count-few n (length a.rows) c) line.0 in
    let w = b.rows in
    let less : length w.rows < length a.rows = omega (arith, w.due, one.1) in
    let goes = same_rows n w.rows a.rows w.rest y (rows-all n None w.rows w.are_rows) h.rows (omega (arith, less)) (sym w.text ∙ line.1) in
    rows-fault n before text f w.rows a.rows goes.more w.rest y w.cause h.rows h.rise goes.list goes.text less

pub record-fault : (n : FormView) (first : ℕ) (last : Option ℕ) (before : ℕ) (text : List ℕ) (f : CheckFault) (a : EpochTableView) (y : List ℕ)
    → IsFaultOfMixedRecord n first last before text f → IsMixedEpoch n a → IsNextTime first last a.time → text ≡ mixed_record_text n.doppler a ++ y → ⊥
record-fault n first last before text f a y b h next e =
    ⊎_elim
    (λ line. no_epoch_fault n first last text f.cause a (flat_map (mixed_satellite_line n.doppler) a.rows ++ y) line.cause h next (e ∙ epoch-front n a y h))
    (λ after. fault-after-line n first last before text f a y after h e) b

end-fault : (n : FormView) (first : ℕ) (last : Option ℕ) (before : ℕ) (text : List ℕ) (f : CheckFault) → IsFaultOfMixedRecord n first last before text f → text ≡ [] → ⊥
end-fault n first last before text f b e =
    ⊎_elim (λ line. line.some e)
    (λ after.
    let long = length-line (epoch_line (reading_of after.time) after.count) after.time after.count after.moment (count-few n after.count after.range) refl in
    let zero = ap length (sym after.text ∙ e) in
    omega (arith, long, length-append (epoch_line (reading_of after.time) after.count) after.rest, zero))
    b

next-fault : (n : FormView) (first before : ℕ) (f : CheckFault) (epochs others more : List EpochTableView) (rest : List ℕ)
    → IsFaultOfMixedRecord n first (last_time None epochs) before rest f → All (IsMixedEpoch n) others → AllPairs Earlier others → StartsAt first others
    → others ≡ epochs ++ more → rest ≡ flat_map (mixed_record_text n.doppler) more ++ [] → ⊥
next-fault n first before f epochs others [] rest b h p s e t = end-fault n first (last_time None epochs) before rest f b t
next-fault n first before f epochs others (a ∷ more) rest b h p s e t =
    let good : All (IsMixedEpoch n) (epochs ++ a ∷ more) = rw e at h in
    let rise : AllPairs Earlier (epochs ++ a ∷ more) = rw e at p in
    let start : StartsAt first (epochs ++ a ∷ more) = rw e at s in
    record-fault n first (last_time None epochs) before rest f a (flat_map (mixed_record_text n.doppler) more ++ []) b
    (All-head (IsMixedEpoch n) a more (all_more n epochs (a ∷ more) good)) (epoch-next first epochs a more start rise)
    (t ∙ append_assoc (mixed_record_text n.doppler a) (flat_map (mixed_record_text n.doppler) more) [])

pub no_records : (n : FormView) (first before : ℕ) (text : List ℕ) (f : CheckFault) (others : List EpochTableView) → IsFaultOfMixedRecords n first before text f
    → All (IsMixedEpoch n) others → AllPairs Earlier others → StartsAt first others → text ≡ flat_map (mixed_record_text n.doppler) others → ⊥
no_records n first before text f others r h p s e =
    let goes = same_epochs n r.epochs others r.rest (epochs-all n first None r.epochs r.are_epochs) h (sym r.text ∙ e) in
    next-fault n first _ f r.epochs others goes.more r.rest r.next h p s goes.list goes.text

pub records-none : (bytes rest : List ℕ) (h : MixedHeadView) (s : PositionView) (first lines : ℕ) (f : CheckFault) → IsMixedHead h → bytes ≡ mixed_header_text h s first ++ rest
    → IsOnlyMixedHeader bytes h s first → IsFaultOfMixedRecords (form_of_head h) first lines rest f → IsWithoutMixedTable bytes
records-none bytes rest h s first lines f heading e only r =
    λ u is same.
    let o = only u.head u.site u.first (flat_map (mixed_record_text u.head.doppler) u.epochs) is.head is.site is.first same in
    let rest_is = epochs-after-header bytes rest h s first u e same o.0 o.1 o.2 in
    let good : All (IsMixedEpoch (form_of_head h)) u.epochs = rw o.0 at is.epochs in
    let start : StartsAt first u.epochs = rw o.2 at is.starts in
    no_records (form_of_head h) first lines rest f u.epochs r good is.rise start rest_is

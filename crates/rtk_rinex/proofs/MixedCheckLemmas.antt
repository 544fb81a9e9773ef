-- One line more of a text of any systems that is checked.
use Rattle.std.proofs.Common.{Bool, ◌≡◌, ◌≢◌, ℕ, ◌<◌, ◌≤◌, List, [], ◌∷◌, ◌++◌, length, flat_map, Option, Some, None, true, refl, sym, ◌∙◌, ap, arith, append_assoc}
use Rattle.std.specs.Prelude.{All, AllPairs}
use Rattle.std.specs.List.{filter}
use Rattle.std.proofs.lemmas.List.Elements.{All-nil, All-cons, All-head, All-tail}
use Rattle.std.proofs.lemmas.List.Kept.{AllPairs-cons}
use Rattle.rtk_obs.specs.declared.time.Civil.{Civil}
use Rattle.rtk_obs.specs.Reading.{reading_of}
use Rattle.rtk_rinex.specs.Record.{EpochTableView, has_line_in, epoch_line}
use Rattle.rtk_rinex.specs.MixedRecord.{mixed_satellite_line, mixed_record_text}
use Rattle.rtk_rinex.specs.MixedForm.{FormView}
use Rattle.rtk_rinex.specs.MixedTable.{IsMixedRow, IsMixedEpoch}
use Rattle.rtk_rinex.specs.CheckLine.{IsNextSatellite, IsNextTime}
use Rattle.rtk_rinex.specs.MixedCheckLine.{IsMixedEpochFault, IsMixedSatelliteFault}
use Rattle.rtk_rinex.specs.Lines.{IsLine}
use Rattle.rtk_rinex.specs.CheckText.{BeginsWithFault, last_satellite, last_time}
use Rattle.rtk_rinex.specs.MixedCheckText.{AreMixedRows, AreMixedEpochs}
use Rattle.rtk_rinex.specs.declared.check_fault.Cause.{Cause}
use Rattle.rtk_rinex.specs.declared.check_fault.Cause.TheVariants.{HeaderLine, Columns, Value, Order, Truncated, OutOfMemory}
use Rattle.rtk_rinex.specs.declared.epoch_table.SatelliteRow.{SatelliteRow}
use Rattle.rtk_rinex.proofs.MixedRecordLemmas.{mixed_lines-some}

-- good records begin a text
pub record ReadsMixedFront (n : FormView) (first : ℕ) (bytes rest : List ℕ) : Type 0 where
  pub epochs : List EpochTableView
  pub are_epochs : AreMixedEpochs n first None epochs
  pub text : bytes ≡ flat_map (mixed_record_text n.doppler) epochs ++ rest

pub rows-more : (n : FormView) (last : Option ℕ) (rows : List SatelliteRow) (r : SatelliteRow) → AreMixedRows n last rows → IsMixedRow n r
    → IsNextSatellite (last_satellite last rows) r.satellite → AreMixedRows n last (rows ++ r ∷ [])
rows-more n last [] r h is next = (is, next, tt)
rows-more n last (s ∷ rows) r h is next = (h.0, h.1, rows-more n (Some s.satellite) rows r h.2 is next)

pub epochs-more : (n : FormView) (first : ℕ) (last : Option ℕ) (epochs : List EpochTableView) (e : EpochTableView) → AreMixedEpochs n first last epochs → IsMixedEpoch n e
    → IsNextTime first (last_time last epochs) e.time → AreMixedEpochs n first last (epochs ++ e ∷ [])
epochs-more n first last [] e h is next = (is, next, tt)
epochs-more n first last (f ∷ epochs) e h is next = (h.0, h.1, epochs-more n first (Some f.time) epochs e h.2 is next)

pub satellite-fault : (n : FormView) (last : Option ℕ) (text line rest : List ℕ) (cause : Cause) → IsLine line → text ≡ line ++ rest
    → IsMixedSatelliteFault n last line cause → BeginsWithFault (IsMixedSatelliteFault n last) text cause
satellite-fault n last text line rest HeaderLine l e h = (line, rest, l, e, h)
satellite-fault n last text line rest Columns l e h = (line, rest, l, e, h)
satellite-fault n last text line rest Value l e h = (line, rest, l, e, h)
satellite-fault n last text line rest Order l e h = (line, rest, l, e, h)
satellite-fault n last text line rest Truncated l e h = absurd h
satellite-fault n last text line rest OutOfMemory l e h = (line, rest, l, e, h)

pub epoch-fault : (n : FormView) (first : ℕ) (last : Option ℕ) (text line rest : List ℕ) (cause : Cause) → IsLine line → text ≡ line ++ rest
    → IsMixedEpochFault n first last line cause → BeginsWithFault (IsMixedEpochFault n first last) text cause
epoch-fault n first last text line rest HeaderLine l e h = (line, rest, l, e, h)
epoch-fault n first last text line rest Columns l e h = (line, rest, l, e, h)
epoch-fault n first last text line rest Value l e h = (line, rest, l, e, h)
epoch-fault n first last text line rest Order l e h = (line, rest, l, e, h)
epoch-fault n first last text line rest Truncated l e h = absurd h
epoch-fault n first last text line rest OutOfMemory l e h = (line, rest, l, e, h)

-- ---- the rows of a record

pub rows-all : (n : FormView) (last : Option ℕ) (rows : List SatelliteRow) → AreMixedRows n last rows → All (IsMixedRow n) rows
rows-all n last [] h = All-nil (IsMixedRow n)
rows-all n last (r ∷ rows) h = All-cons (IsMixedRow n) r rows h.0 (rows-all n (Some r.satellite) rows h.2)

rows-above : (n : FormView) (s b : ℕ) (rows : List SatelliteRow) → AreMixedRows n (Some s) rows → b ≤ s → All (λ (r : SatelliteRow). b < r.satellite) rows
rows-above n s b [] h le = All-nil (λ (r : SatelliteRow). b < r.satellite)
rows-above n s b (r ∷ rows) h le =
    let less : s < r.satellite = h.1 in
    All-cons (λ (r : SatelliteRow). b < r.satellite) r rows (omega arith) (rows-above n r.satellite b rows h.2 (omega arith))

pub rows-rise : (n : FormView) (last : Option ℕ) (rows : List SatelliteRow) → AreMixedRows n last rows → AllPairs (λ a b. a.satellite < b.satellite) rows
rows-rise n last [] h = λ i j d low high. absurd (omega arith)
rows-rise n last (r ∷ rows) h =
    AllPairs-cons (λ (a b : SatelliteRow). a.satellite < b.satellite) r rows (rows-above n r.satellite r.satellite rows h.2 (omega arith)) (rows-rise n (Some r.satellite) rows h.2)

filter-lines : (n : FormView) (rows : List SatelliteRow) → All (IsMixedRow n) rows → filter (has_line_in n.doppler) rows ≡ rows
filter-lines n [] h = refl
filter-lines n (r ∷ rows) h =
    let line : has_line_in n.doppler r ≡ true = (All-head (IsMixedRow n) r rows h).line in
    let rest : filter (has_line_in n.doppler) rows ≡ rows = filter-lines n rows (All-tail (IsMixedRow n) r rows h) in
    rw (line, rest) refl

pub record-lines : (n : FormView) (time : ℕ) (rows : List SatelliteRow) → All (IsMixedRow n) rows → length rows ≢ 0
    → mixed_record_text n.doppler (record { time = time; rows = rows }) ≡ epoch_line (reading_of time) (length rows) ++ flat_map (mixed_satellite_line n.doppler) rows
unfolding mixed_record_text
record-lines n time rows h some = rw (filter-lines n rows h) (mixed_lines-some n.doppler (reading_of time) rows some)

-- the text of a record, of its epoch line and its rows
pub record-is : (doppler : Bool) (bytes line after : List ℕ) (c : Civil) (rows : List SatelliteRow) (count : ℕ) (rest text : List ℕ)
    → bytes ≡ line ++ after → line ≡ epoch_line c count → after ≡ flat_map (mixed_satellite_line doppler) rows ++ rest → length rows ≡ count
    → text ≡ epoch_line c (length rows) ++ flat_map (mixed_satellite_line doppler) rows → bytes ≡ text ++ rest
record-is doppler bytes line after c rows count rest text e f g h t =
    let first : line ≡ epoch_line c (length rows) = f ∙ ap (λ (m : ℕ). epoch_line c m) (sym h) in
    e ∙ ap (λ (xs : List ℕ). line ++ xs) g ∙ ap (λ (xs : List ℕ). xs ++ (flat_map (mixed_satellite_line doppler) rows ++ rest)) first
    ∙ sym (append_assoc (epoch_line c (length rows)) (flat_map (mixed_satellite_line doppler) rows) rest) ∙ ap (λ (xs : List ℕ). xs ++ rest) (sym t)

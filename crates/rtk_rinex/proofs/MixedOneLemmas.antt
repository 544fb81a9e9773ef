-- A text of records of any systems is the text of one list of epochs at most.
use Rattle.std.proofs.Common.{◌≡◌, ◌≢◌, ℕ, ◌<◌, ◌≤◌, Option, Some, None, List, [], ◌∷◌, ◌++◌, length, refl, sym, ◌∙◌, ap, arith, append_assoc, length-append, flat_map}
use Rattle.std.specs.Prelude.{All, AllPairs}
use Rattle.std.specs.Int.{IsInRange}
use Rattle.std.proofs.lemmas.List.Elements.{All-nil, All-cons, All-head, All-tail}
use Rattle.std.proofs.lemmas.List.Kept.{AllPairs-cons}
use Rattle.std.proofs.lemmas.List.{append-nil, nil_from_length}
use Rattle.rtk_rinex.specs.declared.epoch_table.SatelliteRow.{SatelliteRow}
use Rattle.rtk_obs.specs.Reading.{reading_of}
use Rattle.rtk_rinex.specs.Record.{EpochTableView, epoch_line}
use Rattle.rtk_rinex.specs.Table.{StartsAt}
use Rattle.rtk_rinex.specs.MixedRecord.{mixed_satellite_line, mixed_record_text}
use Rattle.rtk_rinex.specs.MixedForm.{FormView, most_satellites}
use Rattle.rtk_rinex.specs.MixedTable.{IsMixedRow, IsMixedEpoch}
use Rattle.rtk_rinex.specs.Lines.{IsLine}
use Rattle.rtk_rinex.specs.MixedCheckText.{AreMixedEpochs}
use Rattle.rtk_rinex.proofs.EpochLemmas.{length-line}
use Rattle.rtk_rinex.proofs.LineLemmas.{epoch_line-line, same_line}
use Rattle.rtk_rinex.proofs.MixedCheckLemmas.{record-lines}
use Rattle.rtk_rinex.proofs.MixedCountLemmas.{few-mixed, count-few}
use Rattle.rtk_rinex.proofs.MixedRowLemmas.{mixed_line-line, one-mixed-row}
use Rattle.rtk_rinex.proofs.OneLemmas.{Earlier, Goes, same_cons, one_epoch_line}

-- there are at least one row and at most as many as satellites of the systems with codes
pub count-of : (n : FormView) (e : EpochTableView) → IsMixedEpoch n e → IsInRange 1 (most_satellites n) (length e.rows)
count-of n e h =
    let some : length e.rows ≢ 0 = λ z. h.some (nil_from_length e.rows z) in
    (omega (arith, some), few-mixed n e.rows h.rows h.rise)

pub same_rows : (n : FormView) (rows others : List SatelliteRow) (x y : List ℕ) → All (IsMixedRow n) rows → All (IsMixedRow n) others
    → length rows ≤ length others → flat_map (mixed_satellite_line n.doppler) rows ++ x ≡ flat_map (mixed_satellite_line n.doppler) others ++ y → Goes (mixed_satellite_line n.doppler) rows others x y
same_rows n [] others x y h g long e = record { more = others; list = refl; text = e }
same_rows n (r ∷ rows) [] x y h g long e = absurd (omega arith)
same_rows n (r ∷ rows) (s ∷ others) x y h g long e =
    let left = append_assoc (mixed_satellite_line n.doppler r) (flat_map (mixed_satellite_line n.doppler) rows) x in
    let right = append_assoc (mixed_satellite_line n.doppler s) (flat_map (mixed_satellite_line n.doppler) others) y in
    let line = same_line (mixed_satellite_line n.doppler r) (mixed_satellite_line n.doppler s) (flat_map (mixed_satellite_line n.doppler) rows ++ x) (flat_map (mixed_satellite_line n.doppler) others ++ y)
    (mixed_line-line n.doppler r) (mixed_line-line n.doppler s) (sym left ∙ e ∙ right) in
    let same : r ≡ s = one-mixed-row n r s (All-head (IsMixedRow n) r rows h) (All-head (IsMixedRow n) s others g) line.0 in
    let rest = same_rows n rows others x y (All-tail (IsMixedRow n) r rows h) (All-tail (IsMixedRow n) s others g) (omega arith) line.1 in
    record { more = rest.more; list = same_cons r s (rows ++ rest.more) others same rest.list; text = rest.text }

pub epoch-text : (n : FormView) (e : EpochTableView) → IsMixedEpoch n e → mixed_record_text n.doppler e ≡ epoch_line (reading_of e.time) (length e.rows) ++ flat_map (mixed_satellite_line n.doppler) e.rows
epoch-text n e h = record-lines n e.time e.rows h.rows (λ z. h.some (nil_from_length e.rows z))

-- a record begins with its epoch line
pub epoch-front : (n : FormView) (e : EpochTableView) (y : List ℕ) → IsMixedEpoch n e → mixed_record_text n.doppler e ++ y ≡ epoch_line (reading_of e.time) (length e.rows) ++ (flat_map (mixed_satellite_line n.doppler) e.rows ++ y)
epoch-front n e y h =
    ap (λ (t : List ℕ). t ++ y) (epoch-text n e h) ∙ append_assoc (epoch_line (reading_of e.time) (length e.rows)) (flat_map (mixed_satellite_line n.doppler) e.rows) y

pub epoch_line-of : (n : FormView) (e : EpochTableView) → IsMixedEpoch n e → IsLine (epoch_line (reading_of e.time) (length e.rows))
epoch_line-of n e h = let count = count-of n e h in epoch_line-line e.time (length e.rows) h.time (count-few n (length e.rows) count)

abbrev same_record : ℕ → List SatelliteRow → EpochTableView
same_record t rows = record { time = t; rows = rows }

same_epoch : (t u : ℕ) (rows others : List SatelliteRow) → t ≡ u → rows ≡ others → same_record t rows ≡ same_record u others
same_epoch t u rows others e f = cc

no_more : {X : Type 0} (xs more : List X) → length (xs ++ more) ≡ length xs → more ≡ []
no_more xs more e = nil_from_length more (omega (arith, length-append xs more, e))

pub one_record : (n : FormView) (e f : EpochTableView) (x y : List ℕ) → IsMixedEpoch n e → IsMixedEpoch n f → mixed_record_text n.doppler e ++ x ≡ mixed_record_text n.doppler f ++ y → (e ≡ f) × (x ≡ y)
one_record n e f x y h g same =
    let c = count-of n e h in
    let d = count-of n f g in
    let line = same_line (epoch_line (reading_of e.time) (length e.rows)) (epoch_line (reading_of f.time) (length f.rows)) (flat_map (mixed_satellite_line n.doppler) e.rows ++ x) (flat_map (mixed_satellite_line n.doppler) f.rows ++ y)
    (epoch_line-of n e h) (epoch_line-of n f g) (sym (epoch-front n e x h) ∙ same ∙ epoch-front n f y g) in
    let one = one_epoch_line e.time f.time (length e.rows) (length f.rows) h.time g.time (count-few n (length e.rows) c) (count-few n (length f.rows) d) line.0 in
    let rows = same_rows n e.rows f.rows x y h.rows g.rows (omega (arith, one.1)) line.1 in
    let none : rows.more ≡ [] = no_more e.rows rows.more (ap length (sym rows.list) ∙ sym one.1) in
    let list : e.rows ≡ f.rows = sym (append-nil e.rows) ∙ (rw (none) at (sym rows.list)) in
    (same_epoch e.time f.time e.rows f.rows one.0 list, rw none at rows.text)

pub some_text : (n : FormView) (e : EpochTableView) (x : List ℕ) → IsMixedEpoch n e → mixed_record_text n.doppler e ++ x ≢ []
some_text n e x h z =
    let c = count-of n e h in
    let long = length-line (epoch_line (reading_of e.time) (length e.rows)) e.time (length e.rows) h.time (count-few n (length e.rows) c) refl in
    let zero = ap length (sym (epoch-front n e x h) ∙ z) in
    omega (arith, long, length-append (epoch_line (reading_of e.time) (length e.rows)) (flat_map (mixed_satellite_line n.doppler) e.rows ++ x), zero)

-- a text of epochs, with more text after them, is the text of no other epochs
pub same_epochs : (n : FormView) (epochs others : List EpochTableView) (x : List ℕ) → All (IsMixedEpoch n) epochs → All (IsMixedEpoch n) others
    → flat_map (mixed_record_text n.doppler) epochs ++ x ≡ flat_map (mixed_record_text n.doppler) others → Goes (mixed_record_text n.doppler) epochs others x []
same_epochs n [] others x h g e = record { more = others; list = refl; text = e ∙ sym (append-nil (flat_map (mixed_record_text n.doppler) others)) }
same_epochs n (a ∷ epochs) [] x h g e =
    absurd (some_text n a (flat_map (mixed_record_text n.doppler) epochs ++ x) (All-head (IsMixedEpoch n) a epochs h) (sym (append_assoc (mixed_record_text n.doppler a) (flat_map (mixed_record_text n.doppler) epochs) x) ∙ e))
same_epochs n (a ∷ epochs) (b ∷ others) x h g e =
    let left = append_assoc (mixed_record_text n.doppler a) (flat_map (mixed_record_text n.doppler) epochs) x in
    let one = one_record n a b (flat_map (mixed_record_text n.doppler) epochs ++ x) (flat_map (mixed_record_text n.doppler) others)
    (All-head (IsMixedEpoch n) a epochs h) (All-head (IsMixedEpoch n) b others g) (sym left ∙ e) in
    let rest = same_epochs n epochs others x (All-tail (IsMixedEpoch n) a epochs h) (All-tail (IsMixedEpoch n) b others g) one.1 in
    record { more = rest.more; list = same_cons a b (epochs ++ rest.more) others one.0 rest.list; text = rest.text }

-- ---- epochs as a list that rises

pub epochs-all : (n : FormView) (first : ℕ) (last : Option ℕ) (epochs : List EpochTableView) → AreMixedEpochs n first last epochs → All (IsMixedEpoch n) epochs
epochs-all n first last [] h = All-nil (IsMixedEpoch n)
epochs-all n first last (e ∷ epochs) h = All-cons (IsMixedEpoch n) e epochs h.0 (epochs-all n first (Some e.time) epochs h.2)

epochs-above : (n : FormView) (first s b : ℕ) (epochs : List EpochTableView) → AreMixedEpochs n first (Some s) epochs → b ≤ s → All (λ (e : EpochTableView). b < e.time) epochs
epochs-above n first s b [] h le = All-nil (λ (e : EpochTableView). b < e.time)
epochs-above n first s b (e ∷ epochs) h le =
    let less : s < e.time = h.1 in
    All-cons (λ (e : EpochTableView). b < e.time) e epochs (omega arith) (epochs-above n first e.time b epochs h.2 (omega arith))

pub epochs-rise : (n : FormView) (first : ℕ) (last : Option ℕ) (epochs : List EpochTableView) → AreMixedEpochs n first last epochs → AllPairs Earlier epochs
epochs-rise n first last [] h = λ i j d low high. absurd (omega arith)
epochs-rise n first last (e ∷ epochs) h = AllPairs-cons Earlier e epochs (epochs-above n first e.time e.time epochs h.2 (omega arith)) (epochs-rise n first (Some e.time) epochs h.2)

pub epochs-start : (n : FormView) (first : ℕ) (epochs : List EpochTableView) → AreMixedEpochs n first None epochs → StartsAt first epochs
epochs-start n first [] h = tt
epochs-start n first (e ∷ epochs) h = h.1

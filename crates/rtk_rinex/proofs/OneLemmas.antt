-- A text is the text of one list of epochs at most, and a text with a fault is the text of no such
-- list.
use Rattle.std.proofs.Common.{◌≡◌, ◌≢◌, ℕ, suc, ◌+◌, ◌<◌, ◌≤◌, Option, Some, None, List, [], ◌∷◌, ◌++◌, length, take, refl, sym, ◌∙◌, ap, arith, subst, append_assoc, length-append, flat_map, inl, inr, ◌⊎◌, ⊎_elim}
use Rattle.std.specs.Prelude.{All, AllPairs}
use Rattle.std.specs.Int.{IsInRange}
use Rattle.std.proofs.lemmas.List.Elements.{All-nil, All-cons, All-head, All-tail}
use Rattle.std.proofs.lemmas.List.Kept.{AllPairs-cons}
use Rattle.std.proofs.lemmas.List.{append-nil, nil_from_length}
use Rattle.rtk_rinex.specs.declared.epoch_table.SatelliteRow.{SatelliteRow}
use Rattle.rtk_obs.specs.declared.time.Civil.{Civil}
use Rattle.rtk_obs.specs.Calendar.{ReadsAs}
use Rattle.rtk_obs.specs.Reading.{IsMoment, reading_of}
use Rattle.rtk_rinex.specs.Record.{EpochTableView, epoch_line, satellite_line, record_text}
use Rattle.rtk_rinex.specs.Table.{IsTableRow, IsTableEpoch, StartsAt}
use Rattle.rtk_rinex.specs.CheckLine.{IsNextTime, IsNextSatellite}
use Rattle.rtk_rinex.specs.Lines.{IsLine}
use Rattle.rtk_rinex.specs.CheckText.{AreEpochs, last_satellite, last_time}
use Rattle.rtk_obs.proofs.PublicLaws.{reading-reads, one_moment}
use Rattle.rtk_rinex.proofs.EpochLemmas.{epoch-shows, line-columns, length-line}
use Rattle.rtk_rinex.proofs.RowLemmas.{row-shows}
use Rattle.rtk_rinex.proofs.CheckLemmas.{record-lines}
use Rattle.rtk_rinex.proofs.LineLemmas.{satellite_line-line, epoch_line-line, same_line}

-- ---- one line

pub one_epoch_line : (t u n m : ℕ) → IsMoment t → IsMoment u → n < 1000 → m < 1000
    → epoch_line (reading_of t) n ≡ epoch_line (reading_of u) m → (t ≡ u) × (n ≡ m)
one_epoch_line t u n m h k a b e =
    let line : List ℕ = epoch_line (reading_of t) n in
    let left = line-columns line t n h a refl in
    let right = line-columns line u m k b e in
    let s = epoch-shows (take 35 line) t n h a left in
    let r = epoch-shows (take 35 line) u m k b right in
    let reading : reading_of u ≡ reading_of t = sym r.reading ∙ s.reading in
    (one_moment t u (reading_of t) (reading-reads t h) (subst (λ (c : Civil). ReadsAs u c) reading (reading-reads u k)), sym s.count ∙ r.count)

pub one_row : (n : ℕ) (r s : SatelliteRow) → n ≤ 16 → IsTableRow n r → IsTableRow n s → satellite_line r ≡ satellite_line s → r ≡ s
one_row n r s le h g e =
    let a = row-shows n (satellite_line r) r le h refl in
    let b = row-shows n (satellite_line r) s le g e in
    sym a.row ∙ b.row

-- ---- lists that rise

abbrev pub Below : SatelliteRow → SatelliteRow → Type 0
Below a b = a.satellite < b.satellite

abbrev pub Earlier : EpochTableView → EpochTableView → Type 0
Earlier a b = a.time < b.time

pub pairs-head : {X : Type 0} (R : X → X → Type 0) (x : X) (xs : List X) → AllPairs R (x ∷ xs) → All (R x) xs
pairs-head R x xs h = λ k d lt. h 0 (suc k) d (omega arith) (omega arith)

pub pairs-tail : {X : Type 0} (R : X → X → Type 0) (x : X) (xs : List X) → AllPairs R (x ∷ xs) → AllPairs R xs
pairs-tail R x xs h = λ i j d low high. h (suc i) (suc j) d (omega arith) (omega arith)

few_above : (n b : ℕ) (rows : List SatelliteRow) → All (IsTableRow n) rows → AllPairs Below rows → All (λ (r : SatelliteRow). b < r.satellite) rows → length rows + b ≤ 32 ⊎ (length rows ≡ 0)
few_above n b [] h p l = inr refl
few_above n b (r ∷ rows) h p l =
    let is = (All-head (IsTableRow n) r rows h).satellite in
    let low : b < r.satellite = All-head (λ (r : SatelliteRow). b < r.satellite) r rows l in
    ⊎_elim
    (λ more. inl (omega (arith, is, more, low)))
    (λ none. inl (omega (arith, is, none, low)))
    (few_above n r.satellite rows (All-tail (IsTableRow n) r rows h) (pairs-tail Below r rows p) (pairs-head Below r rows p))

-- there are at most 32 rows
pub few_rows : (n : ℕ) (rows : List SatelliteRow) → All (IsTableRow n) rows → AllPairs Below rows → length rows ≤ 32
few_rows n rows h p =
    ⊎_elim (λ more. omega (arith, more)) (λ none. omega (arith, none))
    (few_above n 0 rows h p (λ k d lt. omega (arith, (h k d lt).satellite)))

pub count-of : (n : ℕ) (e : EpochTableView) → IsTableEpoch n e → IsInRange 1 32 (length e.rows)
count-of n e h =
    let few = few_rows n e.rows h.rows h.rise in
    let some : length e.rows ≢ 0 = λ z. h.some (nil_from_length e.rows z) in
    (omega (arith, some), few)

-- ---- one list

pub same_cons : {X : Type 0} (a b : X) (xs ys : List X) → a ≡ b → ys ≡ xs → b ∷ ys ≡ a ∷ xs
same_cons a b xs ys e f = cc

pub record Goes {X : Type 0} (f : X → List ℕ) (xs ys : List X) (x y : List ℕ) : Type 0 where
  pub more : List X
  pub list : ys ≡ xs ++ more
  pub text : x ≡ flat_map f more ++ y

pub same_rows : (n : ℕ) (rows others : List SatelliteRow) (x y : List ℕ) → n ≤ 16 → All (IsTableRow n) rows → All (IsTableRow n) others
    → length rows ≤ length others → flat_map satellite_line rows ++ x ≡ flat_map satellite_line others ++ y → Goes satellite_line rows others x y
same_rows n [] others x y le h g long e = record { more = others; list = refl; text = e }
same_rows n (r ∷ rows) [] x y le h g long e = absurd (omega arith)
same_rows n (r ∷ rows) (s ∷ others) x y le h g long e =
    let left = append_assoc (satellite_line r) (flat_map satellite_line rows) x in
    let right = append_assoc (satellite_line s) (flat_map satellite_line others) y in
    let line = same_line (satellite_line r) (satellite_line s) (flat_map satellite_line rows ++ x) (flat_map satellite_line others ++ y)
    (satellite_line-line r) (satellite_line-line s) (sym left ∙ e ∙ right) in
    let same : r ≡ s = one_row n r s le (All-head (IsTableRow n) r rows h) (All-head (IsTableRow n) s others g) line.0 in
    let rest = same_rows n rows others x y le (All-tail (IsTableRow n) r rows h) (All-tail (IsTableRow n) s others g) (omega arith) line.1 in
    record { more = rest.more; list = same_cons r s (rows ++ rest.more) others same rest.list; text = rest.text }

pub epoch-text : (n : ℕ) (e : EpochTableView) → IsTableEpoch n e → record_text e ≡ epoch_line (reading_of e.time) (length e.rows) ++ flat_map satellite_line e.rows
epoch-text n e h = record-lines n e.time e.rows h.rows (λ z. h.some (nil_from_length e.rows z))

-- a record begins with its epoch line
pub epoch-front : (n : ℕ) (e : EpochTableView) (y : List ℕ) → IsTableEpoch n e → record_text e ++ y ≡ epoch_line (reading_of e.time) (length e.rows) ++ (flat_map satellite_line e.rows ++ y)
epoch-front n e y h =
    ap (λ (t : List ℕ). t ++ y) (epoch-text n e h) ∙ append_assoc (epoch_line (reading_of e.time) (length e.rows)) (flat_map satellite_line e.rows) y

pub epoch_line-of : (n : ℕ) (e : EpochTableView) → IsTableEpoch n e → IsLine (epoch_line (reading_of e.time) (length e.rows))
epoch_line-of n e h = let count = count-of n e h in epoch_line-line e.time (length e.rows) h.time (omega (arith, count))

abbrev same_record : ℕ → List SatelliteRow → EpochTableView
same_record t rows = record { time = t; rows = rows }

same_epoch : (t u : ℕ) (rows others : List SatelliteRow) → t ≡ u → rows ≡ others → same_record t rows ≡ same_record u others
same_epoch t u rows others e f = cc

no_more : {X : Type 0} (xs more : List X) → length (xs ++ more) ≡ length xs → more ≡ []
no_more xs more e = nil_from_length more (omega (arith, length-append xs more, e))

pub one_record : (n : ℕ) (e f : EpochTableView) (x y : List ℕ) → n ≤ 16 → IsTableEpoch n e → IsTableEpoch n f → record_text e ++ x ≡ record_text f ++ y → (e ≡ f) × (x ≡ y)
one_record n e f x y le h g same =
    let c = count-of n e h in
    let d = count-of n f g in
    let line = same_line (epoch_line (reading_of e.time) (length e.rows)) (epoch_line (reading_of f.time) (length f.rows)) (flat_map satellite_line e.rows ++ x) (flat_map satellite_line f.rows ++ y)
    (epoch_line-of n e h) (epoch_line-of n f g) (sym (epoch-front n e x h) ∙ same ∙ epoch-front n f y g) in
    let one = one_epoch_line e.time f.time (length e.rows) (length f.rows) h.time g.time (omega (arith, c)) (omega (arith, d)) line.0 in
    let rows = same_rows n e.rows f.rows x y le h.rows g.rows (omega (arith, one.1)) line.1 in
    let none : rows.more ≡ [] = no_more e.rows rows.more (ap length (sym rows.list) ∙ sym one.1) in
    let list : e.rows ≡ f.rows = sym (append-nil e.rows) ∙ (rw (none) at (sym rows.list)) in
    (same_epoch e.time f.time e.rows f.rows one.0 list, rw none at rows.text)

pub some_text : (n : ℕ) (e : EpochTableView) (x : List ℕ) → IsTableEpoch n e → record_text e ++ x ≢ []
some_text n e x h z =
    let c = count-of n e h in
    let long = length-line (epoch_line (reading_of e.time) (length e.rows)) e.time (length e.rows) h.time (omega (arith, c)) refl in
    let zero = ap length (sym (epoch-front n e x h) ∙ z) in
    omega (arith, long, length-append (epoch_line (reading_of e.time) (length e.rows)) (flat_map satellite_line e.rows ++ x), zero)

-- a text of epochs, with more text after them, is the text of no other epochs
pub same_epochs : (n : ℕ) (epochs others : List EpochTableView) (x : List ℕ) → n ≤ 16 → All (IsTableEpoch n) epochs → All (IsTableEpoch n) others
    → flat_map record_text epochs ++ x ≡ flat_map record_text others → Goes record_text epochs others x []
same_epochs n [] others x le h g e = record { more = others; list = refl; text = e ∙ sym (append-nil (flat_map record_text others)) }
same_epochs n (a ∷ epochs) [] x le h g e =
    absurd (some_text n a (flat_map record_text epochs ++ x) (All-head (IsTableEpoch n) a epochs h) (sym (append_assoc (record_text a) (flat_map record_text epochs) x) ∙ e))
same_epochs n (a ∷ epochs) (b ∷ others) x le h g e =
    let left = append_assoc (record_text a) (flat_map record_text epochs) x in
    let one = one_record n a b (flat_map record_text epochs ++ x) (flat_map record_text others) le
    (All-head (IsTableEpoch n) a epochs h) (All-head (IsTableEpoch n) b others g) (sym left ∙ e) in
    let rest = same_epochs n epochs others x le (All-tail (IsTableEpoch n) a epochs h) (All-tail (IsTableEpoch n) b others g) one.1 in
    record { more = rest.more; list = same_cons a b (epochs ++ rest.more) others one.0 rest.list; text = rest.text }

-- ---- what stands next in a list that rises

next_row : (q : SatelliteRow) (rows : List SatelliteRow) (r : SatelliteRow) (more : List SatelliteRow) → AllPairs Below (q ∷ (rows ++ r ∷ more))
    → IsNextSatellite (last_satellite (Some q.satellite) rows) r.satellite
next_row q [] r more h = All-head (Below q) r more (pairs-head Below q (r ∷ more) h)
next_row q (p ∷ rows) r more h = next_row p rows r more (pairs-tail Below q (p ∷ (rows ++ r ∷ more)) h)

pub row-next : (rows : List SatelliteRow) (r : SatelliteRow) (more : List SatelliteRow) → AllPairs Below (rows ++ r ∷ more)
    → IsNextSatellite (last_satellite None rows) r.satellite
row-next [] r more h = tt
row-next (q ∷ rows) r more h = next_row q rows r more h

next_epoch : (first : ℕ) (q : EpochTableView) (epochs : List EpochTableView) (e : EpochTableView) (more : List EpochTableView) → AllPairs Earlier (q ∷ (epochs ++ e ∷ more))
    → IsNextTime first (last_time (Some q.time) epochs) e.time
next_epoch first q [] e more h = All-head (Earlier q) e more (pairs-head Earlier q (e ∷ more) h)
next_epoch first q (p ∷ epochs) e more h = next_epoch first p epochs e more (pairs-tail Earlier q (p ∷ (epochs ++ e ∷ more)) h)

pub epoch-next : (first : ℕ) (epochs : List EpochTableView) (e : EpochTableView) (more : List EpochTableView) → StartsAt first (epochs ++ e ∷ more) → AllPairs Earlier (epochs ++ e ∷ more)
    → IsNextTime first (last_time None epochs) e.time
epoch-next first [] e more s h = s
epoch-next first (q ∷ epochs) e more s h = next_epoch first q epochs e more h

-- ---- epochs as a list that rises

pub epochs-all : (n first : ℕ) (last : Option ℕ) (epochs : List EpochTableView) → AreEpochs n first last epochs → All (IsTableEpoch n) epochs
epochs-all n first last [] h = All-nil (IsTableEpoch n)
epochs-all n first last (e ∷ epochs) h = All-cons (IsTableEpoch n) e epochs h.0 (epochs-all n first (Some e.time) epochs h.2)

epochs-above : (n first s b : ℕ) (epochs : List EpochTableView) → AreEpochs n first (Some s) epochs → b ≤ s → All (λ (e : EpochTableView). b < e.time) epochs
epochs-above n first s b [] h le = All-nil (λ (e : EpochTableView). b < e.time)
epochs-above n first s b (e ∷ epochs) h le =
    let less : s < e.time = h.1 in
    All-cons (λ (e : EpochTableView). b < e.time) e epochs (omega arith) (epochs-above n first e.time b epochs h.2 (omega arith))

pub epochs-rise : (n first : ℕ) (last : Option ℕ) (epochs : List EpochTableView) → AreEpochs n first last epochs → AllPairs Earlier epochs
epochs-rise n first last [] h = λ i j d low high. absurd (omega arith)
epochs-rise n first last (e ∷ epochs) h = AllPairs-cons Earlier e epochs (epochs-above n first e.time e.time epochs h.2 (omega arith)) (epochs-rise n first (Some e.time) epochs h.2)

pub epochs-start : (n first : ℕ) (epochs : List EpochTableView) → AreEpochs n first None epochs → StartsAt first epochs
epochs-start n first [] h = tt
epochs-start n first (e ∷ epochs) h = h.1

-- The records of a file, read one after another, of which the satellites of some systems are kept.
use Rattle.std.proofs.Common.{◌≡◌, ◌<◌, ◌≤◌, ◌+◌, ◌||◌, ℕ, suc, Bool, true, false, None, Some, List, [], ◌∷◌, ◌++◌, map, length, length-append, append-nil, append_assoc, refl, sym, ap, subst, ◌∙◌, arith}
use Rattle.std.specs.Prelude.{count_by, flat_map}
use Rattle.std.specs.List.{filter, list_any}
use Rattle.std.proofs.lemmas.List.Sums.{length-filter, count_by-le-length}
use Rattle.rtk_rinex.specs.declared.epoch_table.SatelliteRow.{SatelliteRow}
use Rattle.rtk_rinex.specs.Record.{EpochTableView, has_line_in}
use Rattle.rtk_rinex.specs.MixedRecord.{MixedLinesView, HoldsMixedLines, mixed_record_text}
use Rattle.rtk_rinex.specs.MixedRecords.{MixedRecordsView, AreMixedLeft, IsNextRecordOf, MixedRowsView, AreRowsLeft, IsNextRowOf}
use Rattle.rtk_rinex.specs.declared.system_flags.SystemFlags.{SystemFlags}
use Rattle.rtk_cut.specs.Cut.{first_of_part}
use Rattle.rtk_cut.specs.KeptSystems.{keeps_row, kept_epoch, keeps_some, kept_epochs}
use Rattle.rtk_cut.specs.Steps.FileTexts.{IsNextIn}
use Rattle.rtk_cut.specs.Steps.MixedFile.{IsRecordIn}
use Rattle.rtk_cut.proofs.MixedFileLemmas.{next-answers}
use Rattle.rtk_cut.proofs.KeptSystemsLemmas.{filter-true, filter-false, none-left}

-- ---- a satellite is sought

-- some of the rows that are left is kept if some of all is
pub record HasSought (ks : SystemFlags) (all : List SatelliteRow) (rows : MixedRowsView) : Type 0 where
  pub left : List SatelliteRow
  pub are_left : AreRowsLeft rows left
  pub same : list_any (λ r. keeps_row ks r) left ≡ list_any (λ r. keeps_row ks r) all

pub sought-none : (ks : SystemFlags) (all : List SatelliteRow) (rows : MixedRowsView) → AreRowsLeft rows all → HasSought ks all rows
sought-none ks all rows are = record { left = all; are_left = are; same = refl }

first-on : (ks : SystemFlags) (left : List SatelliteRow) (row : SatelliteRow) (rows' : MixedRowsView) → IsNextRowOf left row rows' → keeps_row ks row ≡ true → list_any (λ r. keeps_row ks r) left ≡ true
first-on ks [] row rows' next on = absurd next
first-on ks (r ∷ rest) row rows' next on = ap (λ b. b || list_any (λ r. keeps_row ks r) rest) (ap (λ x. keeps_row ks x) (sym next.0) ∙ on)

-- the row that was read is kept
pub sought-found : (ks : SystemFlags) (all : List SatelliteRow) (rows rows' : MixedRowsView) (row : SatelliteRow) → HasSought ks all rows → ((xs : List SatelliteRow) → AreRowsLeft rows xs → IsNextRowOf xs row rows')
    → keeps_row ks row ≡ true → true ≡ list_any (λ r. keeps_row ks r) all
sought-found ks all rows rows' row so_far next on = sym (first-on ks so_far.left row rows' (next so_far.left so_far.are_left) on) ∙ so_far.same

first-off : (ks : SystemFlags) (left : List SatelliteRow) (row : SatelliteRow) (rows' : MixedRowsView) → IsNextRowOf left row rows' → keeps_row ks row ≡ false
    → (rest : List SatelliteRow) × AreRowsLeft rows' rest × (list_any (λ r. keeps_row ks r) rest ≡ list_any (λ r. keeps_row ks r) left)
first-off ks [] row rows' next off = absurd next
first-off ks (r ∷ rest) row rows' next off =
    (rest, next.1, sym (ap (λ b. b || list_any (λ r. keeps_row ks r) rest) (ap (λ x. keeps_row ks x) (sym next.0) ∙ off)))

-- it is not
pub sought-more : (ks : SystemFlags) (all : List SatelliteRow) (rows rows' : MixedRowsView) (row : SatelliteRow) → HasSought ks all rows → ((xs : List SatelliteRow) → AreRowsLeft rows xs → IsNextRowOf xs row rows')
    → keeps_row ks row ≡ false → HasSought ks all rows'
sought-more ks all rows rows' row so_far next off =
    let past = first-off ks so_far.left row rows' (next so_far.left so_far.are_left) off in
    record { left = past.0; are_left = past.1; same = past.2 ∙ so_far.same }

-- none is
pub sought-all : (ks : SystemFlags) (all : List SatelliteRow) (rows : MixedRowsView) → HasSought ks all rows → ((xs : List SatelliteRow) → AreRowsLeft rows xs → xs ≡ []) → false ≡ list_any (λ r. keeps_row ks r) all
sought-all ks all rows so_far none = sym (ap (λ xs. list_any (λ r. keeps_row ks r) xs) (none so_far.left so_far.are_left)) ∙ so_far.same

-- ---- the lines of a record

-- these rows were kept of those that were read
pub record HasKeptRows (ks : SystemFlags) (all : List SatelliteRow) (rows : MixedRowsView) (made : List SatelliteRow) : Type 0 where
  pub left : List SatelliteRow
  pub are_left : AreRowsLeft rows left
  pub are : made ++ filter (λ r. keeps_row ks r) left ≡ filter (λ r. keeps_row ks r) all

-- their lines are written
pub record HasKeptLines (ks : SystemFlags) (read rows : MixedRowsView) (lines : MixedLinesView) : Type 0 where
  pub made : List SatelliteRow
  pub holds : HoldsMixedLines lines made
  pub room : length made + rows.count ≤ 221
  pub so_far : (e : EpochTableView) → IsRecordIn read e → HasKeptRows ks e.rows rows made

pub lines-none : (ks : SystemFlags) (read rows : MixedRowsView) (lines : MixedLinesView) → HoldsMixedLines lines [] → rows ≡ read → rows.count ≤ 221 → HasKeptLines ks read rows lines
lines-none ks read rows lines holds is few = record {
  made = [];
  holds = holds;
  room = omega (arith, few);
  so_far = λ e record_of. record { left = e.rows; are_left = subst (λ (r : MixedRowsView). AreRowsLeft r e.rows) (sym is) record_of.0.rows; are = refl };
}

-- a line more has room
pub lines-room : (ks : SystemFlags) (read rows : MixedRowsView) (lines : MixedLinesView) (count : ℕ) → HasKeptLines ks read rows lines → rows.count ≡ suc count → lines.lines.count < 221
lines-room ks read rows lines count so_far is =
    let p : SatelliteRow → Bool = has_line_in lines.doppler in
    let lined : lines.lines.count ≡ length (filter p so_far.made) = so_far.holds.count in
    let counted : length (filter p so_far.made) ≡ count_by p so_far.made = length-filter p so_far.made in
    let few : count_by p so_far.made ≤ length so_far.made = count_by-le-length p so_far.made in
    let room = so_far.room in
    omega (arith, lined, counted, few, room, is)

rows-on : (ks : SystemFlags) (all left made : List SatelliteRow) (row : SatelliteRow) (rows' : MixedRowsView) → IsNextRowOf left row rows' → keeps_row ks row ≡ true
    → made ++ filter (λ r. keeps_row ks r) left ≡ filter (λ r. keeps_row ks r) all → HasKeptRows ks all rows' (made ++ row ∷ [])
rows-on ks all [] made row rows' next on are = absurd next
rows-on ks all (r ∷ rest) made row rows' next on are =
    let p : SatelliteRow → Bool = λ x. keeps_row ks x in
    let first : filter p (r ∷ rest) ≡ row ∷ filter p rest = filter-true p r rest (ap p (sym next.0) ∙ on) ∙ ap (λ x. x ∷ filter p rest) (sym next.0) in
    record { left = rest; are_left = next.1; are = append_assoc made (row ∷ []) (filter p rest) ∙ ap (λ xs. made ++ xs) (sym first) ∙ are }

rows-off : (ks : SystemFlags) (all left made : List SatelliteRow) (row : SatelliteRow) (rows' : MixedRowsView) → IsNextRowOf left row rows' → keeps_row ks row ≡ false
    → made ++ filter (λ r. keeps_row ks r) left ≡ filter (λ r. keeps_row ks r) all → HasKeptRows ks all rows' made
rows-off ks all [] made row rows' next off are = absurd next
rows-off ks all (r ∷ rest) made row rows' next off are =
    let p : SatelliteRow → Bool = λ x. keeps_row ks x in
    record { left = rest; are_left = next.1; are = ap (λ xs. made ++ xs) (sym (filter-false p r rest (ap p (sym next.0) ∙ off))) ∙ are }

-- the row that was read is kept, and its line is written
pub lines-more : (ks : SystemFlags) (read rows rows' : MixedRowsView) (lines lines' : MixedLinesView) (row : SatelliteRow) → HasKeptLines ks read rows lines
    → ((xs : List SatelliteRow) → AreRowsLeft rows xs → IsNextRowOf xs row rows') → rows.count ≡ suc rows'.count → keeps_row ks row ≡ true
    → ((xs : List SatelliteRow) → HoldsMixedLines lines xs → HoldsMixedLines lines' (xs ++ row ∷ [])) → HasKeptLines ks read rows' lines'
lines-more ks read rows rows' lines lines' row so_far next count on pushes =
    let long : length (so_far.made ++ row ∷ []) ≡ length so_far.made + 1 = length-append so_far.made (row ∷ []) in
    let room = so_far.room in
    record {
      made = so_far.made ++ row ∷ [];
      holds = pushes so_far.made so_far.holds;
      room = omega (arith, long, room, count);
      so_far = λ e record_of.
          let before = so_far.so_far e record_of in
          rows-on ks e.rows before.left so_far.made row rows' (next before.left before.are_left) on before.are;
    }

-- it is not
pub lines-past : (ks : SystemFlags) (read rows rows' : MixedRowsView) (lines : MixedLinesView) (row : SatelliteRow) → HasKeptLines ks read rows lines
    → ((xs : List SatelliteRow) → AreRowsLeft rows xs → IsNextRowOf xs row rows') → rows.count ≡ suc rows'.count → keeps_row ks row ≡ false → HasKeptLines ks read rows' lines
lines-past ks read rows rows' lines row so_far next count off =
    let room = so_far.room in
    record {
      made = so_far.made;
      holds = so_far.holds;
      room = omega (arith, room, count);
      so_far = λ e record_of.
          let before = so_far.so_far e record_of in
          rows-off ks e.rows before.left so_far.made row rows' (next before.left before.are_left) off before.are;
    }

-- all were read
pub rows-all : (ks : SystemFlags) (all made : List SatelliteRow) (rows : MixedRowsView) → HasKeptRows ks all rows made → ((xs : List SatelliteRow) → AreRowsLeft rows xs → xs ≡ []) → made ≡ filter (λ r. keeps_row ks r) all
rows-all ks all made rows so_far none =
    let p : SatelliteRow → Bool = λ x. keeps_row ks x in
    sym (append-nil made) ∙ ap (λ xs. made ++ filter p xs) (sym (none so_far.left so_far.are_left)) ∙ so_far.are

-- ---- the records

-- the first record that is kept of those that are left is that of all
pub record HasFirst (ks : SystemFlags) (otherwise : ℕ) (all : List EpochTableView) (rest : MixedRecordsView) : Type 0 where
  pub left : List EpochTableView
  pub are_left : AreMixedLeft rest left
  pub same : first_of_part None otherwise (kept_epochs ks left) ≡ first_of_part None otherwise (kept_epochs ks all)

pub first-none : (ks : SystemFlags) (otherwise : ℕ) (all : List EpochTableView) (rest : MixedRecordsView) → AreMixedLeft rest all → HasFirst ks otherwise all rest
first-none ks otherwise all rest are = record { left = all; are_left = are; same = refl }

read-in : (rest rest' : MixedRecordsView) (read : MixedRowsView) (left : List EpochTableView) → AreMixedLeft rest left → ((es : List EpochTableView) → AreMixedLeft rest es → IsNextRecordOf es read rest')
    → IsNextIn (AreMixedLeft rest') (IsRecordIn read) left
read-in rest rest' read left are next = next-answers rest rest' (Some read) left are (next left are)

epoch-on : (ks : SystemFlags) (otherwise : ℕ) (left : List EpochTableView) (rest' : MixedRecordsView) (read : MixedRowsView) → IsNextIn (AreMixedLeft rest') (IsRecordIn read) left
    → ((e : EpochTableView) → IsRecordIn read e → true ≡ keeps_some ks e) → read.time ≡ first_of_part None otherwise (kept_epochs ks left)
epoch-on ks otherwise [] rest' read next on = absurd next
epoch-on ks otherwise (e ∷ es) rest' read next on =
    next.0.0.time
    ∙ sym (ap (λ (xs : List EpochTableView). first_of_part None otherwise (map (λ e. kept_epoch ks e) xs)) (filter-true (λ e. keeps_some ks e) e es (sym (on e next.0))))

-- the record that was read is kept
pub first-found : (ks : SystemFlags) (otherwise : ℕ) (all : List EpochTableView) (rest rest' : MixedRecordsView) (read : MixedRowsView) → HasFirst ks otherwise all rest
    → ((es : List EpochTableView) → AreMixedLeft rest es → IsNextRecordOf es read rest') → ((e : EpochTableView) → IsRecordIn read e → true ≡ keeps_some ks e)
    → read.time ≡ first_of_part None otherwise (kept_epochs ks all)
first-found ks otherwise all rest rest' read so_far next on =
    epoch-on ks otherwise so_far.left rest' read (read-in rest rest' read so_far.left so_far.are_left next) on ∙ so_far.same

epoch-off : (ks : SystemFlags) (otherwise : ℕ) (left : List EpochTableView) (rest' : MixedRecordsView) (read : MixedRowsView) → IsNextIn (AreMixedLeft rest') (IsRecordIn read) left
    → ((e : EpochTableView) → IsRecordIn read e → false ≡ keeps_some ks e)
    → (es : List EpochTableView) × AreMixedLeft rest' es × (first_of_part None otherwise (kept_epochs ks es) ≡ first_of_part None otherwise (kept_epochs ks left))
epoch-off ks otherwise [] rest' read next off = absurd next
epoch-off ks otherwise (e ∷ es) rest' read next off = (
  es,
  next.1,
  sym (ap (λ (xs : List EpochTableView). first_of_part None otherwise (map (λ e. kept_epoch ks e) xs)) (filter-false (λ e. keeps_some ks e) e es (sym (off e next.0)))),
)

-- it is not
pub first-more : (ks : SystemFlags) (otherwise : ℕ) (all : List EpochTableView) (rest rest' : MixedRecordsView) (read : MixedRowsView) → HasFirst ks otherwise all rest
    → ((es : List EpochTableView) → AreMixedLeft rest es → IsNextRecordOf es read rest') → ((e : EpochTableView) → IsRecordIn read e → false ≡ keeps_some ks e) → HasFirst ks otherwise all rest'
first-more ks otherwise all rest rest' read so_far next off =
    let past = epoch-off ks otherwise so_far.left rest' read (read-in rest rest' read so_far.left so_far.are_left next) off in
    record { left = past.0; are_left = past.1; same = past.2 ∙ so_far.same }

-- none is
pub first-all : (ks : SystemFlags) (otherwise : ℕ) (all : List EpochTableView) (rest : MixedRecordsView) → HasFirst ks otherwise all rest → ((es : List EpochTableView) → AreMixedLeft rest es → es ≡ [])
    → otherwise ≡ first_of_part None otherwise (kept_epochs ks all)
first-all ks otherwise all rest so_far none =
    sym (ap (λ (es : List EpochTableView). first_of_part None otherwise (kept_epochs ks es)) (none so_far.left so_far.are_left)) ∙ so_far.same

-- ---- their texts

abbrev pub kept_text : Bool → SystemFlags → List EpochTableView → List ℕ
kept_text doppler ks es = flat_map (mixed_record_text doppler) (kept_epochs ks es)

-- an epoch without such a satellite has no text
no-text : (doppler : Bool) (ks : SystemFlags) (e : EpochTableView) → keeps_some ks e ≡ false → mixed_record_text doppler (kept_epoch ks e) ≡ []
unfolding mixed_record_text
no-text doppler ks e none = ap (λ (rows : List SatelliteRow). mixed_record_text doppler (record { time = e.time; rows = rows })) (none-left (λ r. keeps_row ks r) e.rows none)

text-if : (doppler : Bool) (ks : SystemFlags) (e : EpochTableView) (es : List EpochTableView) (b : Bool) → keeps_some ks e ≡ b
    → kept_text doppler ks (e ∷ es) ≡ mixed_record_text doppler (kept_epoch ks e) ++ kept_text doppler ks es
text-if doppler ks e es true some =
    ap (λ (xs : List EpochTableView). flat_map (mixed_record_text doppler) (map (λ e. kept_epoch ks e) xs)) (filter-true (λ e. keeps_some ks e) e es some)
text-if doppler ks e es false none =
    ap (λ (xs : List EpochTableView). flat_map (mixed_record_text doppler) (map (λ e. kept_epoch ks e) xs)) (filter-false (λ e. keeps_some ks e) e es none)
    ∙ ap (λ (xs : List ℕ). xs ++ kept_text doppler ks es) (sym (no-text doppler ks e none))

-- what is written and what is left make the text of all
pub record HasPutRecords (doppler : Bool) (ks : SystemFlags) (all : List EpochTableView) (rest : MixedRecordsView) (before now : List ℕ) : Type 0 where
  pub left : List EpochTableView
  pub are_left : AreMixedLeft rest left
  pub put : now ++ kept_text doppler ks left ≡ before ++ kept_text doppler ks all

pub put-none : (doppler : Bool) (ks : SystemFlags) (all : List EpochTableView) (rest : MixedRecordsView) (before : List ℕ) → AreMixedLeft rest all → HasPutRecords doppler ks all rest before before
put-none doppler ks all rest before are = record { left = all; are_left = are; put = refl }

put-next : (doppler : Bool) (ks : SystemFlags) (all left : List EpochTableView) (rest' : MixedRecordsView) (read : MixedRowsView) (before now now' : List ℕ) → IsNextIn (AreMixedLeft rest') (IsRecordIn read) left
    → ((e : EpochTableView) → IsRecordIn read e → now' ≡ now ++ mixed_record_text doppler (kept_epoch ks e)) → now ++ kept_text doppler ks left ≡ before ++ kept_text doppler ks all
    → HasPutRecords doppler ks all rest' before now'
put-next doppler ks all [] rest' read before now now' next wrote put = absurd next
put-next doppler ks all (e ∷ es) rest' read before now now' next wrote put = record {
  left = es;
  are_left = next.1;
  put = ap (λ (xs : List ℕ). xs ++ kept_text doppler ks es) (wrote e next.0)
      ∙ append_assoc now (mixed_record_text doppler (kept_epoch ks e)) (kept_text doppler ks es)
      ∙ ap (λ (xs : List ℕ). now ++ xs) (sym (text-if doppler ks e es (keeps_some ks e) refl)) ∙ put;
}

pub put-more : (doppler : Bool) (ks : SystemFlags) (all : List EpochTableView) (rest rest' : MixedRecordsView) (read : MixedRowsView) (before now now' : List ℕ) → HasPutRecords doppler ks all rest before now
    → ((es : List EpochTableView) → AreMixedLeft rest es → IsNextRecordOf es read rest') → read.form.doppler ≡ doppler
    → ((e : EpochTableView) → IsRecordIn read e → now' ≡ now ++ mixed_record_text read.form.doppler (kept_epoch ks e)) → HasPutRecords doppler ks all rest' before now'
put-more doppler ks all rest rest' read before now now' so_far next form wrote =
    put-next doppler ks all so_far.left rest' read before now now' (read-in rest rest' read so_far.left so_far.are_left next)
    (λ e is. wrote e is ∙ ap (λ (d : Bool). now ++ mixed_record_text d (kept_epoch ks e)) form) so_far.put

pub put-all : (doppler : Bool) (ks : SystemFlags) (all : List EpochTableView) (rest : MixedRecordsView) (before now : List ℕ) → HasPutRecords doppler ks all rest before now
    → ((es : List EpochTableView) → AreMixedLeft rest es → es ≡ []) → now ≡ before ++ kept_text doppler ks all
put-all doppler ks all rest before now so_far none =
    sym (append-nil now) ∙ ap (λ (es : List EpochTableView). now ++ kept_text doppler ks es) (sym (none so_far.left so_far.are_left)) ∙ so_far.put
